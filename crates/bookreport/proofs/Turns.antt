-- One line more is entered. Assumes nothing.
use Rattle.std.proofs.Common.{◌≡◌, ℕ, ◌+◌, List, [], ◌∷◌, ◌++◌, length, sym, ap, ◌∙◌, append_assoc}
use Rattle.std.proofs.lemmas.List.{length-append}
use Rattle.std.proofs.lemmas.Grind.{flat_map-append}
use Rattle.std.specs.List.{flat_map}
use Rattle.text.specs.declared.line.Line.{Line}
use Rattle.book.specs.Entering.{entered}
use Rattle.book.specs.Writing.{book_text}
use Rattle.bookreport.specs.Report.{Entered, book_after, kept, noted, refused, note_text, words, report}

module _ (ls ms : List Line) (s : List ℕ) (ss rest : List (List ℕ)) (n : ℕ) (is : rest ≡ s ∷ ss) (book : ms ≡ kept ls (entered ls s)) where
  pub book_on : book_after ms ss ≡ book_after ls rest
  book_on = ap (λ l. book_after l ss) book ∙ sym (ap (book_after ls) is)

  parts : refused ls n rest ≡ noted n (entered ls s) ++ refused ms (n + 1) ss
  parts = ap (refused ls n) is ∙ ap (λ l. noted n (entered ls s) ++ refused l (n + 1) ss) (sym book)

  pub notes_on : (before after : List ℕ) → after ≡ before ++ flat_map note_text (noted n (entered ls s)) → after ++ flat_map note_text (refused ms (n + 1) ss) ≡ before ++ flat_map note_text (refused ls n rest)
  notes_on before after e =
      ap (λ l. l ++ flat_map note_text (refused ms (n + 1) ss)) e
      ∙ append_assoc before _ _ ∙ ap (λ l. before ++ l) (sym (ap (flat_map note_text) parts ∙ flat_map-append note_text (noted n (entered ls s)) (refused ms (n + 1) ss)))

  pub count_on : length (noted n (entered ls s)) + length (refused ms (n + 1) ss) ≡ length (refused ls n rest)
  count_on = sym (ap length parts ∙ length-append (noted n (entered ls s)) (refused ms (n + 1) ss))

-- what is printed, put together
pub report_is : (ls : List Line) (s notes out : List ℕ) (read bad : ℕ) → Entered [] s [] ls notes read bad → out ≡ notes ++ book_text ls → out ++ words read bad (length ls) (length (book_text ls)) ≡ report s
report_is ls s notes out read bad h e =
    ap (λ l. l ++ words read bad (length ls) (length (book_text ls))) e ∙ append_assoc notes (book_text ls) (words read bad (length ls) (length (book_text ls)))
    ∙ (λ i. h.notes i ++ (book_text (h.book i) ++ words (h.lines_read i) (h.lines_refused i) (length (h.book i)) (length (book_text (h.book i)))))
