-- What is reported of a text that is entered, line by line, into an empty book.
use Rattle.std.specs.Prelude.{◌≡◌, ℕ, ◌+◌, ◌-◌, List, [], ◌∷◌, ◌++◌, length, Ok, Err, codes, decimal, Result}
use Rattle.std.specs.List.{flat_map}
use Rattle.text.specs.declared.line.Line.{Line}
use Rattle.book.specs.declared.refusal.Refusal.{Refusal}
use Rattle.book.specs.Refusals.{number_of, place_of}
use Rattle.book.specs.Entering.{entered}
use Rattle.book.specs.Writing.{book_text, split}

-- a line of the text and why it was refused
pub record Note : Type 0 where
  pub line : ℕ
  pub refusal : Refusal

-- the book after a line: as it was where that is refused
abbrev pub kept : List Line → Result (List Line) Refusal → List Line
kept ls (Ok ms) = ms
kept ls (Err e) = ls

abbrev pub noted : ℕ → Result (List Line) Refusal → List Note
noted n (Ok ms) = []
noted n (Err e) = record { line = n; refusal = e } ∷ []

-- the book after these lines
abbrev pub book_after : List Line → List (List ℕ) → List Line
book_after ls [] = ls
book_after ls (s ∷ ss) = book_after (kept ls (entered ls s)) ss

-- which of these lines are refused, where the first is line n
abbrev pub refused : List Line → ℕ → List (List ℕ) → List Note
refused ls n [] = []
refused ls n (s ∷ ss) = noted n (entered ls s) ++ refused (kept ls (entered ls s)) (n + 1) ss

-- as in: line 3 refused 2 at 7
abbrev pub note_text : Note → List ℕ
note_text m =
    codes "line " ++ (decimal m.line ++ (codes " refused " ++ (decimal (number_of m.refusal) ++ (codes " at " ++ (decimal (place_of m.refusal) ++ (10 ∷ []))))))

-- what is said at the end
abbrev pub words : ℕ → ℕ → ℕ → ℕ → List ℕ
words read bad standing bytes =
    codes "lines read " ++ (decimal read ++ (codes ", kept " ++ (decimal (read - bad) ++ (codes ", refused " ++ (decimal bad
    ++ (codes "; the book has lines " ++ (decimal standing ++ (codes ", bytes " ++ (decimal bytes ++ (10 ∷ []))))))))))

-- the whole report
abbrev pub report : List ℕ → List ℕ
report s =
    let ss : List (List ℕ) = split s in
    let notes : List Note = refused [] 1 ss in
    let ls : List Line = book_after [] ss in
    flat_map note_text notes ++ (book_text ls ++ words (length ss) (length notes) (length ls) (length (book_text ls)))

-- the book alone
abbrev pub book_alone : List ℕ → List ℕ
book_alone s = book_text (book_after [] (split s))

-- what entering the lines of a text leaves: the book, what is noted behind what was there, and the counts
pub record Entered (before : List Line) (s noted_before : List ℕ) (after : List Line) (noted_after : List ℕ) (read bad : ℕ) : Type 0 where
  pub book : after ≡ book_after before (split s)
  pub notes : noted_after ≡ noted_before ++ flat_map note_text (refused before 1 (split s))
  pub lines_read : read ≡ length (split s)
  pub lines_refused : bad ≡ length (refused before 1 (split s))
