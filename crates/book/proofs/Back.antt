-- The text of a book, cut into lines and entered, gives the book's lines again. Assumes nothing.
use Rattle.std.proofs.Common.{◌≡◌, ℕ, ◌+◌, ◌<◌, ◌≤◌, false, eqb, List, [], ◌∷◌, ◌++◌, map, length, Ok, filter, sym, refl, ap, ◌∙◌, subst, append_assoc, append-nil, arith}
use Rattle.std.specs.List.{flat_map, AllByRecursion}
use Rattle.std.proofs.lemmas.List.{length-append}
use Rattle.std.proofs.lemmas.Bool.{cond-false, ne_eqb, lt-leb}
use Rattle.std.proofs.lemmas.List.Elements.{filter-append}
use Rattle.std.proofs.ByRecursion.{All-weaker}
use Rattle.text.specs.declared.line.Line.{Line}
use Rattle.text.specs.declared.line.Line.TheVariants.{Order, Notice, Open, Watch, Link, End, Bare}
use Rattle.text.specs.Forms.{text}
use Rattle.text.specs.Meaning.{Within}
use Rattle.text.proofs.Right.{reads_right}
use Rattle.text.proofs.Texts.{text_one_line}
use Rattle.book.specs.declared.tables.Book.{Book}
use Rattle.book.specs.Order.{put}
use Rattle.book.specs.Ranks.{Kind, opens, watches, links, kind, rank, Sorted}
use Rattle.book.specs.Lines.{lines}
use Rattle.book.specs.Entering.{same_kind, many, full, entered, and_then, entered_all}
use Rattle.book.specs.Writing.{ended, book_text, before_first, split, ReadsBack}
use Rattle.book.proofs.Ascent.{put_low, among_none}
use Rattle.book.proofs.Books.{sorted_lines, within_lines}
use Rattle.book.proofs.Entries.{opens_rows, watches_rows, links_rows, rows_many}
use Rattle.book.proofs.Joining.{went_in}

-- ---- cutting

pub cut_line : (s t : List ℕ) → AllByRecursion (λ b. b ≡ 10 → ⊥) s → split (s ++ 10 ∷ t) ≡ s ∷ split t
cut_line [] t h = refl
cut_line (b ∷ s) t h =
    cond-false (eqb b 10) ([] ∷ split (s ++ 10 ∷ t)) (before_first b (split (s ++ 10 ∷ t))) (ne_eqb b 10 h.0) ∙ ap (before_first b) (cut_line s t h.1)

cut_book : (ls : List Line) → AllByRecursion Within ls → split (book_text ls) ≡ map text ls
unfolding book_text
cut_book [] h = refl
cut_book (l ∷ ls) h =
    ap split (append_assoc (text l) (10 ∷ []) (flat_map ended ls)) ∙ cut_line (text l) (flat_map ended ls) (text_one_line l h.0) ∙ ap (λ ss. text l ∷ ss) (cut_book ls h.1)

-- ---- entering

-- no more lines than a book holds
abbrev Roomy : List Line → Type 0
Roomy ls = (many opens ls ≤ 8) × ((many watches ls ≤ 128) × (many links ls ≤ 128))

many_before : (k : Kind) (xs ys : List Line) → many k (xs ++ ys) ≡ many k xs + many k ys
many_before k xs ys = ap length (filter-append (λ l. same_kind (kind l) k) xs ys) ∙ length-append (filter (λ l. same_kind (kind l) k) xs) (filter (λ l. same_kind (kind l) k) ys)

not_full : (xs : List Line) (l : Line) (ys : List Line) → Roomy (xs ++ l ∷ ys) → full xs l ≡ false
not_full xs (Order o) ys h = refl
not_full xs (Notice n) ys h = refl
not_full xs (Open F) ys h = let a = many_before opens xs (Open F ∷ ys) in let b = h.0 in lt-leb 8 (many opens xs) (omega arith)
not_full xs (Watch w) ys h = let a = many_before watches xs (Watch w ∷ ys) in let b = h.1.0 in lt-leb 128 (many watches xs) (omega arith)
not_full xs (Link k) ys h = let a = many_before links xs (Link k ∷ ys) in let b = h.1.1 in lt-leb 128 (many links xs) (omega arith)
not_full xs (End t) ys h = refl
not_full xs (Bare p) ys h = refl

lower_before : (xs : List Line) (l : Line) (ys : List Line) → Sorted (xs ++ l ∷ ys) → AllByRecursion (λ x. rank x < rank l) xs
lower_before [] l ys up = tt
lower_before (x ∷ xs) l ys up = (behind up.0, lower_before xs l ys up.1)
  where
    behind : AllByRecursion (λ y. rank x < rank y) (xs ++ l ∷ ys) → rank x < rank l
    behind h = at xs h
      where
        at : (zs : List Line) → AllByRecursion (λ y. rank x < rank y) (zs ++ l ∷ ys) → rank x < rank l
        at [] g = g.0
        at (z ∷ zs) g = at zs g.1

-- a line that ranks above all others goes behind them
entered_next : (xs : List Line) (l : Line) (ys : List Line) → Within l → Sorted (xs ++ l ∷ ys) → Roomy (xs ++ l ∷ ys) → entered xs (text l) ≡ Ok (xs ++ l ∷ [])
entered_next xs l ys w up room =
    let low = lower_before xs l ys up in
    went_in xs (text l) l ((reads_right (text l)).1 (Ok l) (w, refl)) (among_none rank (rank l) xs (All-weaker (λ x. rank x < rank l) (λ x. rank x ≡ rank l → ⊥) (λ x lt e. omega arith) xs low)) (not_full xs l ys room)
    ∙ ap Ok (ap (put rank l) (sym (append-nil xs)) ∙ put_low rank l xs [] low)

entered_rest : (xs ys : List Line) → AllByRecursion Within ys → Sorted (xs ++ ys) → Roomy (xs ++ ys) → entered_all xs (map text ys) ≡ Ok (xs ++ ys)
entered_rest xs [] w up room = ap Ok (sym (append-nil xs))
entered_rest xs (l ∷ ys) w up room =
    let e = append_assoc xs (l ∷ []) ys in
    ap (λ r. and_then r (λ ms. entered_all ms (map text ys))) (entered_next xs l ys w.0 up room)
    ∙ entered_rest (xs ++ l ∷ []) ys w.1 (subst Sorted (sym e) up) (subst Roomy (sym e) room) ∙ ap Ok e

roomy_lines : (b : Book) → Roomy (lines b)
roomy_lines b =
    let o = rows_many (opens_rows b) in
    let w = rows_many (watches_rows b) in
    let k = rows_many (links_rows b) in
    let few = b.opened.1 in
    let few' = b.watched.1 in
    let few'' = b.linked.1 in
    (omega arith, (omega arith, omega arith))

pub reads_back : (b : Book) → ReadsBack (lines b)
reads_back b = ap (entered_all []) (cut_book (lines b) (within_lines b)) ∙ entered_rest [] (lines b) (within_lines b) (sorted_lines b) (roomy_lines b)
