-- The text of a book, line by line. Assumes nothing.
use Rattle.std.proofs.Common.{◌≡◌, ℕ, ◌+◌, ◌-◌, ◌*◌, ◌^◌, ◌<◌, ◌≤◌, Bool, true, false, List, [], ◌∷◌, ◌++◌, map, length, take, drop, set, Some, None, Option, sym, refl, ap, ◌∙◌, append_assoc, append-nil, arith}
use borrow.Rule.Slice.PartMut.{put_mid, post_of}
use Rattle.std.specs.List.{AllByRecursion, flat_map, sum_by}
use Rattle.std.proofs.lemmas.List.{drop_more, set_at, length-append, length-drop, length-map, length-take-le, length_push, take_at, drop_at, drop-drop, drop_all, take_rest}
use Rattle.std.proofs.lemmas.Grind.{flat_map-append}
use Rattle.std.proofs.lemmas.List.Sums.{sum_by-cons}
use Rattle.grade.specs.declared.upto.UpTo.{UpTo}
use Rattle.text.specs.declared.line.Line.{Line}
use Rattle.text.specs.declared.line.Line.TheVariants.{Open, Watch, Link, End, Bare}
use Rattle.text.specs.declared.line.Rule.{Rule}
use Rattle.text.specs.Forms.{text}
use Rattle.text.specs.Meaning.{Within}
use Rattle.text.proofs.Values.{length_text}
use Rattle.book.specs.declared.tables.Book.{Book}
use Rattle.book.specs.Ranks.{Kind, rules, opens, watches, links, ends, bares}
use Rattle.book.specs.Tables.{rule_line, mark_line, end_line, bare_line, by_number}
use Rattle.book.specs.Lines.{lines_of, lines}
use Rattle.book.specs.Writing.{ended, book_text}
use Rattle.book.proofs.Books.{within_lines}

pub ended_length : (l : Line) → length (ended l) ≡ length (text l) + 1
ended_length l = length_push (text l) 10

-- byte 10 put behind a text
pub one_ended : (t out : List ℕ) (n : ℕ) → n ≡ length t → n < length out → set (t ++ drop n out) n 10 ≡ (t ++ 10 ∷ []) ++ drop (n + 1) out
one_ended t out n e lt =
    ap (λ l. set (t ++ l) n 10) (drop_more out n 0 lt) ∙ set_at t _ (drop (n + 1) out) 10 n (sym e) ∙ sym (append_assoc t (10 ∷ []) (drop (n + 1) out))

-- the text e written into the buffer behind t
pub one_written : (t e start out part : List ℕ) (n r : ℕ) → length t ≡ n → out ≡ t ++ drop n start → r ≡ length e → part ≡ e ++ drop r (take (length out - n) (drop n out))
    → put_mid n (length out - n) out part ≡ (t ++ e) ++ drop (n + r) start
one_written t e start out part n r long is size wrote =
    let front : take n out ≡ t = ap (take n) is ∙ take_at t (drop n start) n long in
    let rest : take (length out - n) (drop n out) ≡ drop n start = take_rest out n ∙ ap (drop n) is ∙ drop_at t (drop n start) n long in
    let none : post_of n (length out - n) out ≡ [] = drop_all (length out - n) (drop n out) (let d = length-drop n out in omega arith) in
    (λ i. front i ++ ((wrote ∙ ap (λ l. e ++ drop r l) rest) i ++ none i))
    ∙ ap (λ l. t ++ l) (append-nil (e ++ drop r (drop n start)) ∙ ap (λ l. e ++ l) (drop-drop r n start))
    ∙ sym (append_assoc t e (drop (n + r) start))

-- ---- the text of lines one after another

pub book_text_append : (xs ys : List Line) → book_text (xs ++ ys) ≡ book_text xs ++ book_text ys
unfolding book_text
book_text_append xs ys = flat_map-append ended xs ys

book_text_one : (l : Line) → book_text (l ∷ []) ≡ ended l
unfolding book_text
book_text_one l = append-nil (ended l)

pub no_text : book_text [] ≡ []
unfolding book_text
no_text = refl

-- one line more
pub text_more : (xs : List Line) (l : Line) → book_text (xs ++ l ∷ []) ≡ book_text xs ++ ended l
text_more xs l = book_text_append xs (l ∷ []) ∙ ap (λ t. book_text xs ++ t) (book_text_one l)

-- a line with its end is no longer than what is left of the text
pub text_left : (xs : List Line) (l : Line) (ys ls : List Line) → xs ++ l ∷ ys ≡ ls → length (book_text xs) + length (ended l) ≤ length (book_text ls)
text_left xs l ys ls e =
    let a = ap (λ m. length (book_text m)) (append_assoc xs (l ∷ []) ys ∙ e) in
    let b = ap length (book_text_append (xs ++ l ∷ []) ys ∙ ap (λ t. t ++ book_text ys) (text_more xs l)) in
    let c = length-append (book_text xs ++ ended l) (book_text ys) in
    let d = length-append (book_text xs) (ended l) in
    omega arith

pub text_size : (ls : List Line) → length (book_text ls) ≡ sum_by (λ l. length (text l) + 1) ls
unfolding book_text
text_size [] = refl
text_size (l ∷ ls) =
    let a = length-append (ended l) (flat_map ended ls) in
    let b = ended_length l in
    let c = text_size ls in
    let d = sum_by-cons (λ m. length (text m) + 1) l ls in
    omega arith

-- ---- a book has few lines

rows_few : {X : Type 0} (f : X → Line) (n size : ℕ) (rows : List X) → length rows ≡ size → n ≤ size → length (map f (take n rows)) ≤ size
rows_few f n size rows long le = let a = length-map (take n rows) f in let b = length-take-le n rows (omega arith) in omega arith

seats_few : {X : Type 0} (at : ℕ → X → List Line) → ((n : ℕ) (x : X) → length (at n x) ≤ 1) → (n : ℕ) (xs : List X) → length (by_number at n xs) ≤ length xs
seats_few at one n [] = omega arith
seats_few at one n (x ∷ xs) = let a = length-append (at n x) (by_number at (n + 1) xs) in let b = one n x in let c = seats_few at one (n + 1) xs in omega arith

one_rule : (n : ℕ) (r : Option Rule) → length (rule_line n r) ≤ 1
one_rule n None = omega arith
one_rule n (Some r) = omega arith

one_mark : (max : ℕ) (line : UpTo max → Line) (n : ℕ) (t : Bool) → length (mark_line max line n t) ≤ 1
one_mark max line n true = omega arith
one_mark max line n false = omega arith

pub few_lines : (b : Book) → length (lines b) ≤ 408
unfolding lines
few_lines b =
    let r = seats_few rule_line one_rule 0 b.rules in
    let o = rows_few Open b.opening 8 b.opens b.opened.0 b.opened.1 in
    let w = rows_few Watch b.watching 128 b.watches b.watched.0 b.watched.1 in
    let k = rows_few Link b.linking 128 b.links b.linked.0 b.linked.1 in
    let e = seats_few end_line (one_mark 63 End) 0 b.ends in
    let p = seats_few bare_line (one_mark 15 Bare) 0 b.bares in
    let long = b.numbered.0 in
    let long' = b.marked.0 in
    let long'' = b.marked.1 in
    let c : (k : Kind) (ls : List Line) → length (lines_of b k ++ ls) ≡ length (lines_of b k) + length ls = λ k ls. length-append (lines_of b k) ls in
    let c1 = c rules (lines_of b opens ++ (lines_of b watches ++ (lines_of b links ++ (lines_of b ends ++ (lines_of b bares ++ []))))) in
    let c2 = c opens (lines_of b watches ++ (lines_of b links ++ (lines_of b ends ++ (lines_of b bares ++ [])))) in
    let c3 = c watches (lines_of b links ++ (lines_of b ends ++ (lines_of b bares ++ []))) in
    let c4 = c links (lines_of b ends ++ (lines_of b bares ++ [])) in
    let c5 = c ends (lines_of b bares ++ []) in
    let c6 = c bares [] in
    omega arith

-- and so a short text
text_short : (ls : List Line) → AllByRecursion Within ls → sum_by (λ l. length (text l) + 1) ls ≤ 513 * length ls
text_short [] w = omega arith
text_short (l ∷ ls) w = let a = length_text l w.0 in let b = text_short ls w.1 in let c = sum_by-cons (λ m. length (text m) + 1) l ls in omega arith

pub short_text : (b : Book) → sum_by (λ l. length (text l) + 1) (lines b) < 2 ^ 64
short_text b = let a = text_short (lines b) (within_lines b) in let c = few_lines b in omega arith
