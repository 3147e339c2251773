-- A book is told by its lines, and so by its text. Assumes nothing.
use Rattle.std.proofs.Common.{◌≡◌, ℕ, ◌-◌, ◌<◌, ◌≤◌, Bool, true, false, cond, List, [], ◌∷◌, ◌++◌, map, length, take, drop, replicate, Some, None, Option, Ok, Result, sym, refl, ap, ◌∙◌, subst, arith}
use denote.Struct.Cover.{Cover-one}
use Rattle.std.specs.List.{ContainsAt as Has, flat_map, AllByRecursion}
use Rattle.std.proofs.lemmas.List.{length-map, length-take-le, take-append-drop}
use Rattle.std.proofs.ByRecursion.{All-weaker, All-append}
use Rattle.text.specs.declared.line.Line.{Line}
use Rattle.text.specs.declared.line.Line.TheVariants as line
use Rattle.text.specs.Numerals.{kept}
use Rattle.text.specs.declared.line.Rule.{Rule}
use Rattle.text.specs.declared.line.Rule.TheVariants.{Order, Notice}
use Rattle.book.specs.declared.refusal.Refusal.{Refusal}
use Rattle.book.specs.declared.tables.Book.{Book}
use Rattle.book.specs.contracts.tables.Book.{the_type}
use Rattle.book.specs.Order.{Tidy}
use Rattle.book.specs.Ranks.{Kind, rules, opens, watches, links, ends, bares, start, stop, rank, phase_rank, watch_rank, link_rank}
use Rattle.book.specs.Tables.{blank_watch, blank_link, rule_line, end_line, bare_line}
use Rattle.book.specs.Lines.{lines_of, lines}
use Rattle.book.specs.Entering.{entered_all}
use Rattle.book.specs.Writing.{book_text, split, SameLines, ToldByText, ToldByLines, Tells}
use Rattle.book.proofs.Ascent.{head_same, tail_same, no_cons, parted, same_members}
use Rattle.book.proofs.ByKind.{Of, of_low, of_high, before, behind, framed, front_low, back_high}
use Rattle.book.proofs.Seats.{seats_same}
use Rattle.book.proofs.Books.{of_kind, sorted_lines, rules_seated, ends_seated, bares_seated}
use Rattle.book.proofs.Barred.{sorted_once}
use Rattle.book.proofs.Back.{reads_back}

same_lines : (b c : Book) → SameLines b c → lines c ≡ lines b
same_lines b c same = same_members rank (lines c) (lines b) (sorted_lines c) (sorted_lines b) (λ x. (same x).1) (λ x. (same x).0)

ok_same : (ls ms : List Line) → ◌≡◌ {A = Result (List Line) Refusal} (Ok ls) (Ok ms) → ls ≡ ms
ok_same ls ms e = cc

told_by_text : (b : Book) → ToldByText b
told_by_text b c = (
  (λ same. ap book_text (same_lines b c same)),
  (λ e x.
      let all : lines c ≡ lines b = ok_same (lines c) (lines b) (sym (reads_back c) ∙ ap (λ t. entered_all [] (split t)) e ∙ reads_back b) in
      ((λ h. subst (λ ls. Has ls x) (sym all) h), (λ h. subst (λ ls. Has ls x) all h))),
)

-- ---- each table by its lines

kind_same : (b c : Book) → lines c ≡ lines b → (k : Kind) → lines_of c k ≡ lines_of b k
unfolding lines
kind_same b c e k =
    let low : (d : Book) → AllByRecursion (λ l. start k ≤ rank l) (lines_of d k) = λ d. All-weaker (Of k) (λ l. start k ≤ rank l) (of_low k) (lines_of d k) (of_kind d k) in
    let most : (d : Book) → AllByRecursion (λ l. rank l < stop k) (lines_of d k) = λ d. All-weaker (Of k) (λ l. rank l < stop k) (of_high k) (lines_of d k) (of_kind d k) in
    let back : (d : Book) → List Line = λ d. flat_map (lines_of d) (behind k) in
    let high : (d : Book) → AllByRecursion (λ l. stop k ≤ rank l) (back d) = λ d. back_high (lines_of d) (of_kind d) k in
    let rest : (d : Book) → AllByRecursion (λ l. start k ≤ rank l) (lines_of d k ++ back d) =
    λ d. All-append (λ l. start k ≤ rank l) (lines_of d k) (back d) (low d) (All-weaker (λ l. stop k ≤ rank l) (λ l. start k ≤ rank l) (λ l le. omega arith) (back d) (high d)) in
    let two = parted rank (start k) (flat_map (lines_of c) (before k)) (lines_of c k ++ back c) (flat_map (lines_of b) (before k)) (lines_of b k ++ back b)
    (front_low (lines_of c) (of_kind c) k) (front_low (lines_of b) (of_kind b) k) (rest c) (rest b) (sym (framed (lines_of c) k) ∙ e ∙ framed (lines_of b) k) in
    (parted rank (stop k) (lines_of c k) (back c) (lines_of b k) (back b) (most c) (most b) (high c) (high b) two.1).0

map_same : {X : Type 0} (f : X → Line) → ((x y : X) → f x ≡ f y → x ≡ y) → (xs ys : List X) → map f xs ≡ map f ys → xs ≡ ys
map_same f one [] [] e = refl
map_same f one [] (y ∷ ys) e = absurd (no_cons (f y) (map f ys) (sym e))
map_same f one (x ∷ xs) [] e = absurd (no_cons (f x) (map f xs) e)
map_same f one (x ∷ xs) (y ∷ ys) e =
    let first = one x y (head_same (f x) (f y) (map f xs) (map f ys) e) in
    let more = map_same f one xs ys (tail_same (f x) (f y) (map f xs) (map f ys) e) in
    λ i. first i ∷ more i

rows_same : {X : Type 0} (f : X → Line) → ((x y : X) → f x ≡ f y → x ≡ y) → (low : X → ℕ) (blank : X) (size : ℕ) (xs ys : List X) (m n : ℕ) → Tidy low blank size xs m → Tidy low blank size ys n
    → map f (take m xs) ≡ map f (take n ys) → (xs ≡ ys) × (m ≡ n)
rows_same f one low blank size xs ys m n p q e =
    let count : m ≡ n =
    (let a = ap length e in let b = length-map (take m xs) f in let c = length-map (take n ys) f in
    let long = p.0 in let few = p.1 in let long' = q.0 in let few' = q.1 in
    let d = length-take-le m xs (omega arith) in let g = length-take-le n ys (omega arith) in omega arith) in
    let used = map_same f one (take m xs) (take n ys) e in
    let rest : drop m xs ≡ drop n ys = p.3 ∙ ap (λ k. replicate (size - k) blank) count ∙ sym q.3 in
    (sym (take-append-drop m xs) ∙ (λ i. used i ++ rest i) ∙ take-append-drop n ys, count)

rule_same : (m : ℕ) (x y : Option Rule) → rule_line m x ≡ rule_line m y → x ≡ y
rule_same m None None e = refl
rule_same m None (Some (Order o)) e = absurd (no_cons _ _ (sym e))
rule_same m None (Some (Notice n)) e = absurd (no_cons _ _ (sym e))
rule_same m (Some (Order o)) None e = absurd (no_cons _ _ e)
rule_same m (Some (Order o)) (Some (Order p)) e = cc
rule_same m (Some (Order o)) (Some (Notice n)) e = cc
rule_same m (Some (Notice n)) None e = absurd (no_cons _ _ e)
rule_same m (Some (Notice n)) (Some (Order o)) e = cc
rule_same m (Some (Notice n)) (Some (Notice o)) e = cc

flag_same : (l : Line) (x y : Bool) → cond x (l ∷ []) [] ≡ cond y (l ∷ []) [] → x ≡ y
flag_same l true true e = refl
flag_same l true false e = absurd (no_cons _ _ e)
flag_same l false true e = absurd (no_cons _ _ (sym e))
flag_same l false false e = refl

told_by_lines : (b : Book) → ToldByLines b
told_by_lines b c same =
    let of = kind_same b c (same_lines b c same) in
    let r = seats_same rule_line rules rule_same 0 c.rules b.rules (c.numbered.0 ∙ sym b.numbered.0) (rules_seated c) (rules_seated b) (of rules) in
    let o = rows_same line.Open (λ x y e. cc) phase_rank 0 8 c.opens b.opens c.opening b.opening c.opened b.opened (of opens) in
    let w = rows_same line.Watch (λ x y e. cc) watch_rank blank_watch 128 c.watches b.watches c.watching b.watching c.watched b.watched (of watches) in
    let k = rows_same line.Link (λ x y e. cc) link_rank blank_link 128 c.links b.links c.linking b.linking c.linked b.linked (of links) in
    let n = seats_same end_line ends (λ m. flag_same (line.End (kept 63 m))) 0 c.ends b.ends (c.marked.0 ∙ sym b.marked.0) (ends_seated c) (ends_seated b) (of ends) in
    let p = seats_same bare_line bares (λ m. flag_same (line.Bare (kept 15 m))) 0 c.bares b.bares (c.marked.1 ∙ sym b.marked.1) (bares_seated c) (bares_seated b) (of bares) in
    Cover-one the_type.cover the_type.propositions c b (λ i. (r i, (o.0 i, (o.1 i, (w.0 i, (w.1 i, (k.0 i, (k.1 i, (n i, (p i, tt))))))))))

pub tells : (b : Book) → Tells b
tells b = record { sorted = sorted_lines b; once = sorted_once (lines b) (sorted_lines b); back = reads_back b; text = told_by_text b; same = told_by_lines b }
