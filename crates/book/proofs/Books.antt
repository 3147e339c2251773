-- The lines of a book: of each kind in order, all together sorted; how a line is added. Assumes nothing.
use Rattle.std.proofs.Common.{◌≡◌, ℕ, ◌^◌, ◌<◌, ◌≤◌, Bool, true, false, ltb, List, [], ◌∷◌, ◌++◌, map, length, take, Some, None, Option, sym, refl, ◌∙◌, inl, inr, arith}
use native.Mathlib.Bridge.{le_prop}
use base.Stored.{Coded-set, coded_ℕ}
use Rattle.std.specs.List.{flat_map, AllByRecursion}
use Rattle.std.proofs.lemmas.Bool.{cond-false, le-ltb}
use Rattle.std.proofs.ByRecursion.{All-weaker, All-map, All-take}
use Rattle.text.specs.declared.line.Line.{Line}
use Rattle.text.specs.declared.line.Line.TheVariants as line
use Rattle.text.specs.Numerals.{kept}
use Rattle.text.specs.Meaning.{Within}
use Rattle.text.specs.declared.line.Rule.{Rule}
use Rattle.text.specs.declared.line.Rule.TheVariants.{Order, Notice}
use Rattle.book.specs.declared.tables.Book.{Book}
use Rattle.book.specs.Order.{Ascending, among, put}
use Rattle.book.specs.Ranks.{Kind, rules, opens, watches, links, ends, bares, kind, start, rank, Sorted, phase_rank, watch_rank, link_rank}
use Rattle.book.specs.Tables.{Along, AtNumber, rule_line, end_line, bare_line}
use Rattle.book.specs.Lines.{lines_of, lines}
use Rattle.book.specs.Entering.{clashes, many}
use Rattle.book.proofs.Ascent.{all_told, ascending_told, ascending_map}
use Rattle.book.proofs.ByKind.{Of, before, behind, framed, sorted, all_within, among_kind, put_kind, many_kind}
use Rattle.book.proofs.Seats.{Seat, Seated, along_told, along_weaker, along_below, seats_of, seats_up}

-- ---- what stands at a number

at_number_prop : (n : ℕ) (r : Option Rule) → IsProp (AtNumber n r)
at_number_prop n None p q = refl
at_number_prop n (Some (Order o)) p q = Coded-set coded_ℕ o.number.value n p q
at_number_prop n (Some (Notice o)) p q = Coded-set coded_ℕ o.number.value n p q

rule_seat : (n : ℕ) (r : Option Rule) → AtNumber n r → Seat rules n (rule_line n r)
rule_seat n None h = inl refl
rule_seat n (Some (Order o)) h = inr (line.Order o, (refl, ((refl, tt), omega arith)))
rule_seat n (Some (Notice o)) h = inr (line.Notice o, (refl, ((refl, tt), omega arith)))

pub kept_is : (max n : ℕ) → n ≤ max → (kept max n).value ≡ n
kept_is max n le = cond-false (ltb max n) 0 n (le-ltb max n le)

end_seat : (n : ℕ) (t : Bool) → n < 64 → Seat ends n (end_line n t)
end_seat n false lt = inl refl
end_seat n true lt = let e = kept_is 63 n (omega arith) in inr (line.End (kept 63 n), (refl, ((refl, tt), omega arith)))

bare_seat : (n : ℕ) (t : Bool) → n < 16 → Seat bares n (bare_line n t)
bare_seat n false lt = inl refl
bare_seat n true lt = let e = kept_is 15 n (omega arith) in inr (line.Bare (kept 15 n), (refl, ((refl, tt), omega arith)))

pub at_numbers : (b : Book) → Along AtNumber 0 b.rules
at_numbers b = along_told AtNumber at_number_prop 0 b.rules b.numbered.1

pub rules_seated : (b : Book) → Seated rule_line rules 0 b.rules
rules_seated b = along_weaker AtNumber (λ m x. Seat rules m (rule_line m x)) rule_seat 0 b.rules (at_numbers b)

pub ends_seated : (b : Book) → Seated end_line ends 0 b.ends
ends_seated b = let long = b.marked.0 in along_weaker (λ i _. i < 64) (λ m x. Seat ends m (end_line m x)) end_seat 0 b.ends (along_below 64 0 b.ends (omega arith))

pub bares_seated : (b : Book) → Seated bare_line bares 0 b.bares
bares_seated b = let long = b.marked.1 in along_weaker (λ i _. i < 16) (λ m x. Seat bares m (bare_line m x)) bare_seat 0 b.bares (along_below 16 0 b.bares (omega arith))

-- ---- the lines of a kind

each : {X : Type 0} (k : Kind) (f : X → Line) → ((x : X) → Of k (f x)) → (xs : List X) → AllByRecursion (Of k) (map f xs)
each k f h [] = tt
each k f h (x ∷ xs) = (h x, each k f h xs)

pub phases : (b : Book) → AllByRecursion (λ F. F < 2 ^ 64) b.opens
phases b = all_told (λ F. F < 2 ^ 64) (λ F. le_prop) b.opens b.phases

pub of_kind : (b : Book) (k : Kind) → AllByRecursion (Of k) (lines_of b k)
of_kind b rules = seats_of rule_line rules 0 b.rules (rules_seated b)
of_kind b opens =
    All-map (Of opens) line.Open (take b.opening b.opens)
    (All-take (λ F. Of opens (line.Open F)) b.opening b.opens (All-weaker (λ F. F < 2 ^ 64) (λ F. Of opens (line.Open F)) (λ F lt. (refl, lt)) b.opens (phases b)))
of_kind b watches = each watches line.Watch (λ w. (refl, tt)) (take b.watching b.watches)
of_kind b links = each links line.Link (λ k. (refl, tt)) (take b.linking b.links)
of_kind b ends = seats_of end_line ends 0 b.ends (ends_seated b)
of_kind b bares = seats_of bare_line bares 0 b.bares (bares_seated b)

up_kind : (b : Book) (k : Kind) → Ascending rank (lines_of b k)
up_kind b rules = seats_up rule_line rules 0 b.rules (rules_seated b)
up_kind b opens = ascending_map line.Open rank phase_rank (start opens) (λ F. refl) (take b.opening b.opens) (ascending_told phase_rank _ b.opened.2)
up_kind b watches = ascending_map line.Watch rank watch_rank (start watches) (λ w. refl) (take b.watching b.watches) (ascending_told watch_rank _ b.watched.2)
up_kind b links = ascending_map line.Link rank link_rank (start links) (λ k. refl) (take b.linking b.links) (ascending_told link_rank _ b.linked.2)
up_kind b ends = seats_up end_line ends 0 b.ends (ends_seated b)
up_kind b bares = seats_up bare_line bares 0 b.bares (bares_seated b)

-- ---- all lines

pub sorted_lines : (b : Book) → Sorted (lines b)
unfolding lines
sorted_lines b = sorted (lines_of b) (of_kind b) (up_kind b)

pub within_lines : (b : Book) → AllByRecursion Within (lines b)
unfolding lines
within_lines b = all_within (lines_of b) (of_kind b)

pub clash_kind : (b : Book) (l : Line) → Within l → clashes (lines b) l ≡ among rank (rank l) (lines_of b (kind l))
unfolding lines
clash_kind b l w = among_kind (lines_of b) (of_kind b) l w

pub many_lines : (b : Book) (k : Kind) → many k (lines b) ≡ length (lines_of b k)
unfolding lines
many_lines b k = many_kind (lines_of b) (of_kind b) k

same_joined : (b c : Book) (js : List Kind) → AllByRecursion (λ j. lines_of c j ≡ lines_of b j) js → flat_map (lines_of c) js ≡ flat_map (lines_of b) js
same_joined b c [] h = refl
same_joined b c (j ∷ js) h = λ i. h.0 i ++ same_joined b c js h.1 i

-- a line that is put among its kind, with no other change, is put among all lines
pub put_lines : (b c : Book) (l : Line) → Within l → AllByRecursion (λ j. lines_of c j ≡ lines_of b j) (before (kind l)) → AllByRecursion (λ j. lines_of c j ≡ lines_of b j) (behind (kind l))
    → lines_of c (kind l) ≡ put rank l (lines_of b (kind l)) → lines c ≡ put rank l (lines b)
unfolding lines
put_lines b c l w front back mid =
    framed (lines_of c) (kind l)
    ∙ (λ i. same_joined b c (before (kind l)) front i ++ (mid i ++ same_joined b c (behind (kind l)) back i))
    ∙ sym (put_kind (lines_of b) (of_kind b) l w)
