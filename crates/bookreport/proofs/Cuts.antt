-- The first line of a text. Assumes nothing.
use Rattle.std.proofs.Common.{◌≡◌, ℕ, zero, suc, ◌+◌, ◌-◌, ◌<◌, ◌≤◌, min, true, false, eqb, List, [], ◌∷◌, ◌++◌, length, get_or, take, drop, Some, None, Option, unwrap_or, Bor, sym, refl, ap, ◌∙◌, subst, ⊎_elim, append-nil, arith}
use lib.Pointwise.{pointwise}
use Rattle.std.proofs.lemmas.List.{take-append-drop, take_all, take_more, drop_more, drop_all, take_at, drop_at, length-append, length_push, nil_from_length}
use Rattle.std.proofs.lemmas.Bool.{cond-false, ne_eqb, eqb-true, eqb-false, cases_lt, true≢false}
use Rattle.std.proofs.Math.Bool.{and-true}
use Rattle.std.proofs.ByRecursion.{All-get_or}
use Rattle.std.specs.List.{AllByRecursion, AllWithin, IsFirstMatchOrLen}
use Rattle.std.specs.Option.{MatchOption}
use Rattle.book.specs.Writing.{split, before_first}
use Rattle.book.proofs.Back.{cut_line}

-- no byte of it ends a line
abbrev pub Whole : List ℕ → Type 0
Whole s = AllByRecursion (λ b. b ≡ 10 → ⊥) s

split_on : (b : ℕ) (s : List ℕ) → (b ≡ 10 → ⊥) → split (b ∷ s) ≡ before_first b (split s)
split_on b s other = cond-false (eqb b 10) ([] ∷ split s) (before_first b (split s)) (ne_eqb b 10 other)

split_all : (b : ℕ) (s : List ℕ) → Whole (b ∷ s) → split (b ∷ s) ≡ (b ∷ s) ∷ []
split_all b [] h = split_on b [] h.0
split_all b (c ∷ s) h = split_on b (c ∷ s) h.0 ∙ ap (before_first b) (split_all c s h.1)

-- the byte at i ends the first line
pub split_here : (s : List ℕ) (i : ℕ) → i < length s → Whole (take i s) → get_or s i 0 ≡ 10 → split s ≡ take i s ∷ split (drop (i + 1) s)
split_here s i lt h e =
    ap split (sym (take-append-drop i s) ∙ ap (λ l. take i s ++ l) (drop_more s i 0 lt ∙ ap (λ b. b ∷ drop (i + 1) s) e))
    ∙ cut_line (take i s) (drop (i + 1) s) h

whole_line : (s : List ℕ) → 0 < length s → Whole s → split s ≡ s ∷ []
whole_line [] some h = absurd (omega arith)
whole_line (b ∷ s) some h = split_all b s h

-- no byte ends it
pub split_last : (s : List ℕ) (i : ℕ) → length s ≤ i → 0 < length s → Whole (take i s) → split s ≡ s ∷ []
split_last s i le some h = whole_line s some (subst Whole (take_all i s le) h)

whole_front : (w : List ℕ) (i : ℕ) → AllWithin (λ b. eqb b 10 ≡ false) w 0 i → Whole (take i w)
whole_front [] zero h = tt
whole_front [] (suc i) h = tt
whole_front (b ∷ w) zero h = tt
whole_front (b ∷ w) (suc i) h = (eqb-false b 10 (h 0 b (omega arith) (omega arith)), whole_front w i (λ k d low high. h (suc k) d (omega arith) (omega arith)))

-- a piece without the byte that ends it, if one does
abbrev pub Stripped : List ℕ → Option (Bor (List ℕ)) → Type 0
Stripped x r = MatchOption r (pointwise eqb (drop (length x - 1) x) (10 ∷ []) ≡ false)
    (λ z. (pointwise eqb (drop (length x - 1) x) (10 ∷ []) ≡ true) × (z.now ≡ take (length x - 1) x) × (length z.now + 1 ≡ length x))

strip_ended : (p : List ℕ) (x : Bor (List ℕ)) (r : Option (Bor (List ℕ))) → x.now ≡ p ++ 10 ∷ [] → Stripped x.now r → (unwrap_or r x).now ≡ p
strip_ended p x None is h =
    let long = ap length is ∙ length_push p 10 in
    let n : length x.now - 1 ≡ length p = omega arith in
    absurd (true≢false (sym ((λ i. pointwise eqb (drop (n i) (is i)) (10 ∷ [])) ∙ ap (λ l. pointwise eqb l (10 ∷ [])) (drop_at p (10 ∷ []) (length p) refl)) ∙ h))
strip_ended p x (Some z) is h =
    let long = ap length is ∙ length_push p 10 in
    let n : length x.now - 1 ≡ length p = omega arith in
    h.1 ∙ (λ i. take (n i) (is i)) ∙ take_at p (10 ∷ []) (length p) refl

strip_whole : (x : Bor (List ℕ)) (r : Option (Bor (List ℕ))) → 0 < length x.now → Whole x.now → Stripped x.now r → (unwrap_or r x).now ≡ x.now
strip_whole x None some h s = refl
strip_whole x (Some z) some h s =
    let n = length x.now - 1 in
    let last = drop_more x.now n 0 (omega arith) ∙ ap (λ l. get_or x.now n 0 ∷ l) (drop_all (n + 1) x.now (omega arith)) in
    let ten = eqb-true (get_or x.now n 0) 10 (sym (and-true (eqb (get_or x.now n 0) 10)) ∙ (sym (ap (λ l. pointwise eqb l (10 ∷ [])) last) ∙ s.0)) in
    absurd (All-get_or (λ b. b ≡ 10 → ⊥) x.now n 0 (omega arith) h ten)

-- a piece up to a byte that ends a line, or up to the end of the text, holds the first line
pub cut : (w t : List ℕ) (x : Bor (List ℕ)) (i : ℕ) (r : Option (Bor (List ℕ))) → w ≡ x.now ++ t → length x.now ≡ min (i + 1) (length w) → IsFirstMatchOrLen (λ b. eqb b 10) w i → 0 < length w → Stripped x.now r
    → split w ≡ (unwrap_or r x).now ∷ split t
cut w t x i r is long at some strip = ⊎_elim inside last (cases_lt i (length w))
  where
    whole : Whole (take i w)
    whole = whole_front w i at.0

    inside : i < length w → split w ≡ (unwrap_or r x).now ∷ split t
    inside lt =
        let size : length x.now ≡ i + 1 = omega arith in
        let ten = eqb-true (get_or w i 0) 10 (at.1 lt 0) in
        let front : x.now ≡ take i w ++ 10 ∷ [] = sym (ap (take (i + 1)) is ∙ take_at x.now t (i + 1) size) ∙ take_more w i 0 lt ∙ ap (λ b. take i w ++ b ∷ []) ten in
        let rest : t ≡ drop (i + 1) w = sym (ap (drop (i + 1)) is ∙ drop_at x.now t (i + 1) size) in
        split_here w i lt whole ten ∙ (λ j. sym (strip_ended (take i w) x r front strip) j ∷ split (sym rest j))

    last : length w ≤ i → split w ≡ (unwrap_or r x).now ∷ split t
    last le =
        let all = ap length is ∙ length-append x.now t in
        let none : t ≡ [] = nil_from_length t (omega arith) in
        let same : x.now ≡ w = sym (is ∙ ap (λ l. x.now ++ l) none ∙ append-nil x.now) in
        let only = subst Whole (take_all i w le ∙ sym same) whole in
        let full = ap length same in
        split_last w i le some whole ∙ (λ j. sym (strip_whole x r (omega arith) only strip ∙ same) j ∷ split (sym none j))
