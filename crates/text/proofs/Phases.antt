-- A phase is the set of its members: its numbers in rising order give the phase back, and rising numbers are the members of
-- the phase that they make. Assumes nothing.
use Rattle.std.proofs.Common.{◌≡◌, ℕ, zero, suc, ◌+◌, ◌*◌, ◌/◌, ◌%◌, ◌^◌, ◌<◌, ◌≤◌, cond, eqb, List, [], ◌∷◌, ◌++◌, length, sym, refl, ap, ◌∙◌, append_assoc, lt_of_lt_of_le, mod-eq_of_lt, one-mul, zero-add, zero-mul, arith}
use native.Mathlib.Nat.{mod-one, div-eq_of_lt, pow-le-pow_right}
use native.Mathlib.Decide.{le_ind}
use lib.Bits.{bit_or, or_shifted_r}
use Rattle.std.specs.List.{AllByRecursion}
use Rattle.std.proofs.lemmas.List.{append-nil, length-append}
use Rattle.std.proofs.lemmas.Bool.{cond_both, eqb-true, eqb-false}
use Rattle.std.proofs.lemmas.Nat.{pow_pos, pow_below, or_lt, mod-pow-add, mod_below, shr_high, mod_low}
use Rattle.text.specs.Phases.{has, members_below, members, with_all}

-- numbers that rise strictly, the first at least `least` and each below `top`
abbrev pub Rising : (least top : ℕ) → List ℕ → Type 0
Rising least top [] = Unit {0}
Rising least top (n ∷ ns) = (least ≤ n) × ((n < top) × Rising (n + 1) top ns)

pub rising_all : (least top : ℕ) (ns : List ℕ) → Rising least top ns → AllByRecursion (λ n. n < top) ns
rising_all least top [] r = tt
rising_all least top (n ∷ ns) r = (r.1.0, rising_all (n + 1) top ns r.1.1)

-- one bit more

low : (n F : ℕ) → F % 2 ^ n < 2 ^ n
low n F = mod_below F (2 ^ n) (pow_pos n)

split : (n F : ℕ) → F % 2 ^ suc n ≡ (F / 2 ^ n % 2) * 2 ^ n + F % 2 ^ n
split n F = ap (λ k. F % 2 ^ k) (let e : suc n ≡ 1 + n = omega arith in e) ∙ mod-pow-add F 1 n

with_bit : (n set : ℕ) → set < 2 ^ n → bit_or set (2 ^ n) ≡ 1 * 2 ^ n + set
with_bit n set lt = ap (bit_or set) (sym (one-mul (2 ^ n))) ∙ or_shifted_r 1 n set lt

-- the members give the phase back

with_all_append : (set : ℕ) (ms ns : List ℕ) → with_all set (ms ++ ns) ≡ with_all (with_all set ms) ns
with_all_append set [] ns = refl
with_all_append set (m ∷ ms) ns = with_all_append (bit_or set (2 ^ m)) ms ns

with_below : (n F : ℕ) → with_all 0 (members_below n F) ≡ F % 2 ^ n
with_below zero F = sym (mod-one F)
with_below (suc n) F =
    with_all_append 0 (members_below n F) (cond (has F n) (n ∷ []) [])
    ∙ ap (λ set. with_all set (cond (has F n) (n ∷ []) [])) (with_below n F)
    ∙ cond_both (has F n) (n ∷ []) [] (λ ns. with_all (F % 2 ^ n) ns ≡ F % 2 ^ suc n)
    (λ e.
    with_bit n (F % 2 ^ n) (low n F) ∙ ap (λ b. b * 2 ^ n + F % 2 ^ n) (sym (eqb-true (F / 2 ^ n % 2) 1 e)) ∙ sym (split n F))
    (λ e.
    let b : F / 2 ^ n % 2 ≡ 0 = omega (arith, eqb-false (F / 2 ^ n % 2) 1 e) in
    sym (split n F ∙ ap (λ b. b * 2 ^ n + F % 2 ^ n) b ∙ ap (λ x. x + F % 2 ^ n) (zero-mul (2 ^ n)) ∙ zero-add (F % 2 ^ n)))

pub with_members : (F : ℕ) → F < 2 ^ 64 → with_all 0 (members F) ≡ F
unfolding members
with_members F lt = with_below 64 F ∙ mod-eq_of_lt lt

-- the members rise

rising_more : (least top : ℕ) (ns : List ℕ) → Rising least top ns → Rising least (suc top) ns
rising_more least top [] r = tt
rising_more least top (n ∷ ns) r = (r.0, (omega arith, rising_more (n + 1) top ns r.1.1))

rising_push : (least top : ℕ) (ns : List ℕ) → least ≤ top → Rising least top ns → Rising least (suc top) (ns ++ (top ∷ []))
rising_push least top [] le r = (le, (omega arith, tt))
rising_push least top (n ∷ ns) le r = (r.0, (omega arith, rising_push (n + 1) top ns (omega arith) r.1.1))

rising_below : (n F : ℕ) → Rising 0 n (members_below n F)
rising_below zero F = tt
rising_below (suc n) F =
    cond_both (has F n) (n ∷ []) [] (λ ns. Rising 0 (suc n) (members_below n F ++ ns))
    (λ e. rising_push 0 n (members_below n F) (omega arith) (rising_below n F))
    (λ e. rw append-nil (rising_more 0 n (members_below n F) (rising_below n F)))

pub rising_members : (F : ℕ) → Rising 0 64 (members F)
unfolding members
rising_members F = rising_below 64 F

-- how many there are

length_below : (n F : ℕ) → length (members_below n F) ≤ n
length_below zero F = omega arith
length_below (suc n) F =
    cond_both (has F n) (n ∷ []) [] (λ ns. length (members_below n F ++ ns) ≤ suc n)
    (λ e. omega (arith, length-append (members_below n F) (n ∷ []), length_below n F))
    (λ e. omega (arith, length-append (members_below n F) [], length_below n F))

pub length_members : (F : ℕ) → length (members F) ≤ 64
unfolding members
length_members F = length_below 64 F

-- rising numbers make a phase

with_all_lt : (least top set : ℕ) (ns : List ℕ) → set < 2 ^ top → Rising least top ns → with_all set ns < 2 ^ top
with_all_lt least top set [] lt r = lt
with_all_lt least top set (n ∷ ns) lt r =
    with_all_lt (n + 1) top (bit_or set (2 ^ n)) ns (or_lt top set (2 ^ n) lt (pow_below n top r.1.0)) r.1.1

pub with_all_fits : (ns : List ℕ) → Rising 0 64 ns → with_all 0 ns < 2 ^ 64
with_all_fits ns r = with_all_lt 0 64 0 ns (omega arith) r

-- the numbers are its members

members_same : (n F G : ℕ) → F % 2 ^ n ≡ G % 2 ^ n → members_below n F ≡ members_below n G
members_same zero F G e = refl
members_same (suc n) F G e =
    let s : (F / 2 ^ n % 2) * 2 ^ n + F % 2 ^ n ≡ (G / 2 ^ n % 2) * 2 ^ n + G % 2 ^ n = sym (split n F) ∙ e ∙ split n G in
    let high : F / 2 ^ n % 2 ≡ G / 2 ^ n % 2 =
    sym (shr_high (F / 2 ^ n % 2) n (F % 2 ^ n) (low n F)) ∙ ap (λ x. x / 2 ^ n) s ∙ shr_high (G / 2 ^ n % 2) n (G % 2 ^ n) (low n G)
    in
    let rest : F % 2 ^ n ≡ G % 2 ^ n =
    sym (mod_low (F / 2 ^ n % 2) n (F % 2 ^ n) (low n F)) ∙ ap (λ x. x % 2 ^ n) s ∙ mod_low (G / 2 ^ n % 2) n (G % 2 ^ n) (low n G)
    in
    λ i. members_same n F G rest i ++ cond (eqb (high i) 1) (n ∷ []) []

below_more : (least n set : ℕ) → set < 2 ^ least → least ≤ n → set < 2 ^ n
below_more least n set lt le = lt_of_lt_of_le lt (pow-le-pow_right (pow_pos 1) le)

-- a phase has no member from the power on that it is below
members_past : (least top set : ℕ) → set < 2 ^ least → least ≤ top → members_below top set ≡ members_below least set
members_past least top set lt le =
    le_ind (λ m. members_below m set ≡ members_below least set) refl
    (λ m k e.
    let none : set / 2 ^ m ≡ 0 = div-eq_of_lt (below_more least m set lt k) in
    ap (λ x. members_below m set ++ cond (eqb (x % 2) 1) (m ∷ []) []) none ∙ append-nil (members_below m set) ∙ e)
    top le

members_with_bit : (n set : ℕ) → set < 2 ^ n → members_below (suc n) (bit_or set (2 ^ n)) ≡ members_below n set ++ (n ∷ [])
members_with_bit n set lt =
    let e : bit_or set (2 ^ n) ≡ 1 * 2 ^ n + set = with_bit n set lt in
    let rest : bit_or set (2 ^ n) % 2 ^ n ≡ set % 2 ^ n = ap (λ x. x % 2 ^ n) e ∙ mod_low 1 n set lt ∙ sym (mod-eq_of_lt lt) in
    let top : bit_or set (2 ^ n) / 2 ^ n ≡ 1 = ap (λ x. x / 2 ^ n) e ∙ shr_high 1 n set lt in
    λ i. members_same n (bit_or set (2 ^ n)) set rest i ++ cond (eqb (top i % 2) 1) (n ∷ []) []

members_with : (least top set : ℕ) (ns : List ℕ) → set < 2 ^ least → least ≤ top → Rising least top ns → members_below top (with_all set ns) ≡ members_below least set ++ ns
members_with least top set [] lt le r = members_past least top set lt le ∙ sym (append-nil (members_below least set))
members_with least top set (n ∷ ns) lt le r =
    let here : set < 2 ^ n = below_more least n set lt r.0 in
    let one : n + 1 ≡ suc n = omega arith in
    let more : bit_or set (2 ^ n) < 2 ^ (n + 1) =
    or_lt (n + 1) set (2 ^ n) (below_more n (n + 1) set here (omega arith)) (pow_below n (n + 1) (omega arith))
    in
    members_with (n + 1) top (bit_or set (2 ^ n)) ns more (omega arith) r.1.1
    ∙ ap (λ k. members_below k (bit_or set (2 ^ n)) ++ ns) one
    ∙ ap (λ ms. ms ++ ns) (members_with_bit n set here ∙ ap (λ ms. ms ++ (n ∷ [])) (members_past least n set lt r.0))
    ∙ append_assoc (members_below least set) (n ∷ []) ns

pub members_with_all : (ns : List ℕ) → Rising 0 64 ns → members (with_all 0 ns) ≡ ns
unfolding members
members_with_all ns r = members_with 0 64 0 ns (omega arith) (omega arith) r
