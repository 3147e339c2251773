-- A phase is a set: what is in it after a number is put in or taken out.
use Rattle.std.proofs.Common.{◌≡◌, ℕ, ◌^◌, ◌<◌, true, false, eqb, sym, ap, ◌∙◌, subst, ⊎_elim, arith}
use Rattle.std.proofs.lemmas.Bool.{cases_eq, eq-eqb, eqb-true}
use Rattle.std.proofs.lemmas.Nat.{pow_below, or_lt, xor_lt, and_le_l}
use Rattle.std.proofs.lemmas.Nat.Bits.{bit_at_and, bit_at_or, bit_at_xor, bit_at-pow_same, bit_at-pow_other, bit_at-lt, same_from_bits}
use Rattle.std.specs.Int.{bit_at}
use Rattle.std.specs.Prelude.{bit_and}
use Rattle.text.specs.Phases.{has}
use Rattle.model.specs.Phases.{InForce, without, with}

-- the bits of a phase that a number was put in: that of the number is set, and the others are as they were

with_itself : (F n : ℕ) → bit_at (with F n) n ≡ 1
with_itself F n = omega (arith, bit_at_or F (2 ^ n) n, bit_at-pow_same n, bit_at-lt F n)

with_other : (F n m : ℕ) → (m ≡ n → ⊥) → bit_at (with F n) m ≡ bit_at F m
with_other F n m other = omega (arith, bit_at_or F (2 ^ n) m, bit_at-pow_other n m other)

pub has_with : (F n : ℕ) → has (with F n) n ≡ true
has_with F n = eq-eqb (bit_at (with F n) n) 1 (with_itself F n)

pub has_with_other : (F n m : ℕ) → (m ≡ n → ⊥) → has (with F n) m ≡ has F m
has_with_other F n m other = ap (λ x. eqb x 1) (with_other F n m other)

-- and of one that a number was taken out of

without_itself : (F n : ℕ) → bit_at (without F n) n ≡ 0
without_itself F n = omega (arith, bit_at_xor F (bit_and F (2 ^ n)) n, bit_at_and F (2 ^ n) n, bit_at-pow_same n, bit_at-lt F n)

without_other : (F n m : ℕ) → (m ≡ n → ⊥) → bit_at (without F n) m ≡ bit_at F m
without_other F n m other = omega (arith, bit_at_xor F (bit_and F (2 ^ n)) m, bit_at_and F (2 ^ n) m, bit_at-pow_other n m other, bit_at-lt F m)

pub has_without : (F n : ℕ) → has (without F n) n ≡ false
has_without F n = ap (λ x. eqb x 1) (without_itself F n)

pub has_without_other : (F n m : ℕ) → (m ≡ n → ⊥) → has (without F n) m ≡ has F m
has_without_other F n m other = ap (λ x. eqb x 1) (without_other F n m other)

-- what was in, taken out and put in again, is the same phase
pub with_without : (F n : ℕ) → InForce F n → with (without F n) n ≡ F
with_without F n inside =
    same_from_bits (with (without F n) n) F
    (λ i. ⊎_elim
    (λ e. let P : ℕ → Type 0 = λ j. bit_at (with (without F n) n) j ≡ bit_at F j in subst P (sym e) (with_itself (without F n) n ∙ sym (eqb-true (bit_at F n) 1 inside)))
    (λ other. with_other (without F n) n i other ∙ without_other F n i other) (cases_eq i n))

-- numbers below k keep a phase within k bits

pub with_below : (k F n : ℕ) → F < 2 ^ k → n < k → with F n < 2 ^ k
with_below k F n fits less = or_lt k F (2 ^ n) fits (pow_below n k less)

pub without_below : (k F n : ℕ) → F < 2 ^ k → without F n < 2 ^ k
without_below k F n fits = let le = and_le_l F (2 ^ n) in xor_lt k F (bit_and F (2 ^ n)) fits (omega arith)
