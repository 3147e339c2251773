-- Numbers in a line of text: 0, or digits of which the first is 1 to 9.
use Rattle.std.specs.Prelude.{◌≡◌, ℕ, ◌+◌, ◌-◌, ◌*◌, ◌≤◌, Bool, true, false, cond, ◌&&◌, ◌⊎◌, List, [], ◌∷◌, Some, None, Option, ◌==◌, ◌≢◌, nat_le, nat_lt}
use Rattle.std.proofs.Common.{arith}
use Rattle.std.proofs.lemmas.Bool.{cond_both, ltb-false}
use Rattle.grade.specs.declared.upto.UpTo.{UpTo}

abbrev pub digit : ℕ → Bool
digit b = nat_le 48 b && nat_le b 57

-- each byte is a digit
abbrev pub Digits : List ℕ → Type 0
Digits [] = Unit {0}
Digits (b ∷ bs) = (digit b ≡ true) × Digits bs

-- these bytes are a number as a line has it
abbrev pub Numeral : List ℕ → Type 0
Numeral [] = ⊥
Numeral (b ∷ bs) = ((b ≡ 48) × (bs ≡ [])) ⊎ ((digit b ≡ true) × ((b ≢ 48) × Digits bs))

-- the value of digits behind others of value n
abbrev pub value_after : ℕ → List ℕ → ℕ
value_after n [] = n
value_after n (b ∷ bs) = value_after (n * 10 + (b - 48)) bs

abbrev pub value : List ℕ → ℕ
value bs = value_after 0 bs

-- a number taken off a text: its value, the place behind it and what stands there
pub record Taken : Type 0 where
  pub value : ℕ
  pub place : ℕ
  pub rest : List ℕ

abbrev pub digits : ℕ → ℕ → List ℕ → Taken
digits n p [] = record { value = n; place = p; rest = [] }
digits n p (b ∷ bs) = cond (digit b) (digits (n * 10 + (b - 48)) (p + 1) bs) (record { value = n; place = p; rest = b ∷ bs })

abbrev pub numeral : ℕ → List ℕ → Taken
numeral p [] = record { value = 0; place = p; rest = [] }
numeral p (b ∷ bs) = cond (b == 48) (record { value = 0; place = p + 1; rest = bs }) (digits 0 p (b ∷ bs))

-- the value where 16 bits hold it
abbrev pub held : ℕ → Option ℕ
held v = cond (nat_lt v 65536) (Some v) None

abbrev pub starts : List ℕ → Bool
starts [] = false
starts (b ∷ bs) = digit b

pub kept_fits : (max v : ℕ) → cond (nat_lt max v) 0 v ≤ max
kept_fits max v = cond_both (nat_lt max v) 0 v (λ x. x ≤ max) (λ e. omega arith) (λ e. ltb-false max v e)

-- the value where it is within its limit, else 0
abbrev pub kept : (max : ℕ) → ℕ → UpTo max
kept max v = record { value = cond (nat_lt max v) 0 v; fits = kept_fits max v }
