-- A phase is a set of the numbers 0 to 63, held in a number with bit n for n.
use Rattle.std.specs.Prelude.{ℕ, zero, suc, ◌/◌, ◌%◌, ◌^◌, Bool, cond, List, [], ◌∷◌, ◌++◌, ◌==◌, bit_or}

-- n is in the phase F
abbrev pub has : ℕ → ℕ → Bool
has F n = F / 2 ^ n % 2 == 1

-- the numbers below n that are in F, in rising order
abbrev pub members_below : ℕ → ℕ → List ℕ
members_below zero F = []
members_below (suc n) F = members_below n F ++ cond (has F n) (n ∷ []) []

unfoldable pub members : ℕ → List ℕ
members F = members_below 64 F

-- the phase F with these numbers besides
abbrev pub with_all : ℕ → List ℕ → ℕ
with_all F [] = F
with_all F (n ∷ ns) = with_all (bit_or F (2 ^ n)) ns
