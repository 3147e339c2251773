-- Lists in the order of a rank, and tables that are kept so.
use Rattle.std.specs.Prelude.{◌≡◌, ℕ, ◌-◌, ◌<◌, ◌≤◌, Bool, false, cond, ◌||◌, List, [], ◌∷◌, length, take, drop, replicate, ◌==◌, nat_lt}
use Rattle.std.specs.List.{AllByRecursion}
use Rattle.std.specs.declared.cmp.Ordering.{Ordering}
use Rattle.std.specs.Ordering.{nat_cmp}

-- values are in the order of their ranks
abbrev pub Ranks : {X : Type 0} → (X → X → Ordering) → (X → ℕ) → Type 0
Ranks {X} cmp rank = (x y : X) → cmp x y ≡ nat_cmp (rank x) (rank y)

-- each has a lower rank than all behind it
abbrev pub Ascending : {X : Type 0} → (X → ℕ) → List X → Type 0
Ascending rank [] = Unit {0}
Ascending rank (x ∷ xs) = AllByRecursion (λ y. rank x < rank y) xs × Ascending rank xs

-- one of them has the rank r
abbrev pub among : {X : Type 0} → (X → ℕ) → ℕ → List X → Bool
among rank r [] = false
among rank r (x ∷ xs) = rank x == r || among rank r xs

-- x put behind those in front that have a lower rank
abbrev pub put : {X : Type 0} → (X → ℕ) → X → List X → List X
put rank x [] = x ∷ []
put rank x (y ∷ ys) = cond (nat_lt (rank y) (rank x)) (y ∷ put rank x ys) (x ∷ (y ∷ ys))

-- a table with this many rows, of which the first n are in use: these ascend, and the rest is blank
abbrev pub Tidy : {X : Type 0} → (X → ℕ) → X → ℕ → List X → ℕ → Type 0
Tidy rank blank size rows n =
    (length rows ≡ size) × (n ≤ size) × ∥ Ascending rank (take n rows) ∥₁ × (drop n rows ≡ replicate (size - n) blank)
