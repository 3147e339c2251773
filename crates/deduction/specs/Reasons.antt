-- Following reasons: each x names others as its reasons.
use mathlib.Core.WellFounded.{Acc}
use Rattle.std.specs.Prelude.{ℕ, zero, suc, ◌<◌}

-- `Reason x y`: y is one of the reasons of x
module _ {X : Type 0} (Reason : X → X → Type 0) where
  -- the reasons of x lead to y, in one step or more
  pub data Leads : X → X → Type 0 where
    at_once : {x y : X} → Reason x y → Leads x y
    further : {x y z : X} → Reason x y → Leads y z → Leads x z

  -- n reasons can be followed from x, one after the other
  pub data Follows : X → ℕ → Type 0 where
    stay : {x : X} → Follows x zero
    follow : {x y : X} {n : ℕ} → Reason x y → Follows y n → Follows x (suc n)

  -- Following reasons from x ends, whichever are taken: it does from each reason of x.
  abbrev pub Ends : X → Type 0
  Ends = Acc (λ y x. Reason x y)

  -- reasons have smaller ranks
  abbrev pub Descends : (X → ℕ) → Type 0
  Descends rank = (x y : X) → Reason x y → rank y < rank x
