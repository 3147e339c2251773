-- Reasons of smaller rank end.
use mathlib.Core.WellFounded.Acc
use Prim.Native.Nat.{ℕ, zero, suc, ◌<◌, ◌≤◌, zero-le}
use native.Mathlib.Omega.{arith}
use Rattle.deduction.specs.Reasons.{Leads, at_once, further, Follows, stay, follow, Ends, Descends}

module _ {X : Type 0} (Reason : X → X → Type 0) (rank : X → ℕ) (descends : Descends Reason rank) where
  pub leads_down : {x y : X} → Leads Reason x y → rank y < rank x
  leads_down (at_once {x = x} {y = y} r) = descends x y r
  leads_down (further {x = x} {y = y} r l) =
      let first = descends x y r in
      let rest = leads_down l in
      omega arith

  pub none_leads_back : (x : X) → Leads Reason x x → ⊥
  none_leads_back x back = let less = leads_down back in omega arith

  pub follows_few : {x : X} {n : ℕ} → Follows Reason x n → n ≤ rank x
  follows_few stay = zero-le
  follows_few (follow {x = x} {y = y} r more) =
      let first = descends x y r in
      let rest = follows_few more in
      omega arith

  ends_below : (n : ℕ) (x : X) → rank x < n → Ends Reason x
  ends_below zero x h = absurd (omega arith)
  ends_below (suc n) x h = Acc.intro x (λ y r. let less = descends x y r in ends_below n y (omega arith))

  pub following_ends : (x : X) → Ends Reason x
  following_ends x = ends_below (suc (rank x)) x (omega arith)
