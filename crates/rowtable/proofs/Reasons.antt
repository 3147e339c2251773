-- Rules without premises.
use mathlib.Core.Path.{◌≡◌}
use mathlib.Core.List.{List, [], ◌∷◌}
use Prim.Native.Nat.{ℕ}
use Rattle.grade.specs.declared.grade.Grade.{Ghosts}
use Rattle.rowtable.specs.declared.row.TableRow.{TableRow}
use Rattle.rowtable.specs.Reasons.{Rests}

-- no premises join to the best
pub rests_none : {G : Type 0} (m : Ghosts G) (Fs : List ℕ) (At : ℕ → TableRow G → Type 0) (ps : List ℕ) (g : G) → Rests m Fs At [] ps g → g ≡ m.best
rests_none m Fs At [] g best = best
rests_none m Fs At (p ∷ ps) g (zero, rest) = rests_none m Fs At ps g rest
