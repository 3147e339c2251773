-- What is told of a position: whether the watch holds it.
use Rattle.std.specs.Prelude.{◌≡◌, ℕ, ◌≤◌, Bool, ◌⊎◌, List, [], ◌∷◌, length, Decides, Result, MatchResult}
use Rattle.std.specs.List.{AllByRecursion}
use Rattle.grade.specs.declared.upto.UpTo.{UpTo}
use Rattle.text.specs.declared.line.WatchLine.{WatchLine}
use Rattle.text.specs.declared.line.Line.{Line}
use Rattle.text.specs.declared.line.Line.TheVariants.{Watch, Bare}
use Rattle.model.specs.Phases.{Stands}
use Rattle.model.specs.Moves.{Position}
use Rattle.model.specs.Watch.{Leads}
use Rattle.phases.specs.declared.refusal.PositionRefusal.{PositionRefusal}
use Rattle.phases.specs.Refusals.{position_number, position_place}

-- a mode and wagons within their limits, and at most 32 wagons
pub record Fits (mode : ℕ) (lane : List ℕ) : Type 0 where
  pub mode_fits : mode ≤ 15
  pub wagons_fit : AllByRecursion (λ k. k ≤ 31) lane
  pub short : length lane ≤ 32

-- The watch's lines take a mode and a lane, whatever the phase: a bare line takes an empty lane, and a watch line the top of
-- one to a node from which link lines lead by the others to an end.
pub data Takes (ls : List Line) : ℕ → List ℕ → Type 0 where
  bare : {p : UpTo 15} → Stands ls (Bare p) → Takes ls p.value []
  read : {v : WatchLine} {w : List ℕ} → Stands ls (Watch v) → Leads ls v.node.value w → Takes ls v.mode.value (v.wagon.value ∷ w)

abbrev pub Taken : List Line → Position → Type 0
Taken ls x = Takes ls x.mode x.lane

-- A position is declined: 9 where it does not fit, and else 10 where its phase is none of those that are opened.
abbrev pub Declined : (ℕ → Type 0) → Position → ℕ → ℕ → Type 0
Declined Opened x number place =
    (place ≡ 0)
    × (((number ≡ 9) × (Fits x.mode x.lane → ⊥))
    ⊎ ((number ≡ 10) × (Fits x.mode x.lane × (Opened x.phase → ⊥))))

-- What is told of a position, where these phases are opened and these positions are held: a refusal, or whether it is held.
abbrev pub Told : (ℕ → Type 0) → (Position → Type 0) → Position → Result Bool PositionRefusal → Type 0
Told Opened Held x r =
    MatchResult r
    (λ answer. Fits x.mode x.lane × (Opened x.phase × Decides answer (Held x)))
    (λ e. Declined Opened x (position_number e) (position_place e))
