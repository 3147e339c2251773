-- The number and the place that each refusal is told by, and when it is given.
use Rattle.std.specs.Prelude.{◌≡◌, ℕ, ◌⊎◌, List}
use Rattle.text.specs.declared.line.Line.{Line}
use Rattle.deduction.specs.Counting.{Outnumber}
use Rattle.model.specs.Phases.{Opened}
use Rattle.phases.specs.declared.refusal.PhaseRefusal.{PhaseRefusal}
use Rattle.phases.specs.declared.refusal.PhaseRefusal.TheVariants.{NotAccepted, TooMany}
use Rattle.phases.specs.declared.refusal.PositionRefusal.{PositionRefusal}
use Rattle.phases.specs.declared.refusal.PositionRefusal.TheVariants.{TooLarge, NotOpened}
use Rattle.phases.specs.Missing.{NoneMissing, LeastMissing}

abbrev pub phase_number : PhaseRefusal → ℕ
phase_number (NotAccepted m) = 6
phase_number TooMany = 7

-- the least number that is named and not accepted, or 0
abbrev pub phase_place : PhaseRefusal → ℕ
phase_place (NotAccepted m) = m
phase_place TooMany = 0

abbrev pub position_number : PositionRefusal → ℕ
position_number TooLarge = 9
position_number NotOpened = 10

abbrev pub position_place : PositionRefusal → ℕ
position_place TooLarge = 0
position_place NotOpened = 0

-- how many phases may be opened
abbrev pub most_phases : ℕ
most_phases = 32

-- The phases of these lines are refused: 6 at the least number named and not accepted; 7 where there is none such, and more
-- phases are opened than may be.
abbrev pub PhasesRefused : List Line → ℕ → ℕ → Type 0
PhasesRefused ls number place =
    ((number ≡ 6) × LeastMissing ls place)
    ⊎ ((number ≡ 7) × (place ≡ 0) × NoneMissing ls × Outnumber (Opened ls) most_phases)

-- no refusal is due
abbrev pub PhasesAllowed : List Line → Type 0
PhasesAllowed ls = (number place : ℕ) → PhasesRefused ls number place → ⊥
