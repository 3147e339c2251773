-- The number and the place that each refusal is told by, and when it is given.
use Rattle.std.specs.Prelude.{◌≡◌, ℕ, min, ◌⊎◌, List, length, take}
use Rattle.grade.specs.declared.grade.Grade.{Ghosts}
use Rattle.grade.specs.declared.waiting.Waiting.{Waiting}
use Rattle.text.specs.declared.line.Line.{Line}
use Rattle.deduction.specs.Counting.{Outnumber}
use Rattle.deduction.specs.Derivations.{Derivation}
use Rattle.rows.specs.Rows.{row_rules}
use Rattle.phases.specs.Refusals.{phase_number, phase_place, PhasesRefused, PhasesAllowed}
use Rattle.phases.specs.Table.{OpenedBy}
use Rattle.rowtable.specs.declared.row.TableRow.{TableRow}
use Rattle.rowtable.specs.Tables.{blank_row, row_at}
use Rattle.saturation.specs.Finished.{Finished}
use Rattle.saturation.specs.declared.saturated.Saturation.{Saturation}
use Rattle.saturation.specs.declared.refusal.SaturationRefusal.{SaturationRefusal}
use Rattle.saturation.specs.declared.refusal.SaturationRefusal.TheVariants.{Phases, TooManyRows}

abbrev pub saturation_number : SaturationRefusal → ℕ
saturation_number (Phases e) = phase_number e
saturation_number TooManyRows = 8

abbrev pub saturation_place : SaturationRefusal → ℕ
saturation_place (Phases e) = phase_place e
saturation_place TooManyRows = 0

-- how many places there are: the smaller of the two counts
abbrev pub places_of : {G : Type 0} → List (TableRow G) → List (Waiting G) → ℕ
places_of rows waiting = min (length rows) (length waiting)

-- The rows are refused: 6 or 7 with nothing changed where the phases are; 8 where there is no such refusal and the saturated rows outnumber the places, and then
-- the row table is blank.
abbrev pub RowsRefused : {G : Type 0} → Ghosts G → List Line → (rows : List (TableRow G)) (waiting : List (Waiting G)) (after : List (TableRow G)) (left : List (Waiting G)) → (number place : ℕ) → Type 0
RowsRefused m ls rows waiting after left number place =
    (PhasesRefused ls number place × (after ≡ rows) × (left ≡ waiting))
    ⊎ ((number ≡ 8) × (place ≡ 0) × PhasesAllowed ls × Outnumber (Derivation (row_rules ls)) (places_of rows waiting) × ((k : ℕ) → row_at m after k ≡ blank_row m.best))

-- The rows are saturated over the opened phases of the book.
pub record RowsSaturated {G : Type 0} (m : Ghosts G) (ls : List Line) (places : ℕ) (rows : List (TableRow G)) (done : Saturation) : Type 0 where
  pub allowed : PhasesAllowed ls
  pub opened : OpenedBy ls done.phases
  pub finished : Finished m (take done.phases.count done.phases.table) ls places rows done.rows
