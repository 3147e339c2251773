-- A list of rows that stands for the rest of a run, and what showing its next move comes to.
use Rattle.std.specs.Prelude.{◌≡◌, ℕ, suc, ◌+◌, ◌≤◌, List, [], ◌∷◌, reverse, length, take, Some, None, Ok, Option, Result, slice_index}
use Rattle.grade.specs.declared.grade.Grade.{Ghosts}
use Rattle.deduction.specs.Counting.{Different}
use Rattle.text.specs.declared.line.Line.{Line}
use Rattle.model.specs.Phases.{Opened}
use Rattle.model.specs.Moves.{Position, Move, Step}
use Rattle.model.specs.Watch.{Reaches}
use Rattle.model.specs.Grades.{moves_grade}
use Rattle.rowtable.specs.declared.row.TableState.{TableState}
use Rattle.rowtable.specs.declared.row.TableRow.{TableRow}
use Rattle.rowtable.specs.Tables.{row_at, Exists, state_of}
use Rattle.rowtable.specs.Paths.{RowPath}
use Rattle.rowtable.specs.Saturated.{SaturatedTable}
use Rattle.rows.specs.Rows.{head}
use Rattle.moves.specs.declared.stage.Stage.{Stage}
use Rattle.unfolding.specs.declared.stage.Shown.{Shown}
use Rattle.unfolding.specs.declared.stage.UnfoldRefusal.{UnfoldRefusal}
use Rattle.unfolding.specs.Runs.{StandsFor}

-- what is told of a position: its mode, its phase and the length of its lane
abbrev pub stage_of : Position → Stage
stage_of x = record { mode = x.mode; phase = x.phase; length = length x.lane }

-- the first places of a list, as a stack with the last of them on top
abbrev pub stack : List ℕ → ℕ → List ℕ
stack list count = reverse (take count list)

-- Each row on the stack leaves room for what it unfolds to: as many places more, at most, as its rank says.
abbrev pub Roomy : {G : Type 0} → Ghosts G → List (TableRow G) → (places : ℕ) → List ℕ → Type 0
Roomy m rows places [] = Unit {0}
Roomy m rows places (k ∷ ks) = (suc (length ks) + (row_at m rows k).rank ≤ places) × Roomy m rows places ks

module _ {G : Type 0} (m : Ghosts G) (ls : List Line) (rows : List (TableRow G)) (n : ℕ) where
  -- The first places of the list, one for each wagon of the lane of x, stand for the moves ms of a run from x into the watch.
  pub record Rest (list : List ℕ) (x : Position) (ms : List Move) : Type 0 where
    pub enough : n ≤ length rows
    pub listed : length x.lane ≤ length list
    pub stands : StandsFor m ls rows n x (stack list (length x.lane)) ms
    pub roomy : Roomy m rows (length list) (stack list (length x.lane))

  -- Showing the next move of such a rest, so that the list comes to stand for what is left of the same run: the first move and where it leads, or that none is left.
  abbrev pub Advances : List ℕ → Position → List Move → Result (Option Shown) UnfoldRefusal → Type 0
  Advances list x [] r = (r ≡ Ok None) × Rest list x []
  Advances list x (v ∷ ms) r = (y : Position) × (Step ls x v y × ((r ≡ Ok (Some (record { number = v.number; after = stage_of y }))) × Rest list y ms))

  -- Where the list stands for moves, these lead from x into the watch.
  abbrev pub RestReaches : Type 0
  RestReaches = (list : List ℕ) (x : Position) (ms : List Move) → Rest list x ms → Reaches ls x ms

  -- A path laid out over a table of the saturated rows stands for a run into the watch, whose moves have the path's grade.
  abbrev pub PathsStand : Type 0
  PathsStand =
      (Fs : List ℕ) → Different (Opened ls) (λ k. slice_index Fs k) (length Fs) → SaturatedTable m ls Fs rows n
      → (x : Position) (s : TableState) → Exists Fs s → state_of Fs s ≡ head x.mode x.phase
      → (list : List ℕ) (v : G) → length x.lane + n ≤ length list → RowPath m ls rows n s x.lane (stack list (length x.lane)) v
      → (ms : List Move) × (Rest list x ms × (moves_grade m ms ≡ v))
