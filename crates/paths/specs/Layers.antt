-- Layers: what cells know of a state and the wagons that are left.
use Rattle.std.specs.Prelude.{◌≡◌, ℕ, ◌<◌, ◌≤◌, List, [], ◌∷◌, length, drop, None, Option, MatchOption, slice_get}
use Rattle.grade.specs.declared.grade.Grade.{Ghosts}
use Rattle.text.specs.declared.line.Line.{Line}
use Rattle.model.specs.Grades.{Best}
use Rattle.rows.specs.Rows.{State, wagon, row}
use Rattle.rows.specs.Paths.{Stop}
use Rattle.rows.specs.Ways.{Way}
use Rattle.rowtable.specs.declared.row.TableState.{TableState}
use Rattle.rowtable.specs.declared.row.TableRow.{TableRow}
use Rattle.rowtable.specs.Tables.{row_of, row_at, Held}
use Rattle.rowtable.specs.Paths.{Ending, RowPath, RowsSay}
use Rattle.paths.specs.declared.cell.Cell.{Cell}
use Rattle.paths.specs.Cells.{width, Layer}

-- with no wagon left, a path may end here, by no row, and that is the best
abbrev pub Stopping : {G : Type 0} → Ghosts G → List Line → TableState → Option ℕ → G → Type 0
Stopping m ls s o v = (o ≡ None) × (Ending ls s × (v ≡ m.best))

module _ {G : Type 0} (m : Ghosts G) (ls : List Line) (rows : List (TableRow G)) (n : ℕ) where
  -- the grades of the paths from a state by the wagons, with the row that each begins with, if any
  abbrev pub Onward : List ℕ → TableState → Option ℕ → G → Type 0
  Onward w s o v = (ks : List ℕ) × ((slice_get ks 0 ≡ o) × RowPath m ls rows n s w ks v)

  -- the best grade that the rows say, or none where they say none
  abbrev pub BestSaid : TableState → List ℕ → Option G → Type 0
  BestSaid s w r = MatchOption r ((v : G) → RowsSay m ls rows n s w v → ⊥) (Best m (RowsSay m ls rows n s w))

  -- layers one after another, each whole: the first has the best of what the rows say of the lane, and those behind it the same of the lane without its top wagon
  abbrev pub Layered : List ℕ → List ℕ → List (Cell G) → Type 0
  Layered Fs [] cells = (width Fs ≤ length cells) × Layer m Fs cells (Onward [])
  Layered Fs (x ∷ w) cells = (width Fs ≤ length cells) × (Layer m Fs cells (Onward (x ∷ w)) × Layered Fs w (drop (width Fs) cells))

module _ {G : Type 0} (m : Ghosts G) (ls : List Line) (Fs : List ℕ) (rows : List (TableRow G)) (n : ℕ) where
  -- the ways that the first n rows make
  abbrev pub RowWay : State → List ℕ → G → Type 0
  RowWay s w v = Way m ls (Held Fs rows n) s w v

-- Rows at these places of a table, the first first, lead from a state by the wagons to where a path may end, and their grades joined in order are v.
module _ {G : Type 0} (m : Ghosts G) (ls : List Line) (Fs : List ℕ) (rows : List (TableRow G)) (n : ℕ) where
  pub data PathOf : State → List ℕ → List ℕ → G → Type 0 where
    path_end : {s : State} → Stop ls s → PathOf s [] [] m.best
    path_on : {s t : State} {x : ℕ} {w : List ℕ} {k : ℕ} {ks : List ℕ} {rest : G} → k < n → row_of Fs (row_at m rows k) ≡ row s (wagon x) t
        → PathOf t w ks rest → PathOf s (x ∷ w) (k ∷ ks) (m.join (row_at m rows k).grade rest)
