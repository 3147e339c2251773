-- What the rows of any table say of a state and the wagons that are left.
use Rattle.std.specs.Prelude.{◌≡◌, List, [], ◌∷◌, ℕ, ◌<◌}
use Rattle.grade.specs.declared.grade.Grade.{Ghosts}
use Rattle.grade.specs.declared.upto.UpTo.{UpTo}
use Rattle.text.specs.declared.line.Line.{Line}
use Rattle.text.specs.declared.line.Line.TheVariants.{End, Bare}
use Rattle.model.specs.Phases.{Stands}
use Rattle.rowtable.specs.declared.row.TableState.{TableState}
use Rattle.rowtable.specs.declared.row.TableState.TheVariants.{Node, Head}
use Rattle.rowtable.specs.declared.row.TableRow.{TableRow}
use Rattle.rowtable.specs.Tables.{row_at}

-- where a path may end, with no wagon left: at a node with an end line, or in a mode with a bare line, in each phase of the table
pub data Ending (ls : List Line) : TableState → Type 0 where
  at_end : (t : UpTo 63) → Stands ls (End t) → Ending ls (Node t.value)
  at_bare : (p : UpTo 15) (i : ℕ) → Stands ls (Bare p) → Ending ls (Head p.value i)

module _ {G : Type 0} (m : Ghosts G) (ls : List Line) (rows : List (TableRow G)) (n : ℕ) where
  -- `RowPath s w ks v`: an accepting path that the first n rows make. The rows at the places ks, the first first, lead from the state s
  -- by the wagons w to where a path may end, each from where the one before it led, and v is their grades joined in order.
  pub data RowPath : TableState → List ℕ → List ℕ → G → Type 0 where
    path_end : {s : TableState} → Ending ls s → RowPath s [] [] m.best
    path_on : {s : TableState} {x : ℕ} {w : List ℕ} {k : ℕ} {ks : List ℕ} {rest : G} → k < n → (row_at m rows k).from ≡ s → (row_at m rows k).wagon ≡ x
        → RowPath (row_at m rows k).to w ks rest → RowPath s (x ∷ w) (k ∷ ks) (m.join (row_at m rows k).grade rest)

  -- what the rows say: the grades of such paths
  abbrev pub RowsSay : TableState → List ℕ → G → Type 0
  RowsSay s w v = (ks : List ℕ) × RowPath s w ks v
