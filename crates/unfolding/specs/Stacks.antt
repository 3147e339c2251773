-- What is done with the stack.
use Rattle.std.specs.Prelude.{◌≡◌, ℕ, ◌+◌, ◌<◌, ◌≤◌, List, ◌++◌, All, reverse, length, drop, Option, MatchOption, slice_index}
use Rattle.grade.specs.declared.grade.Grade.{Ghosts}
use Rattle.rowtable.specs.declared.row.TableRow.{TableRow}
use Rattle.unfolding.specs.Runs.{LineRow}
use Rattle.unfolding.specs.Rest.{stack}
use Rattle.unfolding.specs.Shows.{Below}

-- The row at the top is no line's, and those above it are.
pub record PassedLines {G : Type 0} (m : Ghosts G) (rows : List (TableRow G)) (list : List ℕ) (top : ℕ) : Type 0 where
  pub low : top < length list
  pub lines : All (LineRow m rows (length rows)) (drop (top + 1) list)
  pub other : LineRow m rows (length rows) (slice_index list top) → ⊥

-- These rows are there, each of smaller rank, and the list has places for them from the top on.
pub record Fit {G : Type 0} (m : Ghosts G) (rows : List (TableRow G)) (rank places top : ℕ) (parts : List ℕ) : Type 0 where
  pub earlier : All (Below m rows rank) parts
  pub room : top + length parts ≤ places

-- The rows fit, and stand in the place of the row at the top, the last of them on top.
pub record Put {G : Type 0} (m : Ghosts G) (rows : List (TableRow G)) (rank : ℕ) (list : List ℕ) (top : ℕ) (parts after : List ℕ) (count : ℕ) : Type 0 where
  pub fit : Fit m rows rank (length list) top parts
  pub listed : count ≤ length list
  pub kept : length after ≡ length list
  pub stands : stack after count ≡ reverse parts ++ stack list top

-- So many rows are on the stack then; or nothing is changed, where they do not fit.
abbrev pub MadeWay : {G : Type 0} → Ghosts G → List (TableRow G) → (rank : ℕ) → List ℕ → (top : ℕ) → (parts : List ℕ) → List ℕ → Option ℕ → Type 0
MadeWay m rows rank list top parts after r = MatchOption r ((Fit m rows rank (length list) top parts → ⊥) × (after ≡ list)) (Put m rows rank list top parts after)
