-- What the rows of a table stand for.
use Rattle.std.specs.Prelude.{◌≡◌, List, ℕ, ◌<◌, ◌≤◌, length, get_or}
use Rattle.grade.specs.declared.grade.Grade.{Ghosts}
use Rattle.rows.specs.Rows.{State, head, node, Row, row, wagon}
use Rattle.rowtable.specs.declared.row.TableState.{TableState}
use Rattle.rowtable.specs.declared.row.TableState.TheVariants.{Node, Head}
use Rattle.rowtable.specs.declared.row.Reason.TheVariants.{Line}
use Rattle.rowtable.specs.declared.row.TableRow.{TableRow}

-- the state that a table's state stands for, where these are the opened phases
abbrev pub state_of : List ℕ → TableState → State
state_of Fs (Node t) = node t
state_of Fs (Head p i) = head p (get_or Fs i 0)

-- a state that exists: a node up to 63, or a mode up to 15 with the place of an opened phase
abbrev pub Exists : List ℕ → TableState → Type 0
Exists Fs (Node t) = t ≤ 63
Exists Fs (Head p i) = (p ≤ 15) × (i < length Fs)

abbrev pub row_of : {G : Type 0} → List ℕ → TableRow G → Row
row_of Fs r = row (state_of Fs r.from) (wagon r.wagon) (state_of Fs r.to)

-- a place not in use: every number is 0, with the best grade
abbrev pub blank_row : {G : Type 0} → G → TableRow G
blank_row best = record { from = Node 0; wagon = 0; to = Node 0; grade = best; rank = 0; reason = Line }

-- the row at a place, and a blank one where there is no place
abbrev pub row_at : {G : Type 0} → Ghosts G → List (TableRow G) → ℕ → TableRow G
row_at m rows k = get_or rows k (blank_row m.best)

-- the first n places of the table have the row i with the grade v
pub record Held {G : Type 0} (Fs : List ℕ) (rows : List (TableRow G)) (n : ℕ) (i : Row) (v : G) : Type 0 where
  pub place : ℕ
  pub below : place < n
  pub is : (d : TableRow G) → row_of Fs (get_or rows place d) ≡ i
  pub graded : (d : TableRow G) → (get_or rows place d).grade ≡ v
