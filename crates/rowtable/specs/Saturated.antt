-- A table of the saturated rows of a book.
use Rattle.std.specs.Prelude.{◌≡◌, List, ℕ, ◌<◌, ◌≤◌, T, length}
use Rattle.grade.specs.declared.grade.Grade.{Ghosts}
use Rattle.text.specs.declared.line.Line.{Line}
use Rattle.rows.specs.Ways.{Saturated}
use Rattle.rowtable.specs.declared.row.TableRow.{TableRow}
use Rattle.rowtable.specs.Tables.{Held, Exists, row_of, row_at}
use Rattle.rowtable.specs.Reasons.{Reasoned, SettledAt}

-- The first n places hold exactly the saturated rows of the lines, whose opened phases are Fs, each once, with its best grade, its rank of settling and a right reason.
-- The order of the rows is free, and so is which of several equally good rows was settled first, and which of several equally good reasons a row has.
pub record SaturatedTable {G : Type 0} (m : Ghosts G) (ls : List Line) (Fs : List ℕ) (rows : List (TableRow G)) (n : ℕ) : Type 0 where
  pub enough : n ≤ length rows
  pub saturated : Saturated m ls (Held Fs rows n)
  pub once : (k l : ℕ) → k < n → l < n → row_of Fs (row_at m rows k) ≡ row_of Fs (row_at m rows l) → k ≡ l
  pub exist : (k : ℕ) → k < n → Exists Fs (row_at m rows k).from × Exists Fs (row_at m rows k).to
  -- the ranks are the numbers below n, each once
  pub ranked : (k : ℕ) → k < n → (row_at m rows k).rank < n
  pub ranks : (k l : ℕ) → k < n → l < n → (row_at m rows k).rank ≡ (row_at m rows l).rank → k ≡ l
  -- best grade first: a row of smaller rank is no worse
  pub climbing : (k l : ℕ) → k < n → l < n → (row_at m rows k).rank < (row_at m rows l).rank → T (m.noworse (row_at m rows k).grade (row_at m rows l).grade)
  -- a reason names rows of smaller rank
  pub reasons : (k : ℕ) → k < n → Reasoned m ls Fs (SettledAt m rows n (row_at m rows k).rank) (row_at m rows k)
