-- The row table once all rows are settled.
use Rattle.std.specs.Prelude.{◌≡◌, ℕ, ◌≤◌, List}
use Rattle.grade.specs.declared.grade.Grade.{Ghosts}
use Rattle.deduction.specs.Counting.{Outnumber}
use Rattle.deduction.specs.Derivations.{Derivation}
use Rattle.text.specs.declared.line.Line.{Line}
use Rattle.rows.specs.Rows.{row_rules}
use Rattle.rowtable.specs.declared.row.TableRow.{TableRow}
use Rattle.rowtable.specs.Tables.{row_at, blank_row}
use Rattle.rowtable.specs.Saturated.{SaturatedTable}

-- The first n places are a table of the saturated rows; the rest is blank.
pub record Complete {G : Type 0} (m : Ghosts G) (Fs : List ℕ) (ls : List Line) (places : ℕ) (rows : List (TableRow G)) (n : ℕ) : Type 0 where
  pub table : SaturatedTable m ls Fs rows n
  pub blank : (k : ℕ) → n ≤ k → row_at m rows k ≡ blank_row m.best
  -- there are enough places, and the saturated rows do not outnumber them
  pub room : n ≤ places
  pub fits : Outnumber (Derivation (row_rules ls)) places → ⊥
