-- The row table once all rows are settled.
use Rattle.std.specs.Prelude.{◌≡◌, ℕ, ◌<◌, ◌≤◌, List}
use Rattle.grade.specs.declared.grade.Grade.{Ghosts}
use Rattle.deduction.specs.Counting.{Outnumber}
use Rattle.deduction.specs.Derivations.{Derivation}
use Rattle.text.specs.declared.line.Line.{Line}
use Rattle.rows.specs.Rows.{row_rules}
use Rattle.rows.specs.Ways.{Saturated}
use Rattle.rowtable.specs.declared.row.TableRow.{TableRow}
use Rattle.rowtable.specs.Tables.{Held, Exists, row_of, blank_row, row_at}
use Rattle.saturation.specs.Reasons.{Reasoned}
use Rattle.rowtable.specs.Reasons.{SettledAt}

-- The first n places hold exactly the saturated rows, each once, with its best grade, its rank and a right reason; the rest is blank.
pub record Finished {G : Type 0} (m : Ghosts G) (Fs : List ℕ) (ls : List Line) (places : ℕ) (rows : List (TableRow G)) (n : ℕ) : Type 0 where
  pub room : n ≤ places
  pub saturated : Saturated m ls (Held Fs rows n)
  pub once : (k l : ℕ) → k < n → l < n → row_of Fs (row_at m rows k) ≡ row_of Fs (row_at m rows l) → k ≡ l
  pub exist : (k : ℕ) → k < n → Exists Fs (row_at m rows k).from × Exists Fs (row_at m rows k).to
  -- the ranks are the numbers below n, each once
  pub ranked : (k : ℕ) → k < n → (row_at m rows k).rank < n
  pub ranks : (k l : ℕ) → k < n → l < n → (row_at m rows k).rank ≡ (row_at m rows l).rank → k ≡ l
  -- a reason names rows of smaller rank
  pub reasons : (k : ℕ) → k < n → Reasoned m ls Fs (SettledAt m rows n (row_at m rows k).rank) (row_at m rows k)
  pub blank : (k : ℕ) → n ≤ k → row_at m rows k ≡ blank_row m.best
  -- and the saturated rows do not outnumber the places
  pub fits : Outnumber (Derivation (row_rules ls)) places → ⊥
