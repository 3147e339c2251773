-- Phases in a table, and when they are the opened phases of a book.
use Rattle.std.specs.Prelude.{◌≡◌, ℕ, ◌<◌, ◌≤◌, List, take, ◌≢◌, slice_index}
use Rattle.text.specs.declared.line.Line.{Line}
use Rattle.deduction.specs.Counting.{Filled}
use Rattle.model.specs.Phases.{Opened}
use Rattle.phases.specs.declared.table.Phases.{Phases}

-- what place k holds
abbrev pub phase_at : Phases → ℕ → ℕ
phase_at p k = slice_index p.table k

-- the phases that are in use
abbrev pub used : Phases → List ℕ
used p = take p.count p.table

-- the phase F stands at one of the first places
abbrev pub Holds : Phases → ℕ → Type 0
Holds p F = (k : ℕ) × (k < p.count) × (phase_at p k ≡ F)

-- and here first
pub record FirstAt (p : Phases) (F i : ℕ) : Type 0 where
  pub within : i < p.count
  pub here : phase_at p i ≡ F
  pub before : (k : ℕ) → k < i → phase_at p k ≢ F

-- the other places are blank
abbrev pub Blank : Phases → Type 0
Blank p = (k : ℕ) → p.count ≤ k → phase_at p k ≡ 0

-- the table holds exactly the phases that these lines open, each once, and is blank behind them
pub record OpenedBy (ls : List Line) (p : Phases) : Type 0 where
  pub filled : Filled (Opened ls) (phase_at p) p.count
  pub blank : Blank p
