-- The watch: which positions a planner looks out for.
use Rattle.std.specs.Prelude.{ℕ, List, [], ◌∷◌}
use Rattle.grade.specs.declared.upto.UpTo.{UpTo}
use Rattle.text.specs.declared.line.LinkLine.{LinkLine}
use Rattle.text.specs.declared.line.WatchLine.{WatchLine}
use Rattle.text.specs.declared.line.Line.{Line}
use Rattle.text.specs.declared.line.Line.TheVariants.{Watch, Link, End, Bare}
use Rattle.model.specs.Phases.{Stands, Opened}
use Rattle.model.specs.Moves.{Position, at, Move, Run}

-- link lines lead from a node by these wagons, in order, to a node with an end line
pub data Leads (ls : List Line) : ℕ → List ℕ → Type 0 where
  ends : {t : UpTo 63} → Stands ls (End t) → Leads ls t.value []
  links : {l : LinkLine} {w : List ℕ} → Stands ls (Link l) → Leads ls l.to.value w → Leads ls l.node.value (l.wagon.value ∷ w)

-- The watch holds a position in an opened phase: an empty lane in a mode with a bare line, or a lane whose top a watch line
-- takes to a node from which link lines lead by the other wagons to an end.
pub data Watched (ls : List Line) : Position → Type 0 where
  bare : {p : UpTo 15} {F : ℕ} → Stands ls (Bare p) → Opened ls F → Watched ls (at p.value F [])
  read : {v : WatchLine} {F : ℕ} {w : List ℕ} → Stands ls (Watch v) → Opened ls F → Leads ls v.node.value w
      → Watched ls (at v.mode.value F (v.wagon.value ∷ w))

-- these moves lead from the position into the watch
pub record Reaches (ls : List Line) (x : Position) (ms : List Move) : Type 0 where
  pub last : Position
  pub run : Run ls x ms last
  pub held : Watched ls last
