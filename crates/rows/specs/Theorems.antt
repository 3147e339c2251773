-- The theorems between rows and runs.
use Rattle.std.specs.Prelude.{◌≡◌, ℕ, ◌⊎◌, ◌↔◌, List, [], ◌∷◌, map, length}
use Rattle.grade.specs.declared.grade.Grade.{Ghosts}
use Rattle.deduction.specs.Grades.{NoWorse}
use Rattle.deduction.specs.Derivations.{Derivation, Derived, BestOf}
use Rattle.deduction.specs.Saturation.{Invariant, WaitsBelow}
use Rattle.deduction.specs.Counting.{Listing}
use Rattle.deduction.specs.Theorems.{Entries, Holds}
use Rattle.text.specs.declared.line.Line.{Line}
use Rattle.model.specs.Phases.{Opened}
use Rattle.model.specs.Moves.{Position, Move, Step}
use Rattle.model.specs.Watch.{Watched, Reaches}
use Rattle.model.specs.Grades.{moves_grade, RunGrade, Best}
use Rattle.model.specs.Laws.{SameLines}
use Rattle.rows.specs.Rows.{State, head, Row, Path, row_rules}
use Rattle.rows.specs.Paths.{Stop, Accepts, accept_moves}
use Rattle.rows.specs.Ways.{grading, row_system, accept_grade, Way, Saturated}
use Rattle.rows.specs.Reasons.{Named, Unrolls, Turn, joined_price, Reasoned}

-- an accepting path from the head of a position, by its lane
abbrev pub AcceptsFrom : List Line → Position → Type 0
AcceptsFrom ls x = Accepts ls (head x.mode x.phase) x.lane

-- Soundness: an accepting path of derived rows is a run into the watch, with exactly the derivations' moves in order.
abbrev pub Sound : Type 0
Sound = (ls : List Line) (x : Position) (a : AcceptsFrom ls x) → Reaches ls x (accept_moves a)

-- Completeness: every run from an opened phase into the watch is an accepting path of derived rows, with the same moves.
abbrev pub Complete : Type 0
Complete = (ls : List Line) (x : Position) (ms : List Move) → Opened ls x.phase → Reaches ls x ms → (a : AcceptsFrom ls x) × (accept_moves a ≡ ms)

-- One move of what an accepting path shows: it has arrived and shows no move, or its first move can be made, and what is left is shown by an accepting path again.
pub data Shows (ls : List Line) (x : Position) : List Move → Type 0 where
  arrived : Watched ls x → Shows ls x []
  moves_on : {m : Move} {y : Position} {ms : List Move} → Step ls x m y → (a : AcceptsFrom ls y) → accept_moves a ≡ ms → Shows ls x (m ∷ ms)

abbrev pub Unfolds : Type 0
Unfolds = (ls : List Line) (x : Position) (a : AcceptsFrom ls x) → Shows ls x (accept_moves a)

module _ {G : Type 0} (m : Ghosts G) where
  -- The moves of an accepting path have exactly the grade of its derivations.
  abbrev pub MovesGrade : Type 0
  MovesGrade = (ls : List Line) (s : State) (w : List ℕ) (a : Accepts ls s w) → moves_grade m (accept_moves a) ≡ accept_grade m a

  -- Over the derivable rows, with the grades of their derivations, the ways from an opened phase are the runs into the watch: they have the same grades.
  abbrev pub WaysAreRuns : Type 0
  WaysAreRuns = (ls : List Line) (x : Position) → Opened ls x.phase → (v : G) → Way m ls (Derived (row_system m ls)) (head x.mode x.phase) x.lane v ↔ RunGrade m ls x v

-- A table is any type of entries, each with a row and a grade.
module _ {G : Type 0} (m : Ghosts G) (E : Type 0) where
  -- the ways that a table has from the head of a position, by its lane
  abbrev pub WayFrom : List Line → Entries E Row G → Position → G → Type 0
  WayFrom ls table x v = Way m ls (Holds table) (head x.mode x.phase) x.lane v

  -- Over a table of the saturated rows, the best grade of a way is the best grade of a run into the watch, ..
  abbrev pub TableBest : Type 0
  TableBest = (ls : List Line) (table : Entries E Row G) → Saturated m ls (Holds table) → (x : Position) → Opened ls x.phase → (v : G) → Best m (WayFrom ls table x) v ↔ Best m (RunGrade m ls x) v

  -- .. and there is a way exactly where there is a run.
  abbrev pub TableSome : Type 0
  TableSome = (ls : List Line) (table : Entries E Row G) → Saturated m ls (Holds table) → (x : Position) → Opened ls x.phase → ((v : G) × WayFrom ls table x v) ↔ ((ms : List Move) × Reaches ls x ms)

-- While rows wait, every way over the settled rows is a run, and for every run there is a way over them that is no worse, or a row that waits with a grade no worse.
abbrev pub PartBounds : {G : Type 0} (m : Ghosts G) (S W : Type 0) → Type 0
PartBounds {G} m S W =
    (ls : List Line) (settled : Entries S Row G) (waiting : Entries W Row G) → Invariant (row_system m ls) (Holds settled) (Holds waiting) → (x : Position) → Opened ls x.phase
    → ((v : G) → WayFrom m S ls settled x v → RunGrade m ls x v)
    × ((v : G) → RunGrade m ls x v → ((u : G) × WayFrom m S ls settled x u × NoWorse (grading m) u v) ⊎ WaitsBelow (row_system m ls) (Holds waiting) v)

-- Entries that all have reasons, and whose rows lead from a position to where a path may end, show a run into the watch, of the grade that theirs join to, ..
abbrev pub ReasonsShow : {G : Type 0} (m : Ghosts G) (K : Type 0) → Type 0
ReasonsShow {G} m K =
    (ls : List Line) (table : Named K) (price : K → G) (rank : K → ℕ) → ((k : K) → Reasoned m ls table price rank k) → (x : Position) (u : State) (ks : List K)
    → Path (head x.mode x.phase) x.lane (map table.item ks) u → Stop ls u → (ms : List Move) × Unrolls ls table ks ms × Reaches ls x ms × (moves_grade m ms ≡ joined_price m price ks)

-- .. one move at a time.
abbrev pub ReasonsTurn : (K : Type 0) → Type 0
ReasonsTurn K =
    (ls : List Line) (table : Named K) (x : Position) (u : State) (ks : List K) (ms : List Move)
    → Path (head x.mode x.phase) x.lane (map table.item ks) u → Stop ls u → Unrolls ls table ks ms → Turn ls table x u ks ms

-- Books in which the same lines stand have the same rows, with the same grades, and tables say the same of both.
pub record Same {G : Type 0} (m : Ghosts G) (E : Type 0) (ls ks : List Line) : Type 0 where
  pub derived : (i : Row) (v : G) → Derived (row_system m ls) i v ↔ Derived (row_system m ks) i v
  pub best : (i : Row) (v : G) → BestOf (row_system m ls) i v ↔ BestOf (row_system m ks) i v
  pub saturated : (table : Entries E Row G) → Saturated m ls (Holds table) ↔ Saturated m ks (Holds table)
  pub ways : (table : Entries E Row G) (s : State) (w : List ℕ) (v : G) → Way m ls (Holds table) s w v ↔ Way m ks (Holds table) s w v
  -- they need the same number of places
  pub count : (is js : List Row) → Listing (Derivation (row_rules ls)) is → Listing (Derivation (row_rules ks)) js → length is ≡ length js

abbrev pub SameRows : {G : Type 0} (m : Ghosts G) (E : Type 0) → Type 0
SameRows m E = (ls ks : List Line) → SameLines ls ks → Same m E ls ks
