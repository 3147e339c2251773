-- What is told of the best path over the rows of a table, and when it is refused.
use Rattle.std.specs.Prelude.{◌≡◌, ℕ, ◌+◌, ◌*◌, ◌<◌, ◌≤◌, List, reverse, length, take, IfOk, Result, MatchResult}
use Rattle.grade.specs.declared.grade.Grade.{Ghosts}
use Rattle.text.specs.declared.line.Line.{Line}
use Rattle.model.specs.Moves.{Position, Move}
use Rattle.model.specs.Watch.{Reaches}
use Rattle.model.specs.Grades.{moves_grade, RunGrade, Best}
use Rattle.rows.specs.Rows.{head}
use Rattle.phases.specs.declared.table.Phases.{Phases}
use Rattle.phases.specs.Table.{used, Holds, OpenedBy}
use Rattle.phases.specs.Held.{Fits}
use Rattle.rowtable.specs.declared.row.TableRow.{TableRow}
use Rattle.paths.specs.declared.refusal.PathRefusal.{PathRefusal}
use Rattle.paths.specs.declared.refusal.PathRefusal.TheVariants.{TooLarge, NotOpened, ScratchShort, ListShort, NoWay, BrokenRow}
use Rattle.paths.specs.Cells.{Sound}
use Rattle.paths.specs.Layers.{RowWay, PathOf}
use Rattle.paths.specs.Runs.{StandsFor}

-- the number that each refusal is told by; its place is 0
abbrev pub path_number : PathRefusal → ℕ
path_number TooLarge = 9
path_number NotOpened = 10
path_number ScratchShort = 11
path_number ListShort = 12
path_number NoWay = 13
path_number BrokenRow = 14

-- the places of scratch that a lane needs: a layer for each wagon and one more
abbrev pub needed : Phases → List ℕ → ℕ
needed p lane = (length lane + 1) * (16 * p.count + 64)

-- a position that fits, in an opened phase, with scratch enough
pub record Asked (p : Phases) (x : Position) (places : ℕ) : Type 0 where
  pub fits : Fits x.mode x.lane
  pub opened : Holds p x.phase
  pub room : needed p x.lane ≤ places

-- the first of 9, 10 and 11 that applies
abbrev pub Unasked : Phases → Position → ℕ → PathRefusal → Type 0
Unasked p x places TooLarge = Fits x.mode x.lane → ⊥
Unasked p x places NotOpened = Fits x.mode x.lane × (Holds p x.phase → ⊥)
Unasked p x places ScratchShort = Fits x.mode x.lane × (Holds p x.phase × (places < needed p x.lane))
Unasked p x places ListShort = ⊥
Unasked p x places NoWay = ⊥
Unasked p x places BrokenRow = ⊥

module _ {G : Type 0} (m : Ghosts G) (ls : List Line) (p : Phases) (rows : List (TableRow G)) (n : ℕ) (x : Position) (places : ℕ) where
  -- what the first n rows say of the position: the grades of the accepting paths that they make
  abbrev pub SaysOf : G → Type 0
  SaysOf = RowWay m ls (used p) rows n (head x.mode x.phase) x.lane

  -- Why no grade is told. 14: there are not n rows, or one of them names a state that does not exist; 13: they do not, and make no accepting path.
  abbrev pub Untold : PathRefusal → Type 0
  Untold TooLarge = Unasked p x places TooLarge
  Untold NotOpened = Unasked p x places NotOpened
  Untold ScratchShort = Unasked p x places ScratchShort
  Untold ListShort = ⊥
  Untold NoWay = Asked p x places × (Sound m (used p) rows n × (OpenedBy ls p → (v : G) → SaysOf v → ⊥))
  Untold BrokenRow = Asked p x places × (Sound m (used p) rows n → ⊥)

  -- The grade that is told is the best that the rows say, where the phases are those that the lines open.
  abbrev pub BestTold : Result G PathRefusal → Type 0
  BestTold r = MatchResult r (λ v. Asked p x places × (Sound m (used p) rows n × (OpenedBy ls p → Best m SaysOf v))) Untold

  -- Over the saturated rows with their best grades this is the truth about runs: the best grade of a run into the watch, and 13 where none leads there.
  abbrev pub RunsTold : Result G PathRefusal → Type 0
  RunsTold r = MatchResult r (Best m (RunGrade m ls x)) (λ e. path_number e ≡ 13 → (ms : List Move) → Reaches ls x ms → ⊥)

  -- Laying a path out needs a list of as many places as wagons and rows. Why it is not laid out:
  abbrev pub Unlaid : ℕ → PathRefusal → Type 0
  Unlaid listed TooLarge = Unasked p x places TooLarge
  Unlaid listed NotOpened = Unasked p x places NotOpened
  Unlaid listed ScratchShort = Unasked p x places ScratchShort
  Unlaid listed ListShort = Asked p x places × (listed < length x.lane + n)
  Unlaid listed NoWay = (length x.lane + n ≤ listed) × Untold NoWay
  Unlaid listed BrokenRow = (length x.lane + n ≤ listed) × Untold BrokenRow

  -- The list then holds, as a stack with a place for each wagon, the rows of a path of the grade that is told, which is the best. Any such path may be laid out.
  pub record PathLaid (list : List ℕ) (v : G) : Type 0 where
    pub path : PathOf m ls (used p) rows n (head x.mode x.phase) x.lane (reverse (take (length x.lane) list)) v
    pub best : Best m SaysOf v

  abbrev pub LaidTold : List ℕ → Result G PathRefusal → Type 0
  LaidTold list r = MatchResult r (λ v. Asked p x places × ((length x.lane + n ≤ length list) × (Sound m (used p) rows n × (OpenedBy ls p → PathLaid list v)))) (Unlaid (length list))

  -- Over rows with right reasons the path laid out stands for one run into the watch, of the grade that is told.
  abbrev pub RunLaid : List ℕ → Result G PathRefusal → Type 0
  RunLaid list r = IfOk r (λ v. (ms : List Move) × (StandsFor m ls (used p) rows n x (reverse (take (length x.lane) list)) ms × (moves_grade m ms ≡ v)))
