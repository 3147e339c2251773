-- What is told of the best path over the rows of any table, whatever phases stand in the table of phases.
use Rattle.std.specs.Prelude.{◌≡◌, ℕ, ◌+◌, ◌<◌, ◌≤◌, List, reverse, length, take, IfOk, Result, MatchResult}
use Rattle.grade.specs.declared.grade.Grade.{Ghosts}
use Rattle.text.specs.declared.line.Line.{Line}
use Rattle.model.specs.Moves.{Position, Move}
use Rattle.model.specs.Watch.{Reaches}
use Rattle.model.specs.Grades.{moves_grade, RunGrade, Best}
use Rattle.phases.specs.declared.table.Phases.{Phases}
use Rattle.phases.specs.Table.{used, FirstAt}
use Rattle.rowtable.specs.declared.row.TableState.{TableState}
use Rattle.rowtable.specs.declared.row.TableState.TheVariants.{Head}
use Rattle.rowtable.specs.declared.row.TableRow.{TableRow}
use Rattle.rowtable.specs.Paths.{RowPath, RowsSay}
use Rattle.unfolding.specs.Rest.{Rest}
use Rattle.paths.specs.declared.refusal.PathRefusal.{PathRefusal}
use Rattle.paths.specs.declared.refusal.PathRefusal.TheVariants.{TooLarge, NotOpened, ScratchShort, ListShort, NoWay, BrokenRow}
use Rattle.paths.specs.Answers.{Asked, Unasked}
use Rattle.paths.specs.Cells.{Sound}

-- the state that a path starts from: the mode with the first place of the phase
abbrev pub Starts : Phases → Position → TableState → Type 0
Starts p x s = (i : ℕ) × ((s ≡ Head x.mode i) × FirstAt p x.phase i)

module _ {G : Type 0} (m : Ghosts G) (ls : List Line) (p : Phases) (rows : List (TableRow G)) (n : ℕ) (x : Position) where
  -- what the first n rows say of the position: the grades of the accepting paths that they make
  abbrev pub RowsSayOf : G → Type 0
  RowsSayOf v = (s : TableState) × (Starts p x s × RowsSay m ls rows n s x.lane v)

  module _ (places : ℕ) where
    -- Why no grade is told. 14: there are not n rows, or one of them names a state that does not exist; 13: they do not, and make no accepting path.
    abbrev pub RowsUntold : PathRefusal → Type 0
    RowsUntold TooLarge = Unasked p x places TooLarge
    RowsUntold NotOpened = Unasked p x places NotOpened
    RowsUntold ScratchShort = Unasked p x places ScratchShort
    RowsUntold ListShort = ⊥
    RowsUntold NoWay = Asked p x places × (Sound m (used p) rows n × ((v : G) → RowsSayOf v → ⊥))
    RowsUntold BrokenRow = Asked p x places × (Sound m (used p) rows n → ⊥)

    -- the grade that is told is the best that the rows say
    abbrev pub BestRowsTold : Result G PathRefusal → Type 0
    BestRowsTold r = MatchResult r (λ v. Asked p x places × (Sound m (used p) rows n × Best m RowsSayOf v)) RowsUntold

    -- Laying a path out needs a list of as many places as wagons and rows. Why it is not laid out:
    abbrev pub RowsUnlaid : ℕ → PathRefusal → Type 0
    RowsUnlaid listed TooLarge = Unasked p x places TooLarge
    RowsUnlaid listed NotOpened = Unasked p x places NotOpened
    RowsUnlaid listed ScratchShort = Unasked p x places ScratchShort
    RowsUnlaid listed ListShort = Asked p x places × (listed < length x.lane + n)
    RowsUnlaid listed NoWay = (length x.lane + n ≤ listed) × RowsUntold NoWay
    RowsUnlaid listed BrokenRow = (length x.lane + n ≤ listed) × RowsUntold BrokenRow

    -- The list then holds, as a stack with a place for each wagon, the rows of a path of the grade that is told, which is the best. Any such path may be laid out.
    pub record RowsLaid (list : List ℕ) (v : G) : Type 0 where
      pub start : TableState
      pub starts : Starts p x start
      pub path : RowPath m ls rows n start x.lane (reverse (take (length x.lane) list)) v
      pub best : Best m RowsSayOf v

    abbrev pub RowsLaidTold : List ℕ → Result G PathRefusal → Type 0
    RowsLaidTold list r = MatchResult r (λ v. Asked p x places × ((length x.lane + n ≤ length list) × (Sound m (used p) rows n × RowsLaid list v))) (RowsUnlaid (length list))

-- Over a table of the saturated rows this is the truth about runs: the grade told is the best of a run into the watch, 13 says that none leads there, and 14 does not occur.
abbrev pub RunsUntold : List Line → Position → PathRefusal → Type 0
RunsUntold ls x TooLarge = Unit {0}
RunsUntold ls x NotOpened = Unit {0}
RunsUntold ls x ScratchShort = Unit {0}
RunsUntold ls x ListShort = Unit {0}
RunsUntold ls x NoWay = (ms : List Move) → Reaches ls x ms → ⊥
RunsUntold ls x BrokenRow = ⊥

abbrev pub SaturatedTold : {G : Type 0} → Ghosts G → List Line → Position → Result G PathRefusal → Type 0
SaturatedTold m ls x r = MatchResult r (Best m (RunGrade m ls x)) (RunsUntold ls x)

-- .. and the path laid out stands for one run into the watch, of the grade that is told.
abbrev pub RestLaid : {G : Type 0} → Ghosts G → List Line → (rows : List (TableRow G)) (n : ℕ) → Position → List ℕ → Result G PathRefusal → Type 0
RestLaid m ls rows n x list r = IfOk r (λ v. (ms : List Move) × (Rest m ls rows n list x ms × (moves_grade m ms ≡ v)))
