-- What holds of moves, phases and the watch in every book.
use Rattle.std.specs.Prelude.{◌≡◌, ℕ, false, List, Some, None, Option, ◌≢◌}
use Rattle.text.specs.declared.line.NoticeLine.{NoticeLine}
use Rattle.text.specs.declared.line.Line.{Line}
use Rattle.text.specs.declared.line.Line.TheVariants.{Order, Notice, Open, Watch, Link, End, Bare}
use Rattle.text.specs.Phases.{has}
use Rattle.model.specs.Phases.{Stands, InForce, Allows, after, Opened}
use Rattle.model.specs.Moves.{Position, Move, Step, Run}
use Rattle.model.specs.Watch.{Watched, Reaches}

-- a run from an opened phase stays in opened phases
abbrev pub RunsStayOpened : Type 0
RunsStayOpened = (ls : List Line) (x y : Position) (ms : List Move) → Opened ls x.phase → Run ls x ms y → Opened ls y.phase

-- the number of an order or a notice
abbrev pub rule_number : Line → Option ℕ
rule_number (Order o) = Some o.number.value
rule_number (Notice n) = Some n.number.value
rule_number (Open F) = None
rule_number (Watch w) = None
rule_number (Link l) = None
rule_number (End t) = None
rule_number (Bare p) = None

-- a number stands once, as it does in every book
abbrev pub NumbersOnce : List Line → Type 0
NumbersOnce ls = (k l : Line) (n : ℕ) → Stands ls k → Stands ls l → rule_number k ≡ Some n → rule_number l ≡ Some n → k ≡ l

-- a move by number leads to at most one position
abbrev pub MovesByNumber : Type 0
MovesByNumber =
    (ls : List Line) → NumbersOnce ls → (x y z : Position) (l m : Move) → Step ls x l y → Step ls x m z → l.number ≡ m.number → (l ≡ m) × (y ≡ z)

-- the phase after a notice, as a set: what is gained is in it, what is lost is not unless it is gained, and the rest stays
pub record AfterNotice (n : NoticeLine) (F : ℕ) : Type 0 where
  pub gained : InForce (after n F) n.gains.value
  pub lost : (n.loses.value ≢ n.gains.value) → has (after n F) n.loses.value ≡ false
  pub others : (m : ℕ) → (m ≢ n.gains.value) → (m ≢ n.loses.value) → has (after n F) m ≡ has F m
  -- withdrawing a number and putting the same one in force leaves the phase as it is
  pub renewed : n.loses.value ≡ n.gains.value → InForce F n.loses.value → after n F ≡ F
  -- a notice may withdraw itself, and may put itself in force
  pub itself_lost : n.number.value ≡ n.loses.value → InForce F n.number.value → Allows n F
  pub itself_gained : n.number.value ≡ n.gains.value → InForce (after n F) n.number.value

abbrev pub NoticesChangePhases : Type 0
NoticesChangePhases = (n : NoticeLine) (F : ℕ) → AfterNotice n F

-- one notice leads from two different phases to one
abbrev pub PhasesMeet : Type 0
PhasesMeet = (n : NoticeLine) × ((F : ℕ) × ((G : ℕ) × ((F ≢ G) × (Allows n F × (Allows n G × (after n F ≡ after n G))))))

-- the same lines stand in both
abbrev pub SameLines : List Line → List Line → Type 0
SameLines ls ks = (l : Line) → (Stands ls l → Stands ks l) × (Stands ks l → Stands ls l)

-- what is defined of a book depends only on which lines stand
pub record Unchanged (ls ks : List Line) : Type 0 where
  pub opened : (F : ℕ) → Opened ls F → Opened ks F
  pub steps : (x y : Position) (m : Move) → Step ls x m y → Step ks x m y
  pub runs : (x y : Position) (ms : List Move) → Run ls x ms y → Run ks x ms y
  pub watched : (x : Position) → Watched ls x → Watched ks x
  pub reaches : (x : Position) (ms : List Move) → Reaches ls x ms → Reaches ks x ms

abbrev pub LinesAreAll : Type 0
LinesAreAll = (ls ks : List Line) → SameLines ls ks → Unchanged ls ks × Unchanged ks ls
