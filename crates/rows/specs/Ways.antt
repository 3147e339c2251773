-- Grades of rows and of accepting paths, for any grade: m holds what the grade says of itself.
use Rattle.std.specs.Prelude.{ℕ, List}
use Rattle.grade.specs.declared.grade.Grade.{Ghosts}
use Rattle.deduction.specs.Grades.{Grading}
use Rattle.deduction.specs.Derivations.{System, Derivation, joined_grade, BestOf, Joined}
use Rattle.text.specs.declared.line.Line.{Line}
use Rattle.rows.specs.Rows.{State, Row, Path, Rule, link_rule, watch_rule, order_rule, notice_rule, row_rules}
use Rattle.rows.specs.Paths.{Stop, Accepts}

module _ {G : Type 0} (m : Ghosts G) where
  -- the grade as derivations use it
  abbrev pub grading : Grading G
  grading = record { no_worse = m.noworse; best = m.best; join = m.join }

  -- what a rule adds to its premises' grades: the best grade for a line, else the grade of the toll
  abbrev pub rule_grade : {ls : List Line} → Rule ls → G
  rule_grade (link_rule l stands) = m.best
  rule_grade (watch_rule v F stands is_open) = m.best
  rule_grade (order_rule o F stands is_open in_force path) = m.priced o.toll
  rule_grade (notice_rule n F l s stands is_open allows) = m.priced n.toll

  -- derivations of rows with their grades
  abbrev pub row_system : (ls : List Line) → System Row (Rule ls) G
  row_system ls = record { rules = row_rules ls; grading = grading; toll = rule_grade }

  -- the grade of an accepting path: those of its derivations, joined in order
  abbrev pub accept_grade : {ls : List Line} {s : State} {w : List ℕ} → Accepts ls s w → G
  accept_grade {ls} a = joined_grade (row_system ls) a.derived

  -- `Has i v`: a table has the row i with the grade v
  module _ (ls : List Line) (Has : Row → G → Type 0) where
    -- What a table says about a lane: an accepting path of its rows, from a state by the wagons, with the grade v, which is their grades joined in order.
    pub record Way (s : State) (w : List ℕ) (v : G) : Type 0 where
      pub rows : List Row
      pub last : State
      pub path : Path s w rows last
      pub joined : Joined grading Has rows v
      pub stop : Stop ls last

    -- the table has exactly the saturated rows, each with the best grade over its derivations
    pub record Saturated : Type 0 where
      pub best : (i : Row) (v : G) → Has i v → BestOf (row_system ls) i v
      pub all : (i : Row) → Derivation (row_rules ls) i → (v : G) × Has i v
