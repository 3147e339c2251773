-- Accepting paths: what derived rows say about a lane.
use Rattle.std.specs.Prelude.{ℕ, true, List, [], ◌++◌}
use Rattle.grade.specs.declared.upto.UpTo.{UpTo}
use Rattle.deduction.specs.Grades.{Grading}
use Rattle.deduction.specs.Derivations.{System, Derivations, joined_grade}
use Rattle.text.specs.declared.line.Line.{Line}
use Rattle.text.specs.declared.line.Line.TheVariants.{End, Bare}
use Rattle.model.specs.Phases.{Stands, Opened}
use Rattle.model.specs.Moves.{Move}
use Rattle.rows.specs.Rows.{State, head, node, Row, Path, Rule, rule_moves, row_rules}

-- where a path may end, with no wagon left: at a node with an end line, or at a head whose mode has a bare line
pub data Stop (ls : List Line) : State → Type 0 where
  end_stop : (t : UpTo 63) → Stands ls (End t) → Stop ls (node t.value)
  bare_stop : (p : UpTo 15) (F : ℕ) → Stands ls (Bare p) → Opened ls F → Stop ls (head p.value F)

-- an accepting path from a state by the wagons: rows, each with a derivation, that lead to where a path may end
pub record Accepts (ls : List Line) (s : State) (w : List ℕ) : Type 0 where
  pub rows : List Row
  pub last : State
  pub path : Path s w rows last
  pub derived : Derivations (row_rules ls) rows
  pub stop : Stop ls last

-- Lists of moves are joined by appending, from the empty list. They are not compared.
abbrev pub moves_grading : Grading (List Move)
moves_grading = record { no_worse = λ x y. true; best = []; join = ◌++◌ }

-- derivations with their moves: a rule's move comes before those of its premises, which follow in order
abbrev pub move_system : (ls : List Line) → System Row (Rule ls) (List Move)
move_system ls = record { rules = row_rules ls; grading = moves_grading; toll = rule_moves }

-- the moves of an accepting path: those of its derivations, in order
abbrev pub accept_moves : {ls : List Line} {s : State} {w : List ℕ} → Accepts ls s w → List Move
accept_moves {ls} a = joined_grade (move_system ls) a.derived
