-- Grades of runs, for any grade: m holds what the grade says of itself.
use Rattle.std.specs.Prelude.{◌≡◌, T, List, map}
use Rattle.grade.specs.declared.grade.Grade.{Ghosts}
use Rattle.grade.specs.Runs.{run_grade}
use Rattle.text.specs.declared.line.Line.{Line}
use Rattle.model.specs.Moves.{Position, Move}
use Rattle.model.specs.Watch.{Reaches}

module _ {G : Type 0} (m : Ghosts G) where
  -- the grade of a list of moves: the grades of their tolls joined in order, from the best
  abbrev pub moves_grade : List Move → G
  moves_grade ms = run_grade m (map (λ x. x.toll) ms)

  -- some run from the position into the watch has exactly the grade v
  pub record RunGrade (ls : List Line) (x : Position) (v : G) : Type 0 where
    pub moves : List Move
    pub reaches : Reaches ls x moves
    pub graded : moves_grade moves ≡ v

  -- v is the best grade of which P holds: P holds of it, and of none that is better
  pub record Best (P : G → Type 0) (v : G) : Type 0 where
    pub attained : P v
    pub no_better : (u : G) → P u → T (m.noworse v u)
