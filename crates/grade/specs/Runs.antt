-- The grade of a run, for any grade: m holds what the grade says of itself.
use Rattle.std.specs.Prelude.{◌≡◌, List, [], ◌∷◌, ◌++◌}
use Rattle.grade.specs.declared.toll.Toll.{Toll}
use Rattle.grade.specs.declared.grade.Grade.{Ghosts}

module _ {G : Type 0} (m : Ghosts G) where
  -- the tolls' grades joined in order behind a
  abbrev pub joined_on : G → List Toll → G
  joined_on a [] = a
  joined_on a (t ∷ ts) = joined_on (m.join a (m.priced t)) ts

  -- the grade of a run with these tolls: their grades joined in order, from the best
  abbrev pub run_grade : List Toll → G
  run_grade ts = joined_on m.best ts

  -- The grade of one run and then another is the join of their grades.
  abbrev pub GoesToJoin : Type 0
  GoesToJoin = (ts us : List Toll) → run_grade (ts ++ us) ≡ m.join (run_grade ts) (run_grade us)
