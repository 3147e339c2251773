use Rattle.std.proofs.Common.{◌≡◌, drop}
use Rattle.grade.specs.Runs.{joined_on, run_grade}
use Rattle.grade_tests.proofs.run_grade.Given as goal

-- the tolls to come, joined on, give the whole run's grade
abbrev pub invariant-loop-toll : goal.invariant-loop-toll
invariant-loop-toll g l = joined_on g.G.Grade l.all (drop l.toll-index l.tolls) ≡ run_grade g.G.Grade l.tolls
