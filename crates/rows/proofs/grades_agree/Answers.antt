use Rattle.rows.proofs.Graded.{moves_graded, ways_are_runs}
use Rattle.rows.proofs.grades_agree.Goals as goal

pub returns : goal.returns
returns g c = record { moves = moves_graded c.lawful.ensures; ways = ways_are_runs c.lawful.ensures }
