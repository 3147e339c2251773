use Rattle.rows.proofs.Graded.{part_bounds}
use Rattle.rows.proofs.part_bounds_runs.Goals as goal

pub returns : goal.returns
returns g c = part_bounds c.lawful.ensures
