use Rattle.rows.proofs.Graded.{table_best, table_some}
use Rattle.rows.proofs.table_tells_runs.Goals as goal

pub returns : goal.returns
returns g c = record { best = table_best c.lawful.ensures; some = table_some c.lawful.ensures }
