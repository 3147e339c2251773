use Rattle.rows.proofs.Unfold.{sound}
use Rattle.rows.proofs.paths_are_runs.Goals as goal

pub returns : goal.returns
returns c = sound
