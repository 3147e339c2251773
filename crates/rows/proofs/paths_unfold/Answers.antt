use Rattle.rows.proofs.Unfold.{unfolds}
use Rattle.rows.proofs.paths_unfold.Goals as goal

pub returns : goal.returns
returns c = unfolds
