use Rattle.rows.proofs.Complete.{complete}
use Rattle.rows.proofs.runs_are_paths.Goals as goal

pub returns : goal.returns
returns c = complete
