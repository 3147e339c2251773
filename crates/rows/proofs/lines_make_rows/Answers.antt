use Rattle.rows.proofs.Lines.{same_rows}
use Rattle.rows.proofs.lines_make_rows.Goals as goal

pub returns : goal.returns
returns g c = same_rows
