use Rattle.rows.proofs.Reasons.{reasons_show, reasons_turn}
use Rattle.rows.proofs.reasons_show_runs.Goals as goal

pub returns : goal.returns
returns g c = record { show = reasons_show c.lawful.ensures; turn = reasons_turn }
