use Rattle.deduction.proofs.Theorems.{finished_is_all, finished_is_best}
use Rattle.deduction.proofs.finished_is_complete.Goals as goal

pub returns : goal.returns
returns g c = record { all = finished_is_all; best = finished_is_best }
