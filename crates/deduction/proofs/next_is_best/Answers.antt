use Rattle.deduction.proofs.Theorems.{next_is_best}
use Rattle.deduction.proofs.next_is_best.Goals as goal

pub returns : goal.returns
returns g c = next_is_best
