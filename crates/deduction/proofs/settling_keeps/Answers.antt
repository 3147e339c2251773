use Rattle.deduction.proofs.Theorems.{settling_keeps}
use Rattle.deduction.proofs.settling_keeps.Goals as goal

pub returns : goal.returns
returns g c = settling_keeps
