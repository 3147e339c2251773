use Rattle.deduction.proofs.Theorems.{start_holds}
use Rattle.deduction.proofs.start_holds.Goals as goal

pub returns : goal.returns
returns g c = start_holds
