use Rattle.deduction.proofs.Theorems.{settled_is_final}
use Rattle.deduction.proofs.settled_is_final.Goals as goal

pub returns : goal.returns
returns g c = settled_is_final
