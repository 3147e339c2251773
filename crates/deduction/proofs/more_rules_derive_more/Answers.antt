use Rattle.deduction.proofs.Theorems.{more_rules}
use Rattle.deduction.proofs.more_rules_derive_more.Goals as goal

pub returns : goal.returns
returns g c = more_rules
