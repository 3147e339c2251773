use Rattle.deduction.proofs.Theorems.{unsettled_is_bounded, list_is_bounded, list_is_known}
use Rattle.deduction.proofs.unsettled_is_bounded.Goals as goal

pub returns : goal.returns
returns g c = record { item = unsettled_is_bounded; list = list_is_bounded; either = list_is_known }
