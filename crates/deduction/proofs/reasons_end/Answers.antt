use Rattle.deduction.proofs.Theorems.{none_leads_back, following_ends}
use Rattle.deduction.proofs.reasons_end.Goals as goal

pub returns : goal.returns
returns g c = record { back = none_leads_back; ends = following_ends }
