use Rattle.model.proofs.Phases.{notices_change_phases, phases_meet}
use Rattle.model.proofs.laws.notices_change_phases.Goals as goal

pub returns : goal.returns
returns c = record { change = notices_change_phases; meet = phases_meet }
