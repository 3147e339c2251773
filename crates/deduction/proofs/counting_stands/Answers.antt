use Rattle.deduction.proofs.Theorems.{same_length, known_outnumber, outnumber_no_room, outnumber_exactly, overfull_outnumber, filled_exactly}
use Rattle.deduction.proofs.counting_stands.Goals as goal

pub returns : goal.returns
returns g c = record { same = same_length; known = known_outnumber; list = outnumber_no_room; listed = outnumber_exactly; overfull = overfull_outnumber; filled = filled_exactly }
