use Rattle.deduction.proofs.Theorems.{axiom_grade, grades_follow}
use Rattle.deduction.proofs.derivation_grades.Goals as goal

pub returns : goal.returns
returns g c = record { lone = axiom_grade; follow = grades_follow }
