use Rattle.grade.specs.Facts.{class_1_minutes_5, class_2_minutes_1, class_2_minutes_0}
use Rattle.grade.proofs.theorems.ranking_is_no_grade.Goals as goal

pub returns : goal.returns
returns c = (((tt, λ h. h), (tt, λ h. h)), λ kept. kept class_1_minutes_5 class_2_minutes_1 class_2_minutes_0 tt)
