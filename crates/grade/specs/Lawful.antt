-- All that a grade keeps, in one: m holds what the grade says of itself.
use Rattle.grade.specs.Laws.{Total, Transitive, Antisymmetric, Associative, UnitLeft, UnitRight, KeptLeft, KeptRight, FirstNoWorse, SecondNoWorse}
use Rattle.grade.specs.declared.grade.Grade.{Ghosts}

pub record Lawful {G : Type 0} (m : Ghosts G) : Type 0 where
  pub total : Total m.noworse
  pub transitive : Transitive m.noworse
  pub antisymmetric : Antisymmetric m.noworse
  pub assoc : Associative m.join
  pub unitl : UnitLeft m.join m.best
  pub unitr : UnitRight m.join m.best
  pub monol : KeptLeft m.noworse m.join
  pub monor : KeptRight m.noworse m.join
  pub growsl : FirstNoWorse m.noworse m.join
  pub growsr : SecondNoWorse m.noworse m.join
