use Rattle.grade.specs.Waits.{sooner}
use Rattle.saturation.proofs.Growth.{replaces}
use Rattle.saturation.proofs.offer.requeue.Goals as goal

pub returns-in-Some : goal.returns-in-Some
returns-in-Some g c = replaces (sooner g.G.TotalOrder.before) c.replace.result c.requires.room c.in-Some.ensures c.requires.better c.replace.ensures
