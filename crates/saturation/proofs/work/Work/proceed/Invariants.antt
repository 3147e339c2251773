use Rattle.std.proofs.Common.{◌≡◌, ◌+◌, length}
use Rattle.saturation.specs.AtHand.{SameSlices, WorkedOf}
use Rattle.saturation.proofs.work.Work.proceed.Given as goal

abbrev pub invariant-loop-done : goal.invariant-loop-done
invariant-loop-done g l =
    let old = l.initial.self in
    SameSlices old l.self × WorkedOf g.G.Grade l.setting l.settled l.self × (length l.self.rows.now ≡ length old.rows.now) × (length l.self.waiting.now ≡ length old.waiting.now) × (l.settled ≡ l.setting.settled + l.done)
