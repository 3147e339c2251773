use Rattle.std.proofs.Common.{ℕ, ◌<◌}
use Rattle.saturation.specs.Start.{OrderBegun}
use Rattle.saturation.specs.AtHand.{SameSlices, WentOf}
use Rattle.saturation.specs.Work.{Begins}
use Rattle.book.specs.Lines.{lines}
use Rattle.saturation.proofs.work.Work.begin_order.Given as goal

abbrev pub invariant-loop-place : goal.invariant-loop-place
invariant-loop-place g l =
    let m = g.G.Grade in
    let e = l.setting in
    SameSlices l.initial.self l.self
    × WentOf m e (Begins m e.phases.now (lines e.book.now)) l.initial.self l.self ((i : ℕ) → i < l.place → OrderBegun m e.phases.now l.order i l.self.rows.now l.self.found)
