use Rattle.std.proofs.Common.{ℕ, ◌<◌}
use Rattle.book.specs.Lines.{lines}
use Rattle.saturation.specs.AtHand.{SameSlices, WentOf}
use Rattle.saturation.specs.Work.{Brings, TriedPairAt}
use Rattle.saturation.proofs.work.Work.bring_pairs.Given as goal

abbrev pub invariant-loop-place : goal.invariant-loop-place
invariant-loop-place g l =
    let m = g.G.Grade in
    let e = l.setting in
    let old = l.initial.self in
    SameSlices old l.self
    × WentOf m e (Brings m e.phases.now (lines e.book.now) old.rows.now e.settled old.found l.last.row) old l.self
    ((b : ℕ) → b < l.place → TriedPairAt m e.phases.now l.order.line l.order.first l.order.second l.last.row old.rows.now old.found e.settled b l.self.rows.now l.self.found)
