use Rattle.std.proofs.Common.{ℕ, ◌<◌}
use Rattle.book.specs.Lines.{lines}
use Rattle.saturation.specs.AtHand.{SameSlices, WentOf}
use Rattle.saturation.specs.Work.{Brings, TriedNotice}
use Rattle.saturation.proofs.work.Work.bring_notice.Given as goal

abbrev pub invariant-loop-place : goal.invariant-loop-place
invariant-loop-place g l =
    let m = g.G.Grade in
    let e = l.setting in
    let old = l.initial.self in
    SameSlices old l.self
    × WentOf m e (Brings m e.phases.now (lines e.book.now) old.rows.now e.settled old.found l.last.row) old l.self
    ((i : ℕ) → i < l.place → TriedNotice m e.phases.now l.notice l.last.row i l.self.rows.now l.self.found)
