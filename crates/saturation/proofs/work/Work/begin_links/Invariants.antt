use Rattle.std.proofs.Common.{ℕ, ◌<◌}
use Rattle.saturation.specs.Start.{LinkBegun}
use Rattle.saturation.specs.AtHand.{SameSlices, WentOf}
use Rattle.saturation.specs.Work.{Begins}
use Rattle.book.specs.Lines.{lines}
use Rattle.saturation.proofs.work.Work.begin_links.Given as goal

abbrev pub invariant-loop-link : goal.invariant-loop-link
invariant-loop-link g l =
    let m = g.G.Grade in
    let e = l.setting in
    SameSlices l.initial.self l.self
    × WentOf m e (Begins m e.phases.now (lines e.book.now)) l.initial.self l.self ((k : ℕ) → k < l.link-index → LinkBegun m e.phases.now e.book.now k l.self.rows.now l.self.found)
