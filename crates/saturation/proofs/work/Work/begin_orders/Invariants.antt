use Rattle.std.proofs.Common.{ℕ, ◌<◌, get_or, None}
use Rattle.saturation.specs.Start.{RuleBegun}
use Rattle.saturation.specs.AtHand.{SameSlices, WentOf}
use Rattle.saturation.specs.Work.{Begins}
use Rattle.book.specs.Lines.{lines}
use Rattle.saturation.proofs.work.Work.begin_orders.Given as goal

abbrev pub invariant-loop-rule : goal.invariant-loop-rule
invariant-loop-rule g l =
    let m = g.G.Grade in
    let e = l.setting in
    SameSlices l.initial.self l.self
    × WentOf m e (Begins m e.phases.now (lines e.book.now)) l.initial.self l.self ((k : ℕ) → k < l.rule-index → RuleBegun m e.phases.now (get_or e.book.now.rules k None) l.self.rows.now l.self.found)
