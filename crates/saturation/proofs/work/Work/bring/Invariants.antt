use Rattle.std.proofs.Common.{ℕ, ◌<◌, get_or, None}
use Rattle.book.specs.Lines.{lines}
use Rattle.saturation.specs.AtHand.{SameSlices, SettledIn, WentOf}
use Rattle.saturation.specs.Work.{Brings, TriedRule}
use Rattle.saturation.proofs.work.Work.bring.Given as goal

abbrev pub invariant-loop-rule : goal.invariant-loop-rule
invariant-loop-rule g l =
    let m = g.G.Grade in
    let e = l.setting in
    let old = l.initial.self in
    SameSlices old l.self
    × WentOf m e (Brings m e.phases.now (lines e.book.now) old.rows.now e.settled old.found l.last.row) old l.self
    ((k : ℕ) → k < l.rule-index → TriedRule m e.phases.now (get_or e.book.now.rules k None) (SettledIn m e old) l.last.row l.self.rows.now l.self.found)
