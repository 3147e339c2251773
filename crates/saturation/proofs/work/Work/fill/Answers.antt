use Rattle.std.proofs.Common.{length, Some, subst}
use Rattle.book.specs.Lines.{lines}
use Rattle.saturation.specs.Work.{Proceeded}
use Rattle.saturation.proofs.Finishing.{filled_ends}
use Rattle.saturation.proofs.work.Work.fill.Goals as goal

pub returns-clause-filled : goal.returns-clause-filled
returns-clause-filled g c =
    let m = g.G.Grade in
    let e = c.args.setting.now in
    let old = c.args.self.now in
    let mid = c.begin.new.self in
    let new = c.proceed.new.self in
    let r = Some c.in_ok-proceed.field-0 in
    let (worked, long, wide) = c.in_ok-begin.ensures.turned in
    filled_ends m e.phases.now (lines e.book.now) old.rows.now mid.rows.now new.rows.now old.waiting.now mid.waiting.now new.waiting.now new.found r long wide
    (subst (λ s. Proceeded m e.phases.now (lines e.book.now) mid.rows.now mid.waiting.now s (length mid.rows.now) new.rows.now new.found new.waiting.now r) c.requires.start.0 c.in_ok-proceed.ensures.proceeded)
