use Rattle.std.proofs.Common.{get_or, subst}
use Rattle.book.specs.Lines.{lines}
use Rattle.rows.specs.Rows.{order_row}
use Rattle.rowtable.specs.Tables.{state_of}
use Rattle.saturation.specs.Work.{row_by_order, Covers, Brings, TriedOne}
use Rattle.saturation.proofs.Brings.{offered, brings_one, starts_once}
use Rattle.saturation.proofs.work.Work.attempt_one.Goals as goal

pub returns-in-Some-clause-ends : goal.returns-in-Some-clause-ends
returns-in-Some-clause-ends g c =
    let m = g.G.Grade in
    let t = c.requires.table in
    let e = c.args.setting.now in
    let Fs = c.args.setting.now.phases.now in
    let old = c.args.self.now in
    let now = c.offer.new.self in
    let o = c.args.order.now in
    let x = c.args.last.now.row in
    let i = c.in-Some.place in
    let new = brings_one t o c.requires.stands.0 c.args.wagon i c.args.last.now.place x c.requires.stands.1 c.in-Some.ensures c.requires.last.here in
    offered (Brings m Fs (lines e.book.now) old.rows.now e.settled old.found x) t now.rows.now now.found now.waiting.now c.order_row-row.result (row_by_order m o i x.to x.grade c.args.last.now.place 0) c.order_row-row.ensures new
    (TriedOne m Fs o c.args.wagon x) c.offer.result
    (λ covers j st. subst (λ k. Covers m Fs now.rows.now now.found (order_row o (get_or Fs k 0) (state_of Fs x.to)) (m.join (m.priced o.toll) x.grade)) (starts_once c.in-Some.ensures st) covers)
    c.offer.ensures.ends
