use Rattle.std.proofs.Common.{T, get_or, sym, ap, ◌∙◌, subst}
use Rattle.book.specs.Lines.{lines}
use Rattle.rows.specs.Rows.{order_row}
use Rattle.rowtable.specs.Tables.{state_of}
use Rattle.saturation.specs.Work.{row_by_order, Covers, BringsBoth, TriedTwo}
use Rattle.saturation.proofs.Brings.{offered, brings_two, later_two, starts_once}
use Rattle.saturation.proofs.work.Work.attempt_two.Goals as goal

pub offer-requires-clause-later : goal.offer-requires-clause-later
offer-requires-clause-later g c =
    let m = g.G.Grade in
    let o = c.args.order.now.line in
    let one = c.args.one.now in
    let next = c.args.next.now in
    let is = c.order_row-row.ensures ∙ ap (λ h. row_by_order m o c.in-Some.place next.row.to h one.place next.place) c.joined-parts.ensures in
    λ p r h. subst (λ z. T (m.noworse r.grade z.grade)) (sym is) (later_two c.requires.table (m.priced o.toll) c.requires.last p r h)

pub returns-in-Some-clause-ends : goal.returns-in-Some-clause-ends
returns-in-Some-clause-ends g c =
    let m = g.G.Grade in
    let t = c.requires.table in
    let e = c.args.setting.now in
    let Fs = c.args.setting.now.phases.now in
    let old = c.args.self.now in
    let now = c.offer.new.self in
    let p = c.args.order.now in
    let o = p.line in
    let one = c.args.one.now in
    let next = c.args.next.now in
    let x = one.row in
    let y = next.row in
    let i = c.in-Some.place in
    let is = c.order_row-row.ensures ∙ ap (λ h. row_by_order m o i y.to h one.place next.place) c.joined-parts.ensures in
    let new = brings_two t o c.requires.stands p.first p.second i one.place next.place x y p.laid c.in-Some.ensures (c.goes.ensures.0 c.if-not-goes.false) c.requires.settled.0 c.requires.settled.1 in
    offered (BringsBoth m Fs (lines e.book.now) old.rows.now e.settled old.found x y) t now.rows.now now.found now.waiting.now c.order_row-row.result (row_by_order m o i y.to (m.join x.grade y.grade) one.place next.place) is new
    (TriedTwo m Fs o p.first p.second x y) c.offer.result
    (λ covers j st go. subst (λ k. Covers m Fs now.rows.now now.found (order_row o (get_or Fs k 0) (state_of Fs y.to)) (m.join (m.priced o.toll) (m.join x.grade y.grade))) (starts_once c.in-Some.ensures st) covers)
    c.offer.ensures.ends
