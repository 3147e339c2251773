use Rattle.std.proofs.Common.{below_more, ◌+◌, ◌<◌, ℕ, map, sym, ap, ◌∙◌, subst, arith, get_or}
use mathlib.Core.Bool.{false≢true}
use Rattle.text.specs.Forms.{listed}
use Rattle.book.specs.Lines.{lines}
use Rattle.rows.specs.Rows.{order_row, head}
use Rattle.saturation.specs.Work.{Covers, Begins}
use Rattle.saturation.specs.AtHand.{SameSlices, WentOf}
use Rattle.saturation.specs.Start.{OrderBegun}
use Rattle.saturation.proofs.Growth.{at_none, slices_then, went_so}
use Rattle.saturation.proofs.Brings.{offered_on, offered_full}
use Rattle.saturation.proofs.Begins.{begins_order}
use Rattle.saturation.proofs.work.Work.begin_order.Goals as goal
use Rattle.saturation.proofs.work.Work.begin_order.Goals.{then-contains+in_ok-offer, else-contains}

pub returns-in_err-offer-clause-ends : goal.returns-in_err-offer-clause-ends
returns-in_err-offer-clause-ends g c =
    let (slices, w) = c.loop-place.invariant in
    let i = c.loop-place.place in
    let new = begins_order w.table.lawful c.args.setting.now.phases.now c.args.setting.now.book.now c.args.order.now c.requires.stands (ap (λ w. map (λ k. k.value) (listed w)) c.in-Zero.is) i (omega arith) (w.table.phases.different.each i (omega arith)) (sym c.if-contains.ensures) in
    at_none _ _ c.from_residual.result c.from_residual.ensures (offered_full w c.lone_row.ensures new c.in_err-offer.ensures.ends)

pub loop-place-preserved : goal.loop-place-preserved
loop-place-preserved g c =
    let m = g.G.Grade in
    let e = c.args.setting.now in
    let (slices, w) = c.loop-place.invariant in
    let Fs = c.args.setting.now.phases.now in
    let b = c.args.setting.now.book.now in
    let o = c.args.order.now in
    let i = c.loop-place.place in
    elim c.if-contains.branch [
      | then-contains+in_ok-offer x ↦
          let new = begins_order w.table.lawful Fs b o c.requires.stands (ap (λ w. map (λ k. k.value) (listed w)) c.in-Zero.is) i (omega arith) (w.table.phases.different.each i (omega arith)) (sym x.if-contains.ensures) in
          let now = x.offer.new.self in
          subst (λ v. SameSlices c.args.self.now v × WentOf m e (Begins m Fs (lines b)) c.args.self.now v ((j : ℕ) → j < i + 1 → OrderBegun m Fs o j v.rows.now v.found)) (sym x.self-is) (
            slices_then slices x.in_ok-offer.ensures.slices,
            offered_on w x.lone_row.ensures new
                (λ later a covers. below_more (λ j. OrderBegun m Fs o j now.rows.now now.found) i (λ j lt lone in_force. later _ _ (a j lt lone in_force))
                (λ lone in_force. subst (Covers m Fs now.rows.now now.found (order_row o (get_or Fs i 0) (head o.to.value (get_or Fs i 0)))) (w.table.lawful.unitr (m.priced o.toll)) covers))
                x.in_ok-offer.ensures.ends,
          )
      | else-contains x ↦
          let now = c.loop-place.self in
          subst (λ v. SameSlices c.args.self.now v × WentOf m e (Begins m Fs (lines b)) c.args.self.now v ((j : ℕ) → j < i + 1 → OrderBegun m Fs o j v.rows.now v.found)) (sym x.self-is)
          (slices, went_so (λ a. below_more (λ j. OrderBegun m Fs o j now.rows.now now.found) i a (λ lone in_force. absurd (false≢true (x.if-contains.ensures ∙ in_force)))) w)
    ]
