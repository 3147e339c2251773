use Rattle.std.proofs.Common.{below_more, ◌≡◌, get_or, refl, subst, arith}
use Rattle.book.specs.Tables.{blank_link}
use Rattle.rowtable.specs.declared.row.TableState.TheVariants.{Node}
use Rattle.saturation.specs.Work.{row_by_line}
use Rattle.saturation.specs.Start.{LinkBegun}
use Rattle.saturation.proofs.Growth.{at_none, slices_then}
use Rattle.saturation.proofs.Brings.{offered_on, offered_full}
use Rattle.saturation.proofs.Begins.{item_read, begins_link}
use Rattle.saturation.proofs.work.Work.begin_links.Goals as goal

pub returns-in_err-offer-clause-ends : goal.returns-in_err-offer-clause-ends
returns-in_err-offer-clause-ends g c =
    let m = g.G.Grade in
    let (slices, w) = c.loop-link.invariant in
    let b = c.args.setting.now.book.now in
    let k = c.loop-link.link-index in
    let v = get_or b.links k blank_link in
    let (low, read) = item_read b.links c.links_in_use-link-items.result.now b.linking k c.link-item.result blank_link c.links_in_use-link-items.ensures (let long = b.linked.0 in let few = b.linked.1 in omega arith) (omega arith) c.link-item.is in
    let is = subst (λ y. c.link_row.result ≡ row_by_line m (Node y.node.value) y.wagon.value (Node y.to.value)) read c.link_row.ensures in
    let new = begins_link w.table.lawful c.args.setting.now.phases.now b k v low refl in
    at_none _ _ c.from_residual.result c.from_residual.ensures (offered_full w is new c.in_err-offer.ensures.ends)

pub loop-link-preserved : goal.loop-link-preserved
loop-link-preserved g c =
    let m = g.G.Grade in
    let (slices, w) = c.loop-link.invariant in
    let Fs = c.args.setting.now.phases.now in
    let b = c.args.setting.now.book.now in
    let k = c.loop-link.link-index in
    let v = get_or b.links k blank_link in
    let (low, read) = item_read b.links c.links_in_use-link-items.result.now b.linking k c.link-item.result blank_link c.links_in_use-link-items.ensures (let long = b.linked.0 in let few = b.linked.1 in omega arith) (omega arith) c.link-item.is in
    let is = subst (λ y. c.link_row.result ≡ row_by_line m (Node y.node.value) y.wagon.value (Node y.to.value)) read c.link_row.ensures in
    let new = begins_link w.table.lawful Fs b k v low refl in
    let now = c.offer.new.self in (
      slices_then slices c.in_ok-offer.ensures.slices,
      offered_on w is new (λ later a covers. below_more (λ j. LinkBegun m Fs b j now.rows.now now.found) k (λ j lt. later _ _ (a j lt)) covers) c.in_ok-offer.ensures.ends,
    )
