use Rattle.std.proofs.Common.{below_more, ◌≡◌, ◌<◌, ℕ, get_or, length, refl, subst, arith}
use Rattle.book.specs.Tables.{blank_watch}
use Rattle.rowtable.specs.declared.row.TableState.TheVariants.{Node, Head}
use Rattle.saturation.specs.Work.{row_by_line}
use Rattle.saturation.specs.Start.{WatchBegun}
use Rattle.saturation.proofs.Growth.{at_none, slices_then, went_so}
use Rattle.saturation.proofs.Brings.{offered_on, offered_full}
use Rattle.saturation.proofs.Begins.{item_read, begins_watch}
use Rattle.saturation.proofs.work.Work.begin_watches.Goals as goal

pub loop-place-init : goal.loop-place-init
loop-place-init g c = let (slices, w) = c.loop-watch.invariant in (slices, went_so (λ a. (a, λ i h. absurd (omega arith))) w)

pub returns-in_err-offer-clause-ends : goal.returns-in_err-offer-clause-ends
returns-in_err-offer-clause-ends g c =
    let m = g.G.Grade in
    let (slices, w) = c.loop-place.invariant in
    let Fs = c.args.setting.now.phases.now in
    let b = c.args.setting.now.book.now in
    let k = c.loop-watch.watch-index in
    let i = c.loop-place.place in
    let v = get_or b.watches k blank_watch in
    let (low, read) = item_read b.watches c.watches_in_use-watch-items.result.now b.watching k c.watch-item.result blank_watch c.watches_in_use-watch-items.ensures (let long = b.watched.0 in let few = b.watched.1 in omega arith) (omega arith) c.watch-item.is in
    let is = subst (λ y. c.watch_row.result ≡ row_by_line m (Head y.mode.value i) y.wagon.value (Node y.node.value)) read c.watch_row.ensures in
    let new = begins_watch w.table.lawful Fs b k v low refl i (omega arith) (w.table.phases.different.each i (omega arith)) in
    at_none _ _ c.from_residual.result c.from_residual.ensures (offered_full w is new c.in_err-offer.ensures.ends)

pub loop-place-preserved : goal.loop-place-preserved
loop-place-preserved g c =
    let m = g.G.Grade in
    let (slices, w) = c.loop-place.invariant in
    let Fs = c.args.setting.now.phases.now in
    let b = c.args.setting.now.book.now in
    let k = c.loop-watch.watch-index in
    let i = c.loop-place.place in
    let v = get_or b.watches k blank_watch in
    let (low, read) = item_read b.watches c.watches_in_use-watch-items.result.now b.watching k c.watch-item.result blank_watch c.watches_in_use-watch-items.ensures (let long = b.watched.0 in let few = b.watched.1 in omega arith) (omega arith) c.watch-item.is in
    let is = subst (λ y. c.watch_row.result ≡ row_by_line m (Head y.mode.value i) y.wagon.value (Node y.node.value)) read c.watch_row.ensures in
    let new = begins_watch w.table.lawful Fs b k v low refl i (omega arith) (w.table.phases.different.each i (omega arith)) in
    let now = c.offer.new.self in (
      slices_then slices c.in_ok-offer.ensures.slices,
      offered_on w is new (λ later a covers. ((λ j lt h low. later _ _ (a.0 j lt h low)), below_more (λ j. WatchBegun m Fs b k j now.rows.now now.found) i (λ j lt. later _ _ (a.1 j lt)) covers)) c.in_ok-offer.ensures.ends,
    )

pub loop-watch-preserved : goal.loop-watch-preserved
loop-watch-preserved g c =
    let m = g.G.Grade in
    let (slices, w) = c.loop-place.invariant in
    let Fs = c.args.setting.now.phases.now in
    let b = c.args.setting.now.book.now in
    let now = c.loop-place.self in
    (slices, went_so (λ a. below_more (λ j. (i : ℕ) → i < length Fs → WatchBegun m Fs b j i now.rows.now now.found) c.loop-watch.watch-index a.0 (λ i lt. a.1 i (omega arith))) w)
