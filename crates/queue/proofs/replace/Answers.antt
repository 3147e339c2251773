use Rattle.std.proofs.Common.{◌≡◌, T, get_or, sym, refl, ◌∙◌, subst, arith, length-set}
use Rattle.std.proofs.lemmas.List.{get_or_read}
use Rattle.queue.proofs.Orders.{holds}
use Rattle.queue.proofs.Steps.{replaces}
use Rattle.queue.proofs.replace.Goals as goal

pub returns-then-count-queue : goal.returns-then-count-queue
returns-then-count-queue g c = (λ may. omega (arith, may.room, may.low, c.then-count-queue.either), refl)

pub returns-then-not-no_worse : goal.returns-then-not-no_worse
returns-then-not-no_worse g c =
    let f = g.E.TotalOrder.before in
    let old = c.index-queue-place in
    (λ may. subst T (sym c.if-not-no_worse.ensures) (subst (λ y. T (f c.args.entry y)) (sym old.is) (may.better old.result)), refl)

pub returns : goal.returns
returns g c =
    let o = g.met.E.TotalOrder in
    let u = c.sift_up in
    let q = c.args.queue.now in
    let k = c.args.place in
    let old = c.index-queue-place.result in
    let is : (d : g.row.E.Denot) → get_or q k d ≡ old = λ d. sym (get_or_read q k old (omega arith) c.index-queue-place.is d) in (
      record { low = omega arith; inside = omega arith; is = is },
      replaces g.E.TotalOrder.before q u.new.places c.args.count (u.auto.places ∙ length-set _ _ _) o.total o.transitive k old c.args.entry
          (omega arith) (omega arith) is (holds _ _ c.no_worse.ensures c.if-not-no_worse.false) u.ensures.reordered u.ensures.heap,
    )
