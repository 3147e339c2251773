use Rattle.std.proofs.Common.{arith}
use Rattle.queue.specs.Heaps.{at}
use Rattle.queue.proofs.Orders.{holds, turned, begins, at_leaf, rests, sinks}
use Rattle.queue.proofs.Places.{same_order, again, swaps}
use Rattle.queue.proofs.heap.sift_down.Goals as goal

pub loop-p-init : goal.loop-p-init
loop-p-init g c = (omega arith, same_order _ _, λ d. begins g.E.TotalOrder.before (at c.args.places.now d) c.args.n)

pub returns-then-no_worse_at : goal.returns-then-no_worse_at
returns-then-no_worse_at g c =
    let o = g.met.E.TotalOrder in
    let l = c.loop-p in
    let b = c.best_child-child in record {
      reordered = l.invariant.1;
      heap = λ d h. rests _ o.total o.transitive (at l.places d) l.p b.result c.args.n (holds _ _ (c.no_worse_at.ensures d) c.if-no_worse_at.true) (b.ensures.best d) (l.invariant.2 d h);
    }

pub loop-p-preserved : goal.loop-p-preserved
loop-p-preserved g c =
    let o = g.met.E.TotalOrder in
    let l = c.loop-p in
    let b = c.best_child-child in
    let w = c.swap in
    let s = w.ensures.by_index in (
      omega arith,
      again l.invariant.1 (swaps l.places w.new.self l.p b.result c.args.n (omega arith) (omega arith) (omega arith) w.ensures.after),
      λ d h. sinks _ o.total o.transitive (at l.places d) (at w.new.self d) l.p b.result c.args.n (omega arith, omega arith) (omega arith) (s.0 d, s.1 d, λ m. s.2 m d)
          (turned _ o.total o.transitive _ _ _ (c.no_worse_at.ensures d) c.if-no_worse_at.false)
          (b.ensures.best d) (l.invariant.2 d h),
    )

pub returns : goal.returns
returns g c =
    let l = c.loop-p in
    record { reordered = l.invariant.1; heap = λ d h. at_leaf g.E.TotalOrder.before (at l.places d) l.p c.args.n (omega arith) (l.invariant.2 d h) }
