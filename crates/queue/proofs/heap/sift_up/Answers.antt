use Rattle.std.proofs.Common.{◌≡◌, ◌-◌, ◌/◌, subst, arith}
use Rattle.queue.specs.Heaps.{at, InOrder}
use Rattle.queue.proofs.Orders.{holds, turned, risen, rises}
use Rattle.queue.proofs.Places.{same_order, again, swaps}
use Rattle.queue.proofs.heap.sift_up.Goals as goal

pub loop-k-init : goal.loop-k-init
loop-k-init g c = (omega arith, omega arith, λ n p q. same_order _ _, λ n d p h. h)

pub returns-then-no_worse_at : goal.returns-then-no_worse_at
returns-then-no_worse_at g c =
    let f = g.E.TotalOrder.before in
    let l = c.loop-k in record {
      reordered = l.invariant.2;
      heap = λ n d p h. risen f (at l.places d) l.k n
          (λ q ch. let e : (l.k - 1) / 2 ≡ q = omega arith in subst (λ m. InOrder f (at l.places d) m l.k) e (holds _ _ (c.no_worse_at.ensures d) c.if-no_worse_at.true))
          (l.invariant.3 n d p h);
    }

pub loop-k-preserved : goal.loop-k-preserved
loop-k-preserved g c =
    let o = g.met.E.TotalOrder in
    let l = c.loop-k in
    let w = c.swap in
    let s = w.ensures.by_index in
    let parent = (l.k - 1) / 2 in (
      omega arith,
      omega arith,
      λ n p q. again (l.invariant.2 n p q) (swaps l.places w.new.self parent l.k n (omega arith) (omega arith) (omega arith) w.ensures.after),
      λ n d p h. rises _ o.total o.transitive (at l.places d) (at w.new.self d) parent l.k n (omega arith, omega arith) (omega arith) (s.0 d, s.1 d, λ m. s.2 m d)
          (turned _ o.total o.transitive _ _ _ (c.no_worse_at.ensures d) c.if-no_worse_at.false)
          (l.invariant.3 n d p h),
    )

pub returns : goal.returns
returns g c =
    let l = c.loop-k in
    record {
      reordered = l.invariant.2;
      heap = λ n d p h. risen g.E.TotalOrder.before (at l.places d) l.k n (λ q ch. absurd (omega arith)) (l.invariant.3 n d p h);
    }
