use Rattle.std.proofs.Common.{arith}
use Rattle.queue.specs.Heaps.{at}
use Rattle.queue.proofs.Orders.{holds, turned, better_child}
use Rattle.queue.proofs.heap.best_child.Goals as goal

pub returns-then-no_worse_at : goal.returns-then-no_worse_at
returns-then-no_worse_at g c =
    let o = g.met.E.TotalOrder in record {
      bound = omega arith;
      best = λ d. better_child _ o.total o.transitive (at c.args.places.now d) c.args.p _ _ c.args.n (λ k ch l ne. omega arith) (holds _ _ (c.no_worse_at.ensures d) c.if-no_worse_at.true);
    }

pub returns-else-no_worse_at : goal.returns-else-no_worse_at
returns-else-no_worse_at g c =
    let o = g.met.E.TotalOrder in record {
      bound = omega arith;
      best = λ d. better_child _ o.total o.transitive (at c.args.places.now d) c.args.p _ _ c.args.n (λ k ch l ne. omega arith) (turned _ o.total o.transitive _ _ _ (c.no_worse_at.ensures d) c.if-no_worse_at.false);
    }
