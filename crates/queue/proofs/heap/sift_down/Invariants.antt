use Rattle.std.proofs.Common.{◌-◌, ◌≤◌, length}
use Rattle.queue.specs.Heaps.{at, Reordered, HeapBelow, Sinking}
use Rattle.queue.proofs.heap.sift_down.Given as goal

abbrev pub invariant-loop-p : goal.invariant-loop-p
invariant-loop-p g l =
    let f = g.E.TotalOrder.before in
    (l.n ≤ length l.places)
    × Reordered l.initial.places l.places l.n
    × ((d : g.row.E.Denot) → HeapBelow f (at l.initial.places d) 1 l.n → Sinking f (at l.places d) l.p l.n)

abbrev pub decreases-loop-p : goal.decreases-loop-p
decreases-loop-p g l = l.n - l.p
