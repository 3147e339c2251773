use Rattle.std.proofs.Common.{◌≡◌, ℕ, ◌<◌, ◌≤◌, length}
use Rattle.queue.specs.Heaps.{at, Reordered, Rising}
use Rattle.queue.proofs.heap.sift_up.Given as goal

abbrev pub invariant-loop-k : goal.invariant-loop-k
invariant-loop-k g l =
    let f = g.E.TotalOrder.before in
    (l.k ≤ l.start)
    × (length l.places ≡ length l.initial.places)
    × ((n : ℕ) → l.start < n → n ≤ length l.initial.places → Reordered l.initial.places l.places n)
    × ((n : ℕ) (d : g.row.E.Denot) → l.start < n → Rising f (at l.initial.places d) l.start n → Rising f (at l.places d) l.k n)

abbrev pub decreases-loop-k : goal.decreases-loop-k
decreases-loop-k g l = l.k
