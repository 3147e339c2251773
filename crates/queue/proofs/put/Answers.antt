use Rattle.std.proofs.Common.{refl, ◌∙◌, arith, length-set}
use Rattle.queue.proofs.Steps.{puts}
use Rattle.queue.proofs.put.Goals as goal

pub returns : goal.returns
returns g c =
    let u = c.sift_up in
    (refl, puts g.E.TotalOrder.before c.args.queue.now u.new.places c.args.count (u.auto.places ∙ length-set _ _ _) c.args.entry (omega arith) u.ensures.reordered u.ensures.heap)
