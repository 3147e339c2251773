use Rattle.std.proofs.Common.{◌∙◌, arith}
use Rattle.queue.proofs.Steps.{takes}
use Rattle.queue.proofs.take.Goals as goal

pub returns : goal.returns
returns g c =
    let o = g.met.E.TotalOrder in
    let w = c.swap in
    let s = w.ensures.by_index in
    let u = c.sift_down in
    takes g.E.TotalOrder.before c.args.queue.now u.new.places c.args.count (u.auto.places ∙ w.ensures.len) o.total o.transitive w.new.self c.index-queue-0.result
    (omega arith) (omega arith) c.index-queue-0.is w.ensures.after w.ensures.len (λ d. (s.0 d, s.1 d, λ m. s.2 m d)) u.ensures.reordered u.ensures.heap
