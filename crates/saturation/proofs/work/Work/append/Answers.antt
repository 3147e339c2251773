use Rattle.std.proofs.Common.{◌≡◌, ◌-◌, subst, inl, inr, arith}
use Rattle.grade.specs.Waits.{sooner}
use Rattle.grade.specs.declared.waiting.Waiting.{Waiting}
use Rattle.queue.specs.Queues.{Put}
use Rattle.saturation.proofs.Growth.{full_now, went_push}
use Rattle.saturation.proofs.work.Work.append.Goals as goal
use Rattle.saturation.proofs.work.Work.append.Goals.{then-self-via-then-self, then-self-via-else-self+then-self-2}

pub returns-then-self-clause-ends : goal.returns-then-self-clause-ends
returns-then-self-clause-ends g c =
    full_now c.requires.table c.args.row (elim c.then-self.branch [ then-self-via-then-self w ↦ inl w.if-self.true | then-self-via-else-self+then-self-2 w ↦ inr w.if-self-2.true ]) c.requires.nowhere

pub returns-clause-ends : goal.returns-clause-ends
returns-clause-ends g c =
    let m = g.G.Grade in
    let w = c.args.self.now in
    let s = c.args.setting.now.settled in
    let same : g.G.TotalOrder.before ≡ m.noworse = λ j a b. c.agrees.ensures a b j in
    let new : Waiting g.row.G.Denot = record { grade = c.args.row.grade; row = w.found } in
    let put = subst (λ f. Put (sooner f) w.waiting.now c.put.new.queue (w.found - s) new) same c.in_ok-put.ensures.1 in
    went_push c.requires.table c.args.row (omega arith) c.requires.row.0 c.requires.row.1 c.requires.nowhere put (omega arith) c.put.auto.queue
