use Rattle.std.proofs.Common.{true, set, ap, ◌∙◌}
use Rattle.phases.proofs.Marking.{marked_none, marked_miss, marked_hit}
use Rattle.phases.proofs.nodes.marks.Goals as goal
use Rattle.phases.proofs.nodes.marks.Goals.{in-Some, in_default}

pub loop-line-init : goal.loop-line-init
loop-line-init g c = marked_none

pub loop-line-preserved : goal.loop-line-preserved
loop-line-preserved g c =
    let s = c.loop-line.nodes in
    let rows = c.args.lines.now in
    let i = c.loop-line.line-index in
    let d = c.line-item.result in
    elim c.match-goes.branch [
      | in-Some w ↦
          let is = w.nodes-is ∙ ap (λ t. set s t true) w.from.ensures in
          rw is (marked_hit rows i d c.loop-line-test.true c.line-item.is s c.loop-line.invariant w.in-Some.node w.in-Some.ensures)
      | in_default w ↦ rw w.nodes-is (marked_miss rows i d c.loop-line-test.true c.line-item.is s c.loop-line.invariant w.in_default.ensures)
    ]
