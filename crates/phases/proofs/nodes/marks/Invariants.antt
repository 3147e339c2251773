use Rattle.std.proofs.Common.{take}
use Rattle.phases.specs.Nodes.{MarkedBy}
use Rattle.phases.proofs.nodes.marks.Given as goal

abbrev pub invariant-loop-line : goal.invariant-loop-line
invariant-loop-line g l = MarkedBy (goal.F-post g l.goes) (take l.line-index l.lines) l.nodes
