use Rattle.std.proofs.Common.{◌↔◌, drop}
use Rattle.book.specs.Lines.{lines}
use Rattle.phases.specs.Nodes.{Marked, LeadsFrom}
use Rattle.phases.proofs.nodes.leads.Given as goal

abbrev pub invariant-loop-wagon : goal.invariant-loop-wagon
invariant-loop-wagon l =
    LeadsFrom (lines l.book) (Marked l.initial.nodes) l.wagons ↔ LeadsFrom (lines l.book) (Marked l.nodes) (drop l.wagon-index l.wagons)
