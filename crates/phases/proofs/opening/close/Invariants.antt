use Rattle.std.proofs.Common.{◌-◌, ◌≤◌}
use Rattle.book.specs.Lines.{lines}
use Rattle.phases.specs.Growth.{Went, Closed}
use Rattle.phases.proofs.opening.close.Given as goal

abbrev pub invariant-loop-phase : goal.invariant-loop-phase
invariant-loop-phase l = Went (lines l.book) l.initial.phases l.phases (Closed (lines l.book) l.phases l.done) × (l.done ≤ l.phases.count)

abbrev pub decreases-loop-phase : goal.decreases-loop-phase
decreases-loop-phase l = 32 - l.done
