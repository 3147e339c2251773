use Rattle.std.proofs.Common.{ℕ, take}
use Rattle.std.specs.List.{Contains}
use Rattle.book.specs.Lines.{lines}
use Rattle.phases.specs.Table.{Holds}
use Rattle.phases.specs.Growth.{Went}
use Rattle.phases.proofs.opening.start.Given as goal

abbrev pub invariant-loop-phase : goal.invariant-loop-phase
invariant-loop-phase l = Went (lines l.book) l.initial.phases l.phases ((F : ℕ) → Contains (take l.phase-index l.phase-items) F → Holds l.phases F)
