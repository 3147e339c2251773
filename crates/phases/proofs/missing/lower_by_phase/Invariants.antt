use Rattle.std.proofs.Common.{ℕ, ◌<◌}
use Rattle.model.specs.Phases.{InForce}
use Rattle.book.specs.Lines.{lines}
use Rattle.phases.specs.Missing.{Accepted}
use Rattle.phases.proofs.missing.lower_by_phase.Given as goal

abbrev pub invariant-loop-value : goal.invariant-loop-value
invariant-loop-value l = (k : ℕ) → k < l.value → InForce l.phase k → (Accepted (lines l.book) k → ⊥) → ⊥
