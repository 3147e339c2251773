use Rattle.std.proofs.Common.{take, None}
use Rattle.model.specs.Phases.{InForce}
use Rattle.book.specs.Lines.{lines}
use Rattle.phases.specs.Missing.{Lowered, RuleMentions, AnyMentions}
use Rattle.phases.proofs.missing.least_missing.Given as goal

abbrev pub invariant-loop-rule : goal.invariant-loop-rule
invariant-loop-rule l = Lowered (lines l.book) (AnyMentions RuleMentions (take l.rule-index l.book.rules)) None l.least

abbrev pub invariant-loop-phase : goal.invariant-loop-phase
invariant-loop-phase l = Lowered (lines l.book) (AnyMentions InForce (take l.phase-index l.phase-items)) l.initial.least l.least
