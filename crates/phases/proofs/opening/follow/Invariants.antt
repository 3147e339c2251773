use Rattle.std.proofs.Common.{take}
use Rattle.book.specs.Lines.{lines}
use Rattle.phases.specs.Growth.{Went}
use Rattle.phases.proofs.Listing.{RulesFollowed}
use Rattle.phases.proofs.opening.follow.Given as goal

abbrev pub invariant-loop-rule : goal.invariant-loop-rule
invariant-loop-rule l = Went (lines l.book) l.initial.phases l.phases (RulesFollowed l.phases l.phase (take l.rule-index l.book.rules))
