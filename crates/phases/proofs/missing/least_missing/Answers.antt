use Rattle.std.proofs.Common.{None, take, subst, ◌∙◌, arith}
use Rattle.std.proofs.lemmas.List.{take_all}
use Rattle.model.specs.Phases.{InForce}
use Rattle.book.specs.Lines.{lines}
use Rattle.phases.specs.Missing.{Lowered, RuleMentions, AnyMentions}
use Rattle.phases.proofs.Naming.{lowered_join, lowered_more, least_told}
use Rattle.phases.proofs.missing.least_missing.Goals as goal

pub loop-rule-preserved : goal.loop-rule-preserved
loop-rule-preserved c =
    let b = c.args.book.now in
    let long = b.numbered.0 in
    let lt = c.loop-rule-test.true in
    lowered_more (lines b) RuleMentions b.rules c.loop-rule.rule-index c.rule-item.result (omega arith) None c.loop-rule.least c.lower_by_rule-least.result c.loop-rule.invariant c.lower_by_rule-least.ensures

pub loop-phase-preserved : goal.loop-phase-preserved
loop-phase-preserved c =
    lowered_more (lines c.args.book.now) InForce c.opens_in_use-phase-items.result.now c.loop-phase.phase-index 0 c.loop-phase-test.true
    c.loop-rule.least c.loop-phase.least c.lower_by_phase-least.result c.loop-phase.invariant c.lower_by_phase-least.ensures

pub returns : goal.returns
returns c =
    let b = c.args.book.now in
    let ls = lines b in
    let least = c.loop-phase.least in
    let opens = c.opens_in_use-phase-items.result.now in
    let in_use = take b.opening b.opens in
    let long = b.numbered.0 in
    let ge = c.loop-rule-test.false in
    let rules = subst (λ rs. Lowered ls (AnyMentions RuleMentions rs) None c.loop-rule.least) (take_all c.loop-rule.rule-index b.rules (omega arith)) c.loop-rule.invariant in
    let phases = subst (λ xs. Lowered ls (AnyMentions InForce xs) c.loop-rule.least least) (take_all c.loop-phase.phase-index opens c.loop-phase-test.false ∙ c.opens_in_use-phase-items.ensures) c.loop-phase.invariant in
    least_told b least (lowered_join ls (AnyMentions RuleMentions b.rules) (AnyMentions InForce in_use) None c.loop-rule.least least rules phases)
