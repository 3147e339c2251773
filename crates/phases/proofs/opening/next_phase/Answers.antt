use Rattle.std.proofs.Common.{◌≡◌, Some, rules, refl}
use Rattle.text.specs.declared.line.Rule.TheVariants as rule
use Rattle.phases.proofs.Listing.{next_by}
use Rattle.phases.proofs.opening.next_phase.Goals as goal

pub returns-in-Some-Notice : goal.returns-in-Some-Notice
returns-in-Some-Notice c =
    let n = c.in-Some-Notice.notice in
    let is : c.args.rule.now ≡ Some (rule.Notice n) = search rules in
    next_by c.args.rule.now n c.args.phase c.after_notice.result is (c.if-allowed.ensures.0 refl) c.after_notice.ensures
