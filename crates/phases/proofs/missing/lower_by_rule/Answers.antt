use Rattle.std.proofs.Common.{◌≡◌, Some, rules}
use Rattle.text.specs.declared.line.Rule.TheVariants as rule
use Rattle.book.specs.Lines.{lines}
use Rattle.phases.proofs.Naming.{notice_lowered}
use Rattle.phases.proofs.missing.lower_by_rule.Goals as goal

pub returns-in-Some-Notice : goal.returns-in-Some-Notice
returns-in-Some-Notice c =
    let n = c.in-Some-Notice.notice in
    let is : c.args.rule.now ≡ Some (rule.Notice n) = search rules in
    notice_lowered (lines c.args.book.now) c.args.rule.now n is c.args.least c.lower-least.result c.lower.result c.lower-least.ensures c.lower.ensures
