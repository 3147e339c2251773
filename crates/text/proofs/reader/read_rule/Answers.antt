use Rattle.std.proofs.Common.{sym, ap, ◌∙◌, subst}
use Rattle.text.specs.Forms.{rule_forms}
use Rattle.text.specs.Reading.{as_rule}
use Rattle.text.specs.Meaning.{SaysAs}
use Rattle.text.proofs.Right.{reads_as, rules_chosen}
use Rattle.text.proofs.Rules.{as_rule_line, rules_rise}
use Rattle.text.proofs.reader.read_rule.Goals as goal

pub returns : goal.returns
returns c =
    let s = c.args.line.now in
    let r = c.read_named_rule.result in
    let e = c.read_named_rule.ensures in
    let (says, alone) = reads_as rule_forms rules_chosen s in
    let here = subst (SaysAs rule_forms s) (sym e) says in
    record {
      value = sym (as_rule_line r) ∙ ap as_rule e;
      same = e;
      says = here;
      alone = λ x h. alone x h ∙ sym e;
      rises = rules_rise s r here;
    }
