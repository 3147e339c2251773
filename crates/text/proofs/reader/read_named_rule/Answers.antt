use Rattle.std.proofs.Common.{ℕ, rules, Err, sym, ap, ◌∙◌}
use Rattle.std.proofs.lemmas.Result.{err_from_is_err_and}
use Rattle.text.specs.declared.form_name.FormName.TheVariants as n
use Rattle.text.specs.declared.refusal.LineRefusal.TheVariants.{Syntax}
use Rattle.text.specs.Forms.{rule_forms}
use Rattle.text.specs.Names.{name}
use Rattle.text.specs.Steps.{Lacks}
use Rattle.text.proofs.Named.{read_rule_order, read_rule_notice, no_name, no_rule_named, read_no_rule, too_long}
use Rattle.text.proofs.reader.read_named_rule.Goals as goal
use Rattle.text.proofs.reader.read_named_rule.Goals.{in_default-via-in-Some+in_default, in_default-via-in_default}

pub returns-in_err-reader : goal.returns-in_err-reader
returns-in_err-reader c =
    let x = err_from_is_err_and c.from_residual.result c.from_residual.ensures.1 in
    let h = c.in_err-reader.ensures in
    rw x.1 (ap Err (x.2 ∙ h.1) ∙ sym (too_long rule_forms c.args.line.now h.0))

pub returns-in_err-order-in-Some-Order : goal.returns-in_err-order-in-Some-Order
returns-in_err-order-in-Some-Order c =
    let x = err_from_is_err_and c.from_residual-in_err-order-in-Some-Order.result c.from_residual-in_err-order-in-Some-Order.ensures.1 in
    rw x.1 (ap Err x.2 ∙ sym (read_rule_order _ _ _ c.in_ok-reader.ensures.0 c.in_ok-reader.ensures.1 (rw c.in-Some-Order.field-0-is at c.in-Some-Order.ensures) ∙ c.in_err-order-in-Some-Order.ensures))

pub returns-in_ok-order-in-Some-Order : goal.returns-in_ok-order-in-Some-Order
returns-in_ok-order-in-Some-Order c = sym (read_rule_order _ _ _ c.in_ok-reader.ensures.0 c.in_ok-reader.ensures.1 (rw c.in-Some-Order.field-0-is at c.in-Some-Order.ensures) ∙ c.in_ok-order-in-Some-Order.ensures)

pub returns-in_err-notice-in-Some-Notice : goal.returns-in_err-notice-in-Some-Notice
returns-in_err-notice-in-Some-Notice c =
    let x = err_from_is_err_and c.from_residual-in_err-notice-in-Some-Notice.result c.from_residual-in_err-notice-in-Some-Notice.ensures.1 in
    rw x.1 (ap Err x.2 ∙ sym (read_rule_notice _ _ _ c.in_ok-reader.ensures.0 c.in_ok-reader.ensures.1 (rw c.in-Some-Notice.field-0-is at c.in-Some-Notice.ensures) ∙ c.in_err-notice-in-Some-Notice.ensures))

pub returns-in_ok-notice-in-Some-Notice : goal.returns-in_ok-notice-in-Some-Notice
returns-in_ok-notice-in-Some-Notice c = sym (read_rule_notice _ _ _ c.in_ok-reader.ensures.0 c.in_ok-reader.ensures.1 (rw c.in-Some-Notice.field-0-is at c.in-Some-Notice.ensures) ∙ c.in_ok-notice-in-Some-Notice.ensures)

pub returns-in_default : goal.returns-in_default
returns-in_default c =
    let s = c.args.line.now in
    let new = c.in_ok-reader.ensures.1 in
    let (order, notice) =
    elim c.in_default.branch as (λ _. Lacks (name n.Order) s × Lacks (name n.Notice) s) [
      | in_default-via-in-Some+in_default w ↦ no_rule_named s _ _ _ w.in_default.field-0 new c.name.ensures w.in_default.is (λ e. search rules) (λ e. search rules)
      | in_default-via-in_default w ↦ let none = no_name s _ _ _ new c.name.ensures w.in_default.is in (none n.Order, none n.Notice)
    ] in
    ap (λ (n : ℕ). Err (Syntax n)) c.unnamed.ensures ∙ sym (read_no_rule s c.in_ok-reader.ensures.0 order notice)
