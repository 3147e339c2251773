use Rattle.std.proofs.Common.{below_more, ◌≡◌, ◌+◌, ◌<◌, ℕ, Some, None, rules, get_or, sym, ◌∙◌, subst, arith}
use Rattle.std.proofs.lemmas.List.{get_or_default}
use Rattle.text.specs.declared.line.Rule.TheVariants as rule
use Rattle.book.specs.Lines.{lines}
use Rattle.book.proofs.Standing.{order_at}
use Rattle.saturation.specs.declared.work.Work.{Work}
use Rattle.saturation.specs.AtHand.{SameSlices, WentOf}
use Rattle.saturation.specs.Work.{Begins}
use Rattle.saturation.specs.Start.{RuleBegun}
use Rattle.saturation.proofs.Growth.{at_none, slices_then, went_so, went_on, full_on, covers_later}
use Rattle.saturation.proofs.Begins.{rule_other, rule_lone}
use Rattle.saturation.proofs.work.Work.begin_orders.Goals as goal
use Rattle.saturation.proofs.work.Work.begin_orders.Goals.{in-Some-Order+in_ok-begin_order-in-Some-Order, in-Some-Notice, in-None}

pub begin_order-requires-clause-stands : goal.begin_order-requires-clause-stands
begin_order-requires-clause-stands g c =
    let b = c.args.setting.now.book.now in
    let k = c.loop-rule.rule-index in
    let long = b.numbered.0 in
    let read = get_or_default b.rules k None c.rule-item.result (omega arith) in
    let is : get_or b.rules k c.rule-item.result ≡ Some (rule.Order c.in-Some-Order.order) = search rules in
    (order_at b k c.in-Some-Order.order (omega arith) (read ∙ is)).0

pub returns-in_err-begin_order-in-Some-Order-clause-ends : goal.returns-in_err-begin_order-in-Some-Order-clause-ends
returns-in_err-begin_order-in-Some-Order-clause-ends g c = at_none _ _ c.from_residual.result c.from_residual.ensures (full_on c.loop-rule.invariant.1 (λ r h. h) c.in_err-begin_order-in-Some-Order.ensures.ends)

pub loop-rule-preserved : goal.loop-rule-preserved
loop-rule-preserved g c =
    let m = g.G.Grade in
    let (slices, w) = c.loop-rule.invariant in
    let e = c.args.setting.now in
    let Fs = e.phases.now in
    let b = e.book.now in
    let k = c.loop-rule.rule-index in
    let old = c.args.self.now in
    let mid = c.loop-rule.self in
    let f = get_or b.rules k None in
    let long = b.numbered.0 in
    let read = get_or_default b.rules k None c.rule-item.result (omega arith) in
    let P : Work g.row.G.Denot → Type 0 = λ v. SameSlices old v × WentOf m e (Begins m Fs (lines b)) old v ((j : ℕ) → j < k + 1 → RuleBegun m Fs (get_or b.rules j None) v.rows.now v.found) in
    elim c.match-rule.branch [
      | in-Some-Order+in_ok-begin_order-in-Some-Order y ↦
          let is : get_or b.rules k c.rule-item.result ≡ Some (rule.Order y.in-Some-Order.order) = search rules in
          let now = y.begin_order.new.self in
          subst P (sym y.self-is) (
            slices_then slices y.in_ok-begin_order-in-Some-Order.ensures.slices,
            went_on w (λ r h. h)
                (λ grown a begun. below_more (λ j. RuleBegun m Fs (get_or b.rules j None) now.rows.now now.found) k
                (λ j lt o is i low lone in_force. covers_later _ _ w.table.lawful grown (a j lt o is i low lone in_force))
                (rule_lone m Fs f now.rows.now now.found y.in-Some-Order.order (read ∙ is) begun))
                y.in_ok-begin_order-in-Some-Order.ensures.ends,
          )
      | in-Some-Notice y ↦
          let is : get_or b.rules k c.rule-item.result ≡ Some (rule.Notice y.in-Some-Notice.field-0-0) = search rules in
          subst P (sym y.self-is) (
            slices,
            went_so (λ a. below_more (λ j. RuleBegun m Fs (get_or b.rules j None) mid.rows.now mid.found) k a
                (rule_other m Fs f mid.rows.now mid.found (λ o order. let not_both = read ∙ is in let z : ◌≡◌ {A = ℕ} 0 1 = cc in omega arith))) w,
          )
      | in-None y ↦
          subst P (sym y.self-is) (
            slices,
            went_so (λ a. below_more (λ j. RuleBegun m Fs (get_or b.rules j None) mid.rows.now mid.found) k a
                (rule_other m Fs f mid.rows.now mid.found (λ o order. let not_both = read ∙ y.in-None.is in let z : ◌≡◌ {A = ℕ} 0 1 = cc in omega arith))) w,
          )
    ]
