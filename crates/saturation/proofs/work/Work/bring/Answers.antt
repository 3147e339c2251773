use Rattle.std.proofs.Common.{below_more, ◌≡◌, ◌+◌, ◌<◌, ℕ, Some, None, rules, get_or, sym, ◌∙◌, subst, arith}
use Rattle.std.proofs.lemmas.List.{get_or_default}
use Rattle.text.specs.declared.line.Rule.TheVariants as rule
use Rattle.book.specs.Lines.{lines}
use Rattle.book.proofs.Standing.{order_at, notice_at}
use Rattle.rowtable.specs.Reasons.{SettledAt}
use Rattle.saturation.specs.declared.work.Work.{Work}
use Rattle.saturation.specs.AtHand.{SameSlices, WentOf}
use Rattle.saturation.specs.Work.{Brings, TriedRule}
use Rattle.saturation.proofs.Growth.{at_none, slices_then, went_so, went_on, full_on}
use Rattle.saturation.proofs.Brings.{brings_back, last_on, rule_none, rule_order, rule_notice, rule_later, rule_from}
use Rattle.saturation.proofs.work.Work.bring.Goals as goal
use Rattle.saturation.proofs.work.Work.bring.Goals.{in-Some-Order+in_ok-bring_order-in-Some-Order, in-Some-Notice+in_ok-bring_notice-in-Some-Notice, in-None}

pub bring_order-requires-clause-last : goal.bring_order-requires-clause-last
bring_order-requires-clause-last g c = last_on c.loop-rule.invariant.1.grown c.requires.last

pub bring_order-requires-clause-stands : goal.bring_order-requires-clause-stands
bring_order-requires-clause-stands g c =
    let b = c.args.setting.now.book.now in
    let k = c.loop-rule.rule-index in
    let long = b.numbered.0 in
    let read = get_or_default b.rules k None c.rule-item.result (omega arith) in
    let is : get_or b.rules k c.rule-item.result ≡ Some (rule.Order c.in-Some-Order.order) = search rules in
    (order_at b k c.in-Some-Order.order (omega arith) (read ∙ is)).0

pub returns-in_err-bring_order-in-Some-Order-clause-ends : goal.returns-in_err-bring_order-in-Some-Order-clause-ends
returns-in_err-bring_order-in-Some-Order-clause-ends g c =
    let w = c.loop-rule.invariant.1 in
    at_none _ _ c.from_residual.result c.from_residual.ensures (full_on w (brings_back c.args.last.now.row w.grown) c.in_err-bring_order-in-Some-Order.ensures.ends)

pub bring_notice-requires-clause-last : goal.bring_notice-requires-clause-last
bring_notice-requires-clause-last g c = last_on c.loop-rule.invariant.1.grown c.requires.last

pub bring_notice-requires-clause-stands : goal.bring_notice-requires-clause-stands
bring_notice-requires-clause-stands g c =
    let b = c.args.setting.now.book.now in
    let k = c.loop-rule.rule-index in
    let long = b.numbered.0 in
    let read = get_or_default b.rules k None c.rule-item.result (omega arith) in
    let is : get_or b.rules k c.rule-item.result ≡ Some (rule.Notice c.in-Some-Notice.notice) = search rules in
    (notice_at b k c.in-Some-Notice.notice (omega arith) (read ∙ is)).0

pub returns-in_err-bring_notice-in-Some-Notice-clause-ends : goal.returns-in_err-bring_notice-in-Some-Notice-clause-ends
returns-in_err-bring_notice-in-Some-Notice-clause-ends g c =
    let w = c.loop-rule.invariant.1 in
    at_none _ _ c.from_residual-in_err-bring_notice-in-Some-Notice.result c.from_residual-in_err-bring_notice-in-Some-Notice.ensures (full_on w (brings_back c.args.last.now.row w.grown) c.in_err-bring_notice-in-Some-Notice.ensures.ends)

pub loop-rule-preserved : goal.loop-rule-preserved
loop-rule-preserved g c =
    let m = g.G.Grade in
    let (slices, w) = c.loop-rule.invariant in
    let e = c.args.setting.now in
    let Fs = e.phases.now in
    let b = e.book.now in
    let x = c.args.last.now.row in
    let k = c.loop-rule.rule-index in
    let old = c.args.self.now in
    let mid = c.loop-rule.self in
    let f = get_or b.rules k None in
    let long = b.numbered.0 in
    let read = get_or_default b.rules k None c.rule-item.result (omega arith) in
    let At : ℕ → _ → Type 0 = SettledAt m old.rows.now old.found e.settled in
    let AtMid : ℕ → _ → Type 0 = SettledAt m mid.rows.now mid.found e.settled in
    let P : Work g.row.G.Denot → Type 0 = λ v. SameSlices old v × WentOf m e (Brings m Fs (lines b) old.rows.now e.settled old.found x) old v ((j : ℕ) → j < k + 1 → TriedRule m Fs (get_or b.rules j None) At x v.rows.now v.found) in
    elim c.match-rule.branch [
      | in-Some-Order+in_ok-bring_order-in-Some-Order y ↦
          let is : get_or b.rules k c.rule-item.result ≡ Some (rule.Order y.in-Some-Order.order) = search rules in
          let now = y.bring_order.new.self in
          subst P (sym y.self-is) (
            slices_then slices y.in_ok-bring_order-in-Some-Order.ensures.slices,
            went_on w (brings_back x w.grown)
                (λ grown a tried. below_more (λ j. TriedRule m Fs (get_or b.rules j None) At x now.rows.now now.found) k (λ j lt. rule_later m Fs x w.table.lawful grown (get_or b.rules j None) At (a j lt))
                (rule_from m Fs x {At = AtMid} w.grown.kept now.rows.now now.found f (rule_order m Fs x f AtMid now.rows.now now.found y.in-Some-Order.order (read ∙ is) tried)))
                y.in_ok-bring_order-in-Some-Order.ensures.ends,
          )
      | in-Some-Notice+in_ok-bring_notice-in-Some-Notice y ↦
          let is : get_or b.rules k c.rule-item.result ≡ Some (rule.Notice y.in-Some-Notice.notice) = search rules in
          let now = y.bring_notice.new.self in
          subst P (sym y.self-is) (
            slices_then slices y.in_ok-bring_notice-in-Some-Notice.ensures.slices,
            went_on w (brings_back x w.grown)
                (λ grown a tried. below_more (λ j. TriedRule m Fs (get_or b.rules j None) At x now.rows.now now.found) k (λ j lt. rule_later m Fs x w.table.lawful grown (get_or b.rules j None) At (a j lt))
                (rule_notice m Fs x f At now.rows.now now.found y.in-Some-Notice.notice (read ∙ is) tried))
                y.in_ok-bring_notice-in-Some-Notice.ensures.ends,
          )
      | in-None y ↦
          subst P (sym y.self-is) (slices, went_so (λ a. below_more (λ j. TriedRule m Fs (get_or b.rules j None) At x mid.rows.now mid.found) k a (rule_none m Fs x f At mid.rows.now mid.found (read ∙ y.in-None.is))) w)
    ]
