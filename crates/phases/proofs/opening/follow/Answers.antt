use Rattle.std.proofs.Common.{get_or, sym, subst, arith}
use Rattle.std.proofs.lemmas.List.{take_all}
use Rattle.std.proofs.lemmas.List.Elements.{Contains-get_or}
use Rattle.std.proofs.lemmas.Result.{err_from_is_err_and}
use Rattle.book.specs.Lines.{lines}
use Rattle.phases.specs.Growth.{Went, RuleFollowed}
use Rattle.phases.proofs.Listing.{went_none, lacking_stuck, none_followed, next_opened, went_next, RulesFollowed, rules_more, followed_all}
use Rattle.phases.proofs.opening.follow.Goals as goal
use Rattle.phases.proofs.opening.follow.Goals.{in-Some+in_ok-add, in_default}

pub returns-in_err-add : goal.returns-in_err-add
returns-in_err-add c =
    let b = c.args.book.now in
    let long = b.numbered.0 in
    let lt = c.loop-rule-test.true in
    let d = c.rule-item.result in
    let r = get_or b.rules c.loop-rule.rule-index d in
    let yet = next_opened b c.args.phase c.in-Some.next r (Contains-get_or b.rules c.loop-rule.rule-index d (omega arith)) c.requires.opened c.in-Some.ensures in
    let p = err_from_is_err_and c.from_residual.result c.from_residual.ensures.1 in
    rw (p.1, p.2) (lacking_stuck (lines b) c.loop-rule.phases c.in-Some.next _ c.loop-rule.invariant.found yet c.in_err-add.ensures)

pub loop-rule-preserved : goal.loop-rule-preserved
loop-rule-preserved c =
    let b = c.args.book.now in
    let long = b.numbered.0 in
    let lt = c.loop-rule-test.true in
    let i = c.loop-rule.rule-index in
    let d = c.rule-item.result in
    let r = get_or b.rules i d in
    let F = c.args.phase in
    let p = c.loop-rule.phases in
    let q = c.match-next_phase.phases in
    let found = c.loop-rule.invariant.found in
    rules_more b c.args.phases.now p q F i d (omega arith) c.loop-rule.invariant
    (elim c.match-next_phase.branch [
      | in-Some+in_ok-add w ↦
          let G = w.in-Some.next in
          let yet = next_opened b F G r (Contains-get_or b.rules i d (omega arith)) c.requires.opened w.in-Some.ensures in
          subst (λ s. Went (lines b) p s (RuleFollowed s F r)) (sym w.phases-is) (went_next b p w.add.new.self F G r found yet w.in-Some.ensures w.in_ok-add.ensures)
      | in_default w ↦ subst (λ s. Went (lines b) p s (RuleFollowed s F r)) (sym w.phases-is) (went_none (lines b) p (RuleFollowed p F r) found (none_followed p F r w.in_default.ensures))
    ])

pub returns : goal.returns
returns c =
    let b = c.args.book.now in
    let long = b.numbered.0 in
    let ge = c.loop-rule-test.false in
    let inv = c.loop-rule.invariant in
    let q = c.loop-rule.phases in
    record {
      found = inv.found;
      grown = inv.grown;
      reached = followed_all b q c.args.phase (subst (RulesFollowed q c.args.phase) (take_all c.loop-rule.rule-index b.rules (omega arith)) inv.reached);
    }
