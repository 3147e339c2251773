use mathlib.Core.Bool.{false≢true}
use Rattle.std.proofs.Common.{get_or, sym, ap, ◌∙◌, subst, inr, arith}
use Rattle.std.proofs.lemmas.List.{get_or_default}
use Rattle.rowtable.specs.Tables.{blank_row}
use Rattle.saturation.specs.Work.{Goes, TriedTwo, TriedPair, TriedPairAt}
use Rattle.saturation.proofs.Growth.{went_none, went_on, full_on, ends_on, covers_later, at_none}
use Rattle.saturation.proofs.Brings.{given_on, last_on}
use Rattle.saturation.proofs.work.Work.bring_pair.Goals as goal

pub returns-then-other-setting-clause-ends : goal.returns-then-other-setting-clause-ends
returns-then-other-setting-clause-ends g c =
    let t = c.requires.table in
    let r = t.room in
    let w = c.requires.within in
    let e = get_or_default c.args.self.now.rows.now c.args.place c.index-self-place.result (blank_row g.G.Grade.best) (omega arith) in
    went_none t (λ y h. let a = ap (λ r. r.rank) (e ∙ h.here) in let b = h.ranked in absurd (omega arith))

-- neither goes on from the other
pub returns-then-not-goes-2-clause-ends : goal.returns-then-not-goes-2-clause-ends
returns-then-not-goes-2-clause-ends g c =
    let t = c.requires.table in
    let r = t.room in
    let w = c.requires.within in
    let x = c.args.last.now.row in
    let l = c.args.order.now.second in
    let e = get_or_default c.args.self.now.rows.now c.args.place c.index-self-place.result (blank_row g.G.Grade.best) (omega arith) in
    went_none t (λ y h. (
      (λ i st go. absurd (false≢true (sym c.if-not-goes.true ∙ c.goes.ensures.1 (subst (Goes l x) (sym (e ∙ h.here)) go)))),
      (λ i st go. absurd (false≢true (sym c.if-not-goes-2.true ∙ c.goes-then-not-goes.ensures.1 (subst (λ z. Goes l z x) (sym (e ∙ h.here)) go)))),
    ))

pub returns-in_err-attempt_two-clause-ends : goal.returns-in_err-attempt_two-clause-ends
returns-in_err-attempt_two-clause-ends g c =
    at_none _ _ c.from_residual.result c.from_residual.ensures (full_on (went_none c.requires.table {C = Unit {0}} tt) (given_on (λ p r h. h) (λ r f. f.0)) c.in_err-attempt_two.ensures.ends)

pub attempt_two-requires-2 : goal.attempt_two-requires-2
attempt_two-requires-2 g c =
    let t = c.requires.table in
    let r = t.room in
    let w = c.requires.within in
    let rows = c.args.self.now.rows.now in
    let went = c.in_ok-attempt_two.ensures.ends in
    let e = get_or_default rows c.args.place c.index-self-place.result (blank_row g.G.Grade.best) (omega arith) in
    record {
      table = went.table;
      settled = (went.grown.kept c.args.place (get_or rows c.args.place c.index-self-place.result) (record { within = w; here = sym e; ranked = omega arith }), went.grown.kept c.args.last.now.place c.args.last.now.row c.requires.last.here);
      last = inr (last_on went.grown c.requires.last);
      stands = c.requires.stands;
    }

pub returns-clause-ends : goal.returns-clause-ends
returns-clause-ends g c =
    let m = g.G.Grade in
    let s = c.args.setting.now.settled in
    let Fs = c.args.setting.now.phases.now in
    let o = c.args.order.now.line in
    let x = c.args.last.now.row in
    let t = c.requires.table in
    let r = t.room in
    let w = c.requires.within in
    let rows = c.args.self.now.rows.now in
    let y = get_or rows c.args.place c.index-self-place.result in
    let now = c.attempt_two-2.new.self in
    let k = c.args.order.now.first in
    let l = c.args.order.now.second in
    let e = get_or_default rows c.args.place c.index-self-place.result (blank_row m.best) (omega arith) in
    let went = c.in_ok-attempt_two.ensures.ends in
    let went_x = went_on (went_none t {C = Unit {0}} tt) (given_on (λ p r h. h) (λ r f. f.0)) (λ grown a b. b) went in
    ends_on went_x (given_on went.grown.back (λ r f. f.1)) now.rows.now now.found now.waiting.now (TriedTwo m Fs o k l y x) (TriedPairAt m Fs o k l x rows c.args.self.now.found s c.args.place) c.attempt_two-2.result
    (λ grown a b z h. subst (λ z. TriedPair m Fs o k l x z now.rows.now now.found) (e ∙ h.here) ((λ i st go. covers_later _ _ t.lawful grown (a i st go)), b))
    c.attempt_two-2.ensures.ends
