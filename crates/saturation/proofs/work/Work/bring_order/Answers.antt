use Rattle.std.proofs.Common.{ℕ, ◌<◌, sym, subst, subst₂}
use Rattle.rowtable.specs.Reasons.{SettledAt}
use Rattle.saturation.specs.Work.{TriedOne, TriedPair, TriedPairAt, TriedOrder}
use Rattle.saturation.proofs.Growth.{ends_so}
use Rattle.saturation.proofs.work.Work.bring_order.Goals as goal

pub returns-in-One-clause-ends : goal.returns-in-One-clause-ends
returns-in-One-clause-ends g c =
    let m = g.G.Grade in
    let Fs = c.args.setting.now.phases.now in
    let old = c.args.self.now in
    let o = c.args.order.now in
    let x = c.args.last.now.row in
    let At = SettledAt m old.rows.now old.found c.args.setting.now.settled in
    let now = c.attempt_one.new.self in
    ends_so _ _ _ _ _ _ _ _ now.rows.now now.found _ (TriedOne m Fs o c.get.result x) (TriedOrder m Fs o o.wagons At x) c.attempt_one.result
    (λ tried. subst (λ w. TriedOrder m Fs o w At x now.rows.now now.found) (sym c.in-One.is) (subst (λ k. TriedOne m Fs o k x now.rows.now now.found) c.get.ensures tried))
    c.attempt_one.ensures.ends

pub returns-in-Two-clause-ends : goal.returns-in-Two-clause-ends
returns-in-Two-clause-ends g c =
    let m = g.G.Grade in
    let Fs = c.args.setting.now.phases.now in
    let s = c.args.setting.now.settled in
    let old = c.args.self.now in
    let o = c.args.order.now in
    let x = c.args.last.now.row in
    let At = SettledAt m old.rows.now old.found s in
    let now = c.bring_pairs.new.self in
    let k = c.get-in-Two.result in
    let j = c.get-in-Two-2.result in
    ends_so _ _ _ _ _ _ _ _ now.rows.now now.found _ (λ later l. (b : ℕ) → b < old.found → TriedPairAt m Fs o k j x old.rows.now old.found s b later l) (TriedOrder m Fs o o.wagons At x) c.bring_pairs.result
    (λ tried. subst (λ w. TriedOrder m Fs o w At x now.rows.now now.found) (sym c.in-Two.is) (λ p y at. subst₂ (λ a b. TriedPair m Fs o a b x y now.rows.now now.found) c.get-in-Two.ensures c.get-in-Two-2.ensures (tried p at.within y at)))
    c.bring_pairs.ensures.ends
