use Rattle.std.proofs.Common.{below_more, ◌∙◌, refl, arith}
use Rattle.saturation.specs.Work.{TriedPairAt}
use Rattle.saturation.proofs.Growth.{went_none, went_so, went_on, full_on, covers_later, at_none, slices_then}
use Rattle.saturation.proofs.Brings.{brings_back, last_on}
use Rattle.saturation.proofs.work.Work.bring_pairs.Goals as goal

-- such a row is neither of two that the order rests on
pub returns-then-wagon-order-2-clause-ends : goal.returns-then-wagon-order-2-clause-ends
returns-then-wagon-order-2-clause-ends g c =
    let same = c.from-wagon.ensures in
    went_none c.requires.table (λ b h y at. ((λ i st go. absurd (c.if-wagon-order.true (same ∙ st.by))), (λ i st go. absurd (c.if-wagon-order-2.true (same ∙ go.by)))))

pub bring_pair-requires-clause-last : goal.bring_pair-requires-clause-last
bring_pair-requires-clause-last g c = last_on c.loop-place.invariant.1.grown c.requires.last

pub returns-in_err-bring_pair-clause-ends : goal.returns-in_err-bring_pair-clause-ends
returns-in_err-bring_pair-clause-ends g c =
    let w = c.loop-place.invariant.1 in
    at_none _ _ c.from_residual.result c.from_residual.ensures (full_on w (brings_back c.args.last.now.row w.grown) c.in_err-bring_pair.ensures.ends)

pub loop-place-preserved : goal.loop-place-preserved
loop-place-preserved g c =
    let m = g.G.Grade in
    let (slices, w) = c.loop-place.invariant in
    let old = c.args.self.now in
    let p = c.args.order.now in
    let now = c.bring_pair.new.self in (
      slices_then slices c.in_ok-bring_pair.ensures.slices,
      went_on w (brings_back c.args.last.now.row w.grown)
          (λ grown a b. below_more (λ j. TriedPairAt m c.args.setting.now.phases.now p.line p.first p.second c.args.last.now.row old.rows.now old.found c.args.setting.now.settled j now.rows.now now.found) c.loop-place.place
          (λ j lt y h. ((λ i st go. covers_later _ _ w.table.lawful grown ((a j lt y h).0 i st go)), (λ i st go. covers_later _ _ w.table.lawful grown ((a j lt y h).1 i st go))))
          (λ y h. b y (w.grown.kept c.loop-place.place y h)))
          c.in_ok-bring_pair.ensures.ends,
    )

pub loop-place-init : goal.loop-place-init
loop-place-init g c = (record { rows = refl; waiting = refl }, went_none c.requires.table (λ b h. absurd (omega arith)))

pub returns-clause-ends : goal.returns-clause-ends
returns-clause-ends g c = went_so (λ done b h. done b (omega arith)) c.loop-place.invariant.1
