use Rattle.std.proofs.Common.{below_more, ◌+◌, ◌<◌, ℕ, sym, ◌∙◌, subst}
use mathlib.Core.Bool.{false≢true}
use Rattle.book.specs.Lines.{lines}
use Rattle.saturation.specs.AtHand.{SameSlices, WentOf}
use Rattle.saturation.specs.Work.{Brings, TriedNotice}
use Rattle.saturation.proofs.Growth.{at_none, slices_then, went_so}
use Rattle.saturation.proofs.Brings.{offered_on, offered_full, brings_notice, brings_back, last_on}
use Rattle.saturation.proofs.work.Work.bring_notice.Goals as goal
use Rattle.saturation.proofs.work.Work.bring_notice.Goals.{then-noticed+in_ok-offer, else-noticed}

pub returns-in_err-offer-clause-ends : goal.returns-in_err-offer-clause-ends
returns-in_err-offer-clause-ends g c =
    let w = c.loop-place.invariant.1 in
    let x = c.args.last.now in
    let new = brings_back x.row w.grown _ (brings_notice w.table c.args.notice.now c.requires.stands c.loop-place.place x.place x.row (c.noticed.ensures.0 c.if-noticed.true) (last_on w.grown c.requires.last).here) in
    at_none _ _ c.from_residual.result c.from_residual.ensures (offered_full w c.notice_row.ensures new c.in_err-offer.ensures.ends)

pub loop-place-preserved : goal.loop-place-preserved
loop-place-preserved g c =
    let m = g.G.Grade in
    let e = c.args.setting.now in
    let (slices, w) = c.loop-place.invariant in
    let Fs = c.args.setting.now.phases.now in
    let old = c.args.self.now in
    let d = c.args.notice.now in
    let x = c.args.last.now in
    let i = c.loop-place.place in
    elim c.if-noticed.branch [
      | then-noticed+in_ok-offer y ↦
          let new = brings_back x.row w.grown _ (brings_notice w.table d c.requires.stands i x.place x.row (c.noticed.ensures.0 y.if-noticed.true) (last_on w.grown c.requires.last).here) in
          let now = y.offer.new.self in
          subst (λ v. SameSlices old v × WentOf m e (Brings m Fs (lines e.book.now) old.rows.now e.settled old.found x.row) old v ((j : ℕ) → j < i + 1 → TriedNotice m Fs d x.row j v.rows.now v.found)) (sym y.self-is) (
            slices_then slices y.in_ok-offer.ensures.slices,
            offered_on w y.notice_row.ensures new
                (λ later a covers. below_more (λ j. TriedNotice m Fs d x.row j now.rows.now now.found) i (λ j lt h. later _ _ (a j lt h)) (λ h. covers))
                y.in_ok-offer.ensures.ends,
          )
      | else-noticed y ↦
          let now = c.loop-place.self in
          subst (λ v. SameSlices old v × WentOf m e (Brings m Fs (lines e.book.now) old.rows.now e.settled old.found x.row) old v ((j : ℕ) → j < i + 1 → TriedNotice m Fs d x.row j v.rows.now v.found)) (sym y.self-is)
          (slices, went_so (λ a. below_more (λ j. TriedNotice m Fs d x.row j now.rows.now now.found) i a (λ h. absurd (false≢true (sym y.if-noticed.false ∙ c.noticed.ensures.1 h)))) w)
    ]
