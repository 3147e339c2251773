use Rattle.std.proofs.Common.{◌≡◌, ◌<◌, subst, arith}
use Rattle.std.proofs.lemmas.Grind.{common_steps}
use Rattle.book.specs.Lines.{lines}
use Rattle.phases.specs.Table.{phase_at}
use Rattle.phases.specs.Growth.{Went, Followed}
use Rattle.phases.proofs.Listing.{went_then, closed_more}
use Rattle.phases.proofs.opening.close.Goals as goal

pub loop-phase-preserved : goal.loop-phase-preserved
loop-phase-preserved c =
    let b = c.args.book.now in
    let done = c.loop-phase.done in
    let p = c.loop-phase.phases in
    let q = c.follow.new.phases in
    let lt : done < p.count = grind (arith, common_steps) in
    let here : c.in-Some.phase ≡ phase_at p done = grind (arith, common_steps) in
    let went = subst (λ F. Went (lines b) p q (Followed (lines b) q F)) here c.in_ok-follow.ensures in
    let le = went.grown.longer in
    (went_then (lines b) c.args.phases.now p q _ (Followed (lines b) q (phase_at p done)) _ c.loop-phase.invariant.0 went (λ grown closed now. closed_more b p q done lt grown closed now), omega arith)
