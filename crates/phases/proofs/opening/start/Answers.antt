use Rattle.std.proofs.Common.{ℕ, get_or, subst, ⊎_elim, ◌∙◌}
use Rattle.std.specs.List.{Contains}
use Rattle.std.proofs.lemmas.List.{take_all}
use Rattle.std.proofs.lemmas.List.Elements.{Contains-get_or}
use Rattle.std.proofs.lemmas.Result.{err_from_is_err_and}
use Rattle.book.specs.Lines.{lines}
use Rattle.phases.specs.Table.{Holds}
use Rattle.phases.proofs.Rows.{more_cases}
use Rattle.phases.proofs.Listing.{holds_more, went_then, added_went, lacking_stuck, open_opened, started_all}
use Rattle.phases.proofs.opening.start.Goals as goal

pub returns-in_err-add : goal.returns-in_err-add
returns-in_err-add c =
    let b = c.args.book.now in
    let opens = c.opens_in_use-phase-items.result.now in
    let F = get_or opens c.loop-phase.phase-index 0 in
    let yet = open_opened b F (subst (λ xs. Contains xs F) c.opens_in_use-phase-items.ensures (Contains-get_or opens c.loop-phase.phase-index 0 c.loop-phase-test.true)) in
    let p = err_from_is_err_and c.from_residual.result c.from_residual.ensures.1 in
    rw (p.1, p.2) (lacking_stuck (lines b) c.loop-phase.phases F _ c.loop-phase.invariant.found yet c.in_err-add.ensures)

pub loop-phase-preserved : goal.loop-phase-preserved
loop-phase-preserved c =
    let b = c.args.book.now in
    let opens = c.opens_in_use-phase-items.result.now in
    let i = c.loop-phase.phase-index in
    let F = get_or opens i 0 in
    let yet = open_opened b F (subst (λ xs. Contains xs F) c.opens_in_use-phase-items.ensures (Contains-get_or opens i 0 c.loop-phase-test.true)) in
    let p = c.loop-phase.phases in
    let q = c.add.new.self in
    went_then (lines b) c.args.phases.now p q _ (Holds q F) _ c.loop-phase.invariant (added_went (lines b) p q F c.loop-phase.invariant.found yet c.in_ok-add.ensures)
    (λ grown each here G in'. ⊎_elim (λ front. holds_more p q G grown (each G front)) (λ e. subst (Holds q) e here) (more_cases opens i 0 c.loop-phase-test.true G in'))

pub returns : goal.returns
returns c =
    let b = c.args.book.now in
    let q = c.loop-phase.phases in
    let inv = c.loop-phase.invariant in
    let all = take_all c.loop-phase.phase-index c.opens_in_use-phase-items.result.now c.loop-phase-test.false ∙ c.opens_in_use-phase-items.ensures in
    record { found = inv.found; grown = inv.grown; reached = started_all b q (subst (λ xs. (F : ℕ) → Contains xs F → Holds q F) all inv.reached) }
