use Rattle.std.proofs.Common.{refl, subst}
use Rattle.std.proofs.lemmas.Bool.{eqb-true}
use Rattle.model.specs.Phases.{Opened}
use Rattle.model.specs.Moves.{at}
use Rattle.book.specs.Lines.{lines}
use Rattle.phases.proofs.Holding.{watched_taken, taken_watched, used_holds}
use Rattle.phases.proofs.watch.held.Goals as goal

pub returns-clause-opened : goal.returns-clause-opened
returns-clause-opened c by =
    let ls = lines c.args.book.now in
    let mode = c.args.position.now.mode in
    let F = c.args.position.now.phase in
    let lane = c.args.position.now.lane.now in
    let fit = c.if-not-fits.ensures.0 refl in
    let found = c.if-not-contains.ensures.cases in
    let there = used_holds c.args.phases.now c.in_use.result.now F c.in_use.ensures found.0 found.1 (eqb-true _ F (found.2 0)) in
    let yet = subst (Opened ls) there.2 (by.filled.different.each there.0 there.1) in
    (fit, (yet, (λ e. taken_watched ls mode F lane yet (c.takes.ensures.0 e), λ h. c.takes.ensures.1 (watched_taken ls (at mode F lane) h))))
