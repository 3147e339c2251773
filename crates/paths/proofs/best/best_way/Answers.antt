use Rattle.std.proofs.Common.{Err, length, ap, sym, ◌∙◌, subst, rules}
use Rattle.std.proofs.lemmas.Result.{err_from_is_err_and}
use Rattle.book.specs.Lines.{lines}
use Rattle.phases.specs.Positions.{asked}
use Rattle.paths.specs.Outcomes.{BestRowsTold}
use Rattle.paths.proofs.Asking.{rows_told}
use Rattle.paths.proofs.Opened.{best_told, best_runs, best_saturated}
use Rattle.paths.proofs.best.best_way.Goals as goal

pub returns-clause-rows : goal.returns-clause-rows
returns-clause-rows g c =
    let p = c.args.phases.now in
    let x = asked c.args.position.now in
    let ls = lines c.args.book.now in
    let places = length c.args.scratch.now in
    let (ready, (exists, starts)) = c.in_ok-start.ensures in
    let (book, phases, rows, sound) = c.in_ok-table.ensures in
    subst (BestRowsTold g.G.Grade ls p c.args.rows.now c.args.count x places) (sym c.ok_or.ensures.value)
    (rows_told g.G.Grade ls p c.args.rows.now c.args.count x places ready sound c.in_ok-start.start starts (ap lines book) rows c.best_from.result c.best_from.ensures.told)

pub returns-clause-told : goal.returns-clause-told
returns-clause-told g c =
    best_told g.G.Grade (lines c.args.book.now) c.args.phases.now c.args.rows.now c.args.count (asked c.args.position.now) (length c.args.scratch.now) c.ok_or.result (returns-clause-rows g c)

pub returns-clause-runs : goal.returns-clause-runs
returns-clause-runs g c =
    λ opened saturated. best_runs g.G.Grade (lines c.args.book.now) c.args.phases.now c.args.rows.now c.args.count (asked c.args.position.now) (length c.args.scratch.now) c.lawful.ensures opened saturated c.ok_or.result (returns-clause-told g c)

pub returns-clause-saturated : goal.returns-clause-saturated
returns-clause-saturated g c =
    λ opened table. best_saturated g.G.Grade (lines c.args.book.now) c.args.phases.now c.args.rows.now c.args.count (asked c.args.position.now) (length c.args.scratch.now) c.lawful.ensures opened table c.ok_or.result (returns-clause-rows g c)

pub returns-in_err-table-clause-runs : goal.returns-in_err-table-clause-runs
returns-in_err-table-clause-runs g c =
    λ opened saturated. best_runs g.G.Grade (lines c.args.book.now) c.args.phases.now c.args.rows.now c.args.count (asked c.args.position.now) (length c.args.scratch.now) c.lawful.ensures opened saturated _ (search rules)

pub returns-in_err-table-clause-saturated : goal.returns-in_err-table-clause-saturated
returns-in_err-table-clause-saturated g c =
    let p = c.args.phases.now in
    let x = asked c.args.position.now in
    let ls = lines c.args.book.now in
    let places = length c.args.scratch.now in
    let r = c.from_residual-in_err-table.result in
    let (e, is, same) = err_from_is_err_and r c.from_residual-in_err-table.ensures.1 in
    let said : BestRowsTold g.G.Grade ls p c.args.rows.now c.args.count x places r =
    subst (BestRowsTold g.G.Grade ls p c.args.rows.now c.args.count x places) (sym (is ∙ ap Err (same ∙ c.in_err-table.ensures.0))) (c.in_ok-start.ensures.0, c.in_err-table.ensures.1) in
    λ opened table. best_saturated g.G.Grade ls p c.args.rows.now c.args.count x places c.lawful.ensures opened table r said
