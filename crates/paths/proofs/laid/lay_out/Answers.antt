use Rattle.std.proofs.Common.{◌≡◌, ◌+◌, ◌≤◌, ◌++◌, Ok, Err, length, take, drop, reverse, ap, sym, ◌∙◌, subst, arith, rules}
use Rattle.std.proofs.lemmas.List.{length-take-le, length-append, length-drop}
use Rattle.std.proofs.lemmas.Result.{err_from_is_err_and}
use Rattle.std.proofs.Math.Seq.{take-append_seam}
use Rattle.book.specs.Lines.{lines}
use Rattle.phases.specs.Positions.{asked}
use Rattle.rowtable.specs.Paths.{RowPath}
use Rattle.paths.specs.Outcomes.{RowsLaidTold}
use Rattle.paths.proofs.Asking.{rows_laid, of_grade, refused}
use Rattle.paths.proofs.Opened.{laid_told, laid_runs, laid_stands, laid_saturated, laid_unfolds}
use Rattle.paths.proofs.laid.lay_out.Goals as goal

pub returns-in_err-table-clause-runs : goal.returns-in_err-table-clause-runs
returns-in_err-table-clause-runs g c =
    λ opened saturated. laid_runs g.G.Grade (lines c.args.book.now) c.args.phases.now c.args.rows.now c.args.count (asked c.args.position.now) (length c.args.scratch.now) c.lawful.ensures opened saturated c.args.list.now _ (search rules)

pub returns-in_err-table-clause-saturated : goal.returns-in_err-table-clause-saturated
returns-in_err-table-clause-saturated g c =
    let p = c.args.phases.now in
    let x = asked c.args.position.now in
    let ls = lines c.args.book.now in
    let places = length c.args.scratch.now in
    let list = c.args.list.now in
    let r = c.from_residual-in_err-table.result in
    let (e, is, same) = err_from_is_err_and r c.from_residual-in_err-table.ensures.1 in
    let room : length c.args.position.now.lane.now + c.args.count ≤ length list = let enough = c.if-list-lane.false in let more = c.if-list-lane-2.false in omega arith in
    let said : RowsLaidTold g.G.Grade ls p c.args.rows.now c.args.count x places list r =
    subst (RowsLaidTold g.G.Grade ls p c.args.rows.now c.args.count x places list) (sym (is ∙ ap Err (same ∙ c.in_err-table.ensures.0))) (room, (c.in_ok-start.ensures.0, c.in_err-table.ensures.1)) in
    λ opened table. laid_saturated g.G.Grade ls p c.args.rows.now c.args.count x places c.lawful.ensures opened table list r said

pub returns-in_err-grade-clause-rows : goal.returns-in_err-grade-clause-rows
returns-in_err-grade-clause-rows g c =
    let m = g.G.Grade in
    let p = c.args.phases.now in
    let x = asked c.args.position.now in
    let ls = lines c.args.book.now in
    let rows = c.args.rows.now in
    let n = c.args.count in
    let places = length c.args.scratch.now in
    let list = c.args.list.now in
    let r = c.from_residual-in_err-grade.result in
    let (e, is, same) = err_from_is_err_and r c.from_residual-in_err-grade.ensures.1 in
    let (ready, (exists, starts)) = c.in_ok-start.ensures in
    let (book, phases, in_use, sound) = c.in_ok-table.ensures in
    let room : length c.args.position.now.lane.now + n ≤ length list = let enough = c.if-list-lane.false in let more = c.if-list-lane-2.false in omega arith in
    let value = c.in_err-grade.ensures.value in
    subst (RowsLaidTold m ls p rows n x places list) (sym (is ∙ ap Err same ∙ value))
    (rows_laid m ls p rows n x places ready sound c.in_ok-start.start starts (ap lines book) in_use list room c.best_from.result c.best_from.ensures.told (λ v some. refused value some))

pub returns-in_err-grade-clause-told : goal.returns-in_err-grade-clause-told
returns-in_err-grade-clause-told g c =
    laid_told g.G.Grade (lines c.args.book.now) c.args.phases.now c.args.rows.now c.args.count (asked c.args.position.now) (length c.args.scratch.now) c.args.list.now _ (returns-in_err-grade-clause-rows g c)

pub returns-in_err-grade-clause-runs : goal.returns-in_err-grade-clause-runs
returns-in_err-grade-clause-runs g c =
    λ opened saturated. laid_runs g.G.Grade (lines c.args.book.now) c.args.phases.now c.args.rows.now c.args.count (asked c.args.position.now) (length c.args.scratch.now) c.lawful.ensures opened saturated c.args.list.now _ (returns-in_err-grade-clause-told g c)

pub returns-in_err-grade-clause-saturated : goal.returns-in_err-grade-clause-saturated
returns-in_err-grade-clause-saturated g c =
    λ opened table. laid_saturated g.G.Grade (lines c.args.book.now) c.args.phases.now c.args.rows.now c.args.count (asked c.args.position.now) (length c.args.scratch.now) c.lawful.ensures opened table c.args.list.now _ (returns-in_err-grade-clause-rows g c)

pub returns-clause-rows : goal.returns-clause-rows
returns-clause-rows g c =
    let m = g.G.Grade in
    let p = c.args.phases.now in
    let x = asked c.args.position.now in
    let ls = lines c.args.book.now in
    let rows = c.args.rows.now in
    let n = c.args.count in
    let places = length c.args.scratch.now in
    let s = c.in_ok-start.start in
    let lane = c.args.position.now.lane.now in
    let old = c.args.list.now in
    let laid = c.lay.new.list in
    let list = laid ++ drop (length lane) old in
    let (ready, (exists, starts)) = c.in_ok-start.ensures in
    let (book, phases, in_use, sound) = c.in_ok-table.ensures in
    let enough = c.if-list-lane.false in
    let long : length laid ≡ length lane = c.lay.auto.list ∙ length-take-le (length lane) old enough in
    let room : length lane + n ≤ length list = let more = c.if-list-lane-2.false in let e = length-append laid (drop (length lane) old) in let f = length-drop (length lane) old in omega arith in
    let front : laid ≡ take (length lane) list = sym (ap (λ k. take k list) (sym long) ∙ take-append_seam laid (drop (length lane) old)) in
    subst (RowsLaidTold m ls p rows n x places list) (sym c.in_ok-grade.ensures.value)
    (rows_laid m ls p rows n x places ready sound s starts (ap lines book) in_use list room c.best_from.result c.best_from.ensures.told
    (λ v some. subst (λ l. RowPath m (lines c.in_ok-table.table.book.now) c.in_ok-table.table.rows.now (length c.in_ok-table.table.rows.now) s lane (reverse l) v) front (of_grade _ (RowPath m (lines c.in_ok-table.table.book.now) c.in_ok-table.table.rows.now (length c.in_ok-table.table.rows.now) s lane (reverse laid)) _ c.lay.ensures c.best_from.result c.best_from.ensures.is v some)))

pub returns-clause-told : goal.returns-clause-told
returns-clause-told g c =
    laid_told g.G.Grade (lines c.args.book.now) c.args.phases.now c.args.rows.now c.args.count (asked c.args.position.now) (length c.args.scratch.now) (c.lay.new.list ++ drop (length c.args.position.now.lane.now) c.args.list.now) (Ok c.in_ok-grade.grade) (returns-clause-rows g c)

pub returns-clause-runs : goal.returns-clause-runs
returns-clause-runs g c =
    λ opened saturated. laid_runs g.G.Grade (lines c.args.book.now) c.args.phases.now c.args.rows.now c.args.count (asked c.args.position.now) (length c.args.scratch.now) c.lawful.ensures opened saturated (c.lay.new.list ++ drop (length c.args.position.now.lane.now) c.args.list.now) (Ok c.in_ok-grade.grade) (returns-clause-told g c)

pub returns-clause-stands : goal.returns-clause-stands
returns-clause-stands g c =
    laid_stands g.G.Grade (lines c.args.book.now) c.args.phases.now c.args.rows.now c.args.count (asked c.args.position.now) (length c.args.scratch.now) c.lawful.ensures (c.lay.new.list ++ drop (length c.args.position.now.lane.now) c.args.list.now) (Ok c.in_ok-grade.grade) (returns-clause-told g c)

pub returns-clause-saturated : goal.returns-clause-saturated
returns-clause-saturated g c =
    λ opened table. laid_saturated g.G.Grade (lines c.args.book.now) c.args.phases.now c.args.rows.now c.args.count (asked c.args.position.now) (length c.args.scratch.now) c.lawful.ensures opened table (c.lay.new.list ++ drop (length c.args.position.now.lane.now) c.args.list.now) (Ok c.in_ok-grade.grade) (returns-clause-rows g c)

pub returns-clause-unfolds : goal.returns-clause-unfolds
returns-clause-unfolds g c =
    λ opened table. laid_unfolds g.G.Grade (lines c.args.book.now) c.args.phases.now c.args.rows.now c.args.count (asked c.args.position.now) (length c.args.scratch.now) c.lawful.ensures opened table (c.lay.new.list ++ drop (length c.args.position.now.lane.now) c.args.list.now) (Ok c.in_ok-grade.grade) (returns-clause-rows g c)
