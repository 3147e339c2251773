use Rattle.std.proofs.Common.{◌+◌, drop, sym, ap, ◌∙◌}
use Rattle.std.proofs.lemmas.List.{at_drop_more, at_drop_all}
use Rattle.grade.specs.Runs.{joined_on}
use Rattle.grade_tests.proofs.run_grade.Goals as goal

pub loop-toll-init : goal.loop-toll-init
loop-toll-init g c = ap (λ a. joined_on g.G.Grade a c.args.tolls.now) c.best_grade-all.ensures

pub loop-toll-preserved : goal.loop-toll-preserved
loop-toll-preserved g c =
    let m = g.G.Grade in
    let l = c.loop-toll in
    let ts = c.args.tolls.now in
    let t = c.toll-item in
    let all = c.joined-all.ensures ∙ ap (m.join l.all) (c.of_toll.ensures ∙ ap m.priced t.is) in
    ap (λ a. joined_on m a (drop (l.toll-index + 1) ts)) all
    ∙ sym (at_drop_more (joined_on m l.all) ts l.toll-index t.result c.loop-toll-test.true)
    ∙ l.invariant

pub returns : goal.returns
returns g c =
    let l = c.loop-toll in
    sym (at_drop_all (joined_on g.G.Grade l.all) c.args.tolls.now l.toll-index c.loop-toll-test.false) ∙ l.invariant
