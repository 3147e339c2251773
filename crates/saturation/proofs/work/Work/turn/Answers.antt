use Rattle.std.proofs.Common.{◌+◌, ◌<◌, ℕ, get_or, None, sym, ◌∙◌, subst}
use Rattle.book.specs.Lines.{lines}
use Rattle.rowtable.specs.Reasons.{SettledAt}
use Rattle.saturation.specs.Work.{Brings, Ends, Last, TriedRule}
use Rattle.saturation.proofs.Turns.{last_now, turn_ends}
use Rattle.saturation.proofs.work.Work.turn.Goals as goal

pub bring-requires-clause-last : goal.bring-requires-clause-last
bring-requires-clause-last g c =
    let e = c.args.setting.now in
    let mid = c.settle.new.self in
    let x = c.in_ok-last.last in
    let (st, is) = c.in_ok-last.ensures.settled in
    subst (λ n. Last g.G.Grade e.phases.now (lines e.book.now) mid.rows.now (e.settled + 1) n x.place x.row) (sym c.in_ok-last.ensures.found) (last_now e.book.now c.requires.worked st x.row (is ∙ st.here))

pub returns-clause-turned : goal.returns-clause-turned
returns-clause-turned g c =
    let m = g.G.Grade in
    let e = c.args.setting.now in
    let Fs = c.args.setting.now.phases.now in
    let ls = lines e.book.now in
    let mid = c.settle.new.self in
    let now = c.bring.new.self in
    let x = c.in_ok-last.last in
    let (st, is) = c.in_ok-last.ensures.settled in
    turn_ends e.book.now c.requires.worked st x.row (is ∙ st.here) now.rows.now now.found now.waiting.now c.bring.result
    (subst (λ n. Ends m Fs ls (e.settled + 1) (Brings m Fs ls mid.rows.now (e.settled + 1) n x.row) mid.rows.now n mid.waiting.now now.rows.now now.found now.waiting.now
    (λ rows l. (k : ℕ) → k < 64 → TriedRule m Fs (get_or e.book.now.rules k None) (SettledAt m mid.rows.now n (e.settled + 1)) x.row rows l) c.bring.result)
    c.in_ok-last.ensures.found c.bring.ensures.ends)
