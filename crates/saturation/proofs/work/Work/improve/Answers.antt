use Rattle.std.proofs.Common.{◌≡◌, ◌-◌, ◌<◌, ◌≤◌, true, false, T, length, get_or, sym, refl, subst, ⊎_elim, arith, rules}
use Rattle.std.proofs.lemmas.List.{get_or_default}
use Rattle.grade.specs.Waits.{sooner}
use Rattle.grade.specs.declared.waiting.Waiting.{Waiting}
use Rattle.queue.specs.Queues.{Holds, Replaced}
use Rattle.rowtable.specs.Tables.{blank_row, row_at}
use Rattle.saturation.proofs.Growth.{worse_as, old_held, went_better, went_none, key_row}
use Rattle.saturation.proofs.work.Work.improve.Goals as goal

pub offset_bounds-self-i-then-not-keeps : goal.offset_bounds-self-i-then-not-keeps
offset_bounds-self-i-then-not-keeps g c = let r = c.requires.table.room in let i = c.requires.same.0 in let low : c.args.i < length c.args.self.now.rows.now = omega arith in search rules

pub requeue-requires-clause-old : goal.requeue-requires-clause-old
requeue-requires-clause-old g c =
    let m = g.G.Grade in
    let t = c.requires.table in
    let w = c.args.self.now in
    let s = c.args.setting.now.settled in
    let i = c.args.i in
    let r = t.room in
    let low = c.requires.same.0 in
    let x : get_or w.rows.now i c.index-self-i.result ≡ row_at m w.rows.now i = get_or_default w.rows.now i c.index-self-i.result (blank_row m.best) (omega arith) in
    let gone = c.if-not-keeps.ensures.gone refl in
    let worse = worse_as g.G.TotalOrder.before g.met.G.TotalOrder.total c.agrees.ensures c.args.row.grade (row_at m w.rows.now i).grade (subst (λ y. g.G.TotalOrder.before y.grade c.args.row.grade ≡ false) x gone.1) in
    let held = old_held t i c.args.row low c.requires.same.1 c.requires.row.0 (subst (λ y. s ≤ y.rank) x gone.0) worse in
    subst (λ y. Holds w.waiting.now (w.found - s) (record { grade = y.grade; row = i })) (sym x) held

pub returns-then-not-keeps-clause-went : goal.returns-then-not-keeps-clause-went
returns-then-not-keeps-clause-went g c =
    let m = g.G.Grade in
    let t = c.requires.table in
    let w = c.args.self.now in
    let s = c.args.setting.now.settled in
    let i = c.args.i in
    let r = t.room in
    let low = c.requires.same.0 in
    let x : get_or w.rows.now i c.index-self-i.result ≡ row_at m w.rows.now i = get_or_default w.rows.now i c.index-self-i.result (blank_row m.best) (omega arith) in
    let gone = c.if-not-keeps.ensures.gone refl in
    let same : g.G.TotalOrder.before ≡ m.noworse = λ j a b. c.agrees.ensures a b j in
    let worse = worse_as g.G.TotalOrder.before g.met.G.TotalOrder.total c.agrees.ensures c.args.row.grade (row_at m w.rows.now i).grade (subst (λ y. g.G.TotalOrder.before y.grade c.args.row.grade ≡ false) x gone.1) in
    let new : Waiting g.row.G.Denot = record { grade = c.args.row.grade; row = i } in
    let replaced : Replaced (sooner m.noworse) w.waiting.now c.requeue.new.waiting (w.found - s) (record { grade = (row_at m w.rows.now i).grade; row = i }) new =
    subst (λ f. Replaced (sooner f) w.waiting.now c.requeue.new.waiting (w.found - s) (record { grade = (row_at m w.rows.now i).grade; row = i }) new) same
    (subst (λ y. Replaced (sooner g.G.TotalOrder.before) w.waiting.now c.requeue.new.waiting (w.found - s) (record { grade = y.grade; row = i }) new) x c.requeue.ensures) in
    went_better t i c.args.row low c.requires.same.1 c.requires.row.0 (subst (λ y. s ≤ y.rank) x gone.0) worse replaced c.requeue.auto.waiting

pub returns-else-not-keeps-clause-went : goal.returns-else-not-keeps-clause-went
returns-else-not-keeps-clause-went g c =
    let m = g.G.Grade in
    let t = c.requires.table in
    let w = c.args.self.now in
    let i = c.args.i in
    let r = t.room in
    let low = c.requires.same.0 in
    let x : get_or w.rows.now i c.index-self-i.result ≡ row_at m w.rows.now i = get_or_default w.rows.now i c.index-self-i.result (blank_row m.best) (omega arith) in
    let same : g.G.TotalOrder.before ≡ m.noworse = λ j a b. c.agrees.ensures a b j in
    let no_worse : T (m.noworse (row_at m w.rows.now i).grade c.args.row.grade) =
    ⊎_elim (λ ranked. c.requires.later i (row_at m w.rows.now i) (record { within = low; here = refl; ranked = subst (λ y. y.rank < c.args.setting.now.settled) x ranked }))
    (λ h. subst (λ f. T (f (row_at m w.rows.now i).grade c.args.row.grade)) same (subst T (sym (subst (λ y. g.G.TotalOrder.before y.grade c.args.row.grade ≡ true) x h)) tt))
    (c.if-not-keeps.ensures.kept refl) in
    went_none t (i, low, key_row c.args.setting.now.phases.now (row_at m w.rows.now i) c.args.row c.requires.same.1, no_worse)
