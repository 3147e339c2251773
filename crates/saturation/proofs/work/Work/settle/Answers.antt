use Rattle.std.proofs.Common.{◌≡◌, get_or, sym, ap, rules, get_or-set_same}
use Rattle.std.proofs.lemmas.List.{get_or_default}
use Rattle.rowtable.specs.Tables.{blank_row, row_at}
use Rattle.saturation.specs.Work.{ranked_as}
use Rattle.saturation.proofs.Settling.{taken_as, taken_low, settles}
use Rattle.saturation.proofs.work.Work.settle.Goals as goal

pub bounds-self-place : goal.bounds-self-place
bounds-self-place g c = taken_low c.requires.table c.in_ok-place.field-0 (taken_as c.agrees.ensures c.in_ok-place.ensures)

pub bounds-self-place-2 : goal.bounds-self-place-2
bounds-self-place-2 g c = taken_low c.requires.table c.in_ok-place.field-0 (taken_as c.agrees.ensures c.in_ok-place.ensures)

pub offset_bounds-self-place : goal.offset_bounds-self-place
offset_bounds-self-place g c = let low = taken_low c.requires.table c.in_ok-place.field-0 (taken_as c.agrees.ensures c.in_ok-place.ensures) in search rules

pub offset_bounds-self-place-2 : goal.offset_bounds-self-place-2
offset_bounds-self-place-2 g c = let low = taken_low c.requires.table c.in_ok-place.field-0 (taken_as c.agrees.ensures c.in_ok-place.ensures) in search rules

pub returns-clause-settled : goal.returns-clause-settled
returns-clause-settled g c =
    let m = g.G.Grade in
    let t = c.requires.table in
    let w = c.args.self.now in
    let s = c.args.setting.now.settled in
    let e = c.in_ok-place.field-0 in
    let taken = taken_as c.agrees.ensures c.in_ok-place.ensures in
    let low = taken_low t e taken in
    let y = get_or w.rows.now e.row c.index-self-place.result in
    let x : y ≡ row_at m w.rows.now e.row = get_or_default w.rows.now e.row c.index-self-place.result (blank_row m.best) low in
    (settles t e taken (ranked_as y s) (ap (λ y. ranked_as y s) x) c.take.auto.queue, sym (get_or-set_same w.rows.now e.row (ranked_as y s) (blank_row m.best) low))
