use Rattle.std.proofs.Common.{◌≡◌, ◌+◌, ◌<◌, ◌≤◌, length, sym, subst, arith}
use Rattle.std.proofs.lemmas.List.{get_or_read}
use Rattle.rowtable.specs.Tables.{blank_row, row_at}
use Rattle.paths.specs.Cells.{width, brought, Layer, Leads, Offers}
use Rattle.paths.proofs.Offers.{bring_step}
use Rattle.paths.proofs.sound.SoundRows.fill_layer.Goals as goal

pub loop-place-preserved : goal.loop-place-preserved
loop-place-preserved g c =
    let m = g.G.Grade in
    let rows = c.args.self.now.rows.now in
    let Fs = c.args.self.now.phases.now in
    let behind = c.args.behind.now in
    let layer = c.loop-place.layer in
    let i = c.loop-place.place in
    let lt : i < length rows = omega arith in
    let is : c.row-item.result ≡ row_at m rows i = get_or_read rows i c.row-item.result lt c.row-item.is (blank_row m.best) in
    let room : width Fs ≤ length layer = let room = c.requires.here in let long = c.loop-place.auto.layer in omega arith in
    let leads : Leads Fs (row_at m rows i) = c.args.self.now.sound i (blank_row m.best) lt in
    let step = bring_step c.lawful.ensures Fs rows c.args.wagon i behind layer room leads c.loop-place.invariant in
    subst (λ new. Layer m Fs new (Offers m Fs rows (i + 1) c.args.wagon behind)) (sym (subst (λ r. c.bring_row.new.layer ≡ brought m Fs behind layer c.args.wagon i r) is c.bring_row.ensures)) step

pub returns : goal.returns
returns g c =
    let m = g.G.Grade in
    let Fs = c.args.self.now.phases.now in
    let rows = c.args.self.now.rows.now in
    let all : c.loop-place.place ≡ length rows = let high = c.loop-place-test.false in let low = c.loop-place.auto.place-end in omega arith in
    subst (λ n. Layer m Fs c.loop-place.layer (Offers m Fs rows n c.args.wagon c.args.behind.now)) all c.loop-place.invariant
