use Rattle.std.proofs.Common.{◌≡◌, ◌++◌, length, sym, ◌∙◌, subst}
use Rattle.std.proofs.lemmas.List.{nil_from_length}
use Rattle.book.specs.Lines.{lines}
use Rattle.paths.specs.Cells.{width}
use Rattle.paths.specs.Layers.{Layered}
use Rattle.paths.proofs.Layering.{layered_last, layered_more}
use Rattle.paths.proofs.Taken.{all_sound}
use Rattle.paths.proofs.sound.SoundRows.+fill_layers.Goals as goal

pub returns-in-Some : goal.returns-in-Some
returns-in-Some g t c =
    let m = g.G.Grade in
    let ls = lines c.args.self.now.book.now in
    let rows = c.args.self.now.rows.now in
    let Fs = c.args.self.now.phases.now in
    let wide : length c.fill_layer.new.layer ≡ width Fs = c.fill_layer.auto.layer ∙ c.split_at_mut-layer.ensures.front_len ∙ c.width.ensures in
    subst (λ w. Layered m ls rows (length rows) Fs w (c.fill_layer.new.layer ++ c.fill_layers.new.cells)) (sym c.in-Some.ensures.cases.0)
    (layered_more m ls rows (length rows) Fs c.lawful.ensures (all_sound m c.args.self.now.sound) c.in-Some.wagon.now c.in-Some.rest.now c.fill_layer.new.layer c.fill_layers.new.cells wide c.fill_layer.ensures c.fill_layers.ensures)

pub returns-in-None : goal.returns-in-None
returns-in-None g t c =
    let m = g.G.Grade in
    let ls = lines c.args.self.now.book.now in
    let rows = c.args.self.now.rows.now in
    let Fs = c.args.self.now.phases.now in
    let behind = c.split_at_mut-layer.result.1.now in
    let wide : length c.last_layer.new.layer ≡ width Fs = c.last_layer.auto.layer ∙ c.split_at_mut-layer.ensures.front_len ∙ c.width.ensures in
    subst (λ w. Layered m ls rows (length rows) Fs w (c.last_layer.new.layer ++ behind)) (sym (nil_from_length c.args.lane.now c.in-None.ensures.cases))
    (layered_last m ls rows (length rows) Fs c.last_layer.new.layer behind wide c.last_layer.ensures)
