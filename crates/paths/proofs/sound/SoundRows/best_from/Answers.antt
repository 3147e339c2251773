use Rattle.std.proofs.Common.{◌≡◌, ◌<◌, length, sym, ap, ◌∙◌, subst, arith}
use Rattle.book.specs.Lines.{lines}
use Rattle.paths.specs.Cells.{known, index, cell_at, grade_of}
use Rattle.paths.specs.Layers.{BestSaid}
use Rattle.paths.proofs.Layering.{front_whole, front_layer, cell_read}
use Rattle.paths.proofs.Onward.{says_best}
use Rattle.paths.proofs.sound.SoundRows.best_from.Goals as goal

pub returns-clause-told : goal.returns-clause-told
returns-clause-told g c =
    let m = g.G.Grade in
    let ls = lines c.args.self.now.book.now in
    let rows = c.args.self.now.rows.now in
    let Fs = c.args.self.now.phases.now in
    let cells = c.fill_layers.new.cells in
    let s = c.args.start in
    let lane = c.args.lane.now in
    let inside : c.index.result < length cells = let low = c.index.ensures.within in let whole = front_whole m ls rows (length rows) Fs lane cells c.fill_layers.ensures in omega arith in
    let is : known c.index-cells-index.result ≡ cell_at cells (index Fs s) = cell_read cells c.index.result (index Fs s) c.index-cells-index.result inside c.index-cells-index.is c.index.ensures.is in
    let graded : c.grade.result ≡ grade_of (known c.index-cells-index.result) = c.grade.ensures ∙ ap (λ d. grade_of (known d)) (sym c.index-cells-index.is) in
    subst (BestSaid m ls rows (length rows) s lane) (sym (graded ∙ ap grade_of is))
    (says_best m ls rows (length rows) lane s (cell_at cells (index Fs s)) (front_layer m ls rows (length rows) Fs lane cells c.fill_layers.ensures s c.requires.exists))
