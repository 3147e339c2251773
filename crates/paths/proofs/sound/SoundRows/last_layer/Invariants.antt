use Rattle.std.proofs.Common.{◌<◌}
use Rattle.book.specs.Lines.{lines}
use Rattle.rowtable.specs.declared.row.TableState.{TableState}
use Rattle.rowtable.specs.Tables.{Exists}
use Rattle.paths.specs.Cells.{index, cell_at, Says}
use Rattle.paths.specs.Layers.{Stopping}
use Rattle.paths.proofs.sound.SoundRows.last_layer.Given as goal

abbrev pub invariant-loop-number : goal.invariant-loop-number
invariant-loop-number g l =
    (s : TableState) → Exists l.self.phases.now s → index l.self.phases.now s < l.number → Says g.G.Grade (Stopping g.G.Grade (lines l.self.book.now) s) (cell_at l.layer (index l.self.phases.now s))
