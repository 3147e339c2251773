use Rattle.paths.specs.Cells.{Layer, Offers}
use Rattle.paths.proofs.sound.SoundRows.fill_layer.Given as goal

abbrev pub invariant-loop-place : goal.invariant-loop-place
invariant-loop-place g l = Layer g.G.Grade l.self.phases.now l.layer (Offers g.G.Grade l.self.phases.now l.self.rows.now l.place l.wagon l.behind)
