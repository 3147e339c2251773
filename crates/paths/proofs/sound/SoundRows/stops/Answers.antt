use Rattle.paths.proofs.Stopping.{head_decides, node_decides}
use Rattle.paths.proofs.sound.SoundRows.stops.Goals as goal

pub returns-then-number-heads : goal.returns-then-number-heads
returns-then-number-heads g c = head_decides c.args.self.now.book.now c.args.self.now.phases.now c.args.number c.if-number-heads.true

pub returns-else-number-heads : goal.returns-else-number-heads
returns-else-number-heads g c = node_decides c.args.self.now.book.now c.args.self.now.phases.now c.args.number c.if-number-heads.false
