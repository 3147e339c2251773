use Rattle.std.proofs.Common.{length}
use Rattle.paths.proofs.sound.SoundRows.+lay.Given as goal

abbrev pub decreases-lay : goal.decreases-lay
decreases-lay g l = length l.lane.now
