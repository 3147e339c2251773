use Rattle.std.proofs.Common.{length}
use Rattle.paths.proofs.sound.SoundRows.+fill_layers.Given as goal

abbrev pub decreases-fill_layers : goal.decreases-fill_layers
decreases-fill_layers g l = length l.lane.now
