-- The position that is asked about, in the words of the model.
use Rattle.model.specs.Moves.{Position, at}
use Rattle.phases.specs.declared.position.Position.{Position as Asked}

abbrev pub asked : Asked → Position
asked p = at p.mode p.phase p.lane.now
