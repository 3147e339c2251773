use Rattle.unfolding.proofs.Standing.{paths_stand, rest_reaches}
use Rattle.unfolding.proofs.theorems.paths_stand.Goals as goal

pub returns : goal.returns
returns g c = record { stand = paths_stand g.G.Grade c.lawful.ensures; reach = rest_reaches g.G.Grade }
