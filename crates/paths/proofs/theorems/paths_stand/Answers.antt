use Rattle.paths.proofs.Standing.{paths_stand, stands_reach}
use Rattle.paths.proofs.theorems.paths_stand.Goals as goal

pub returns : goal.returns
returns g c = record {
  stand = λ ls Fs rows n reasoned. paths_stand g.G.Grade ls Fs rows n c.lawful.ensures reasoned;
  reach = stands_reach g.G.Grade;
}
