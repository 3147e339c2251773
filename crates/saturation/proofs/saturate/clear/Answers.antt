use Rattle.std.proofs.Common.{◌≡◌, refl, rules}
use Rattle.rowtable.specs.Tables.{blank_row}
use Rattle.saturation.proofs.Finishing.{filled_with}
use Rattle.saturation.proofs.saturate.clear.Goals as goal

pub returns : goal.returns
returns g c k = filled_with _ (λ x. x ≡ blank_row g.G.Grade.best) (λ p x q ran. search rules) c.fill_with.new.self _ _ c.fill_with.ensures.ran.1 k (blank_row g.G.Grade.best) refl
