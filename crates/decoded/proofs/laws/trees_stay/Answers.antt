use Rattle.decoded.proofs.Wider.{trees_stay}
use Rattle.decoded.proofs.laws.trees_stay.Goals as goal

pub returns : goal.returns
returns c = trees_stay c.specifications_stay.ensures
