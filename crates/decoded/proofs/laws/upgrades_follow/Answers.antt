use Rattle.decoded.proofs.Upgrading.{upgrades_follow}
use Rattle.decoded.proofs.laws.upgrades_follow.Goals as goal

pub returns : goal.returns
returns c = upgrades_follow c.trees_stay.ensures
