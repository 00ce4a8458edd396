use Rattle.decoded.proofs.Upgrading.{upgrades_show}
use Rattle.decoded.proofs.laws.upgrades_show.Goals as goal

pub returns : goal.returns
returns c = upgrades_show
