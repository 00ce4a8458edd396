use Rattle.decoded.proofs.Staying.{histories_show}
use Rattle.decoded.proofs.laws.histories_show.Goals as goal

pub returns : goal.returns
returns c = histories_show
