use Rattle.dialect.proofs.Served.{stays}
use Rattle.dialect.proofs.laws.served_stays.Goals as goal

pub returns : goal.returns
returns c f m served other = stays f m served other
