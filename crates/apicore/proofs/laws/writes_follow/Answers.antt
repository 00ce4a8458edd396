use Rattle.apicore.proofs.Following.{IsHistory-step}
use Rattle.apicore.proofs.laws.writes_follow.Goals as goal

pub returns : goal.returns
returns c = λ rules h a. IsHistory-step rules h a
