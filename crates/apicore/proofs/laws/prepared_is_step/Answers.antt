use Rattle.apicore.proofs.Following.{prepared_step}
use Rattle.apicore.proofs.laws.prepared_is_step.Goals as goal

pub returns : goal.returns
returns c = λ rules h held a p. prepared_step rules h held a p
