use Rattle.apicore.proofs.Following.{runs_are_steps}
use Rattle.apicore.proofs.laws.runs_are_steps.Goals as goal

pub returns : goal.returns
returns c = λ rules h a rest. runs_are_steps rules h a rest
