use Rattle.plan.proofs.Follows.{code_means}
use Rattle.plan.proofs.laws.runs_as_meant.Goals as goal

pub returns : goal.returns
returns c = code_means
