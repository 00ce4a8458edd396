use Rattle.apicore.proofs.Following.{view_decides_step}
use Rattle.apicore.proofs.laws.view_decides.Goals as goal

pub returns : goal.returns
returns c = λ rules g h a. view_decides_step rules g h a
