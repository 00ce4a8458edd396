use Rattle.plancode.proofs.Lists.{one_list}
use Rattle.plancode.proofs.laws.one_list.Goals as goal

pub returns : goal.returns
returns c = one_list
