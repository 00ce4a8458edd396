use Rattle.expressions.proofs.StoredLists.{one_stored_list}
use Rattle.expressions.proofs.laws.one_stored_list.Goals as goal

pub returns : goal.returns
returns c = one_stored_list
