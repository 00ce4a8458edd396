use Rattle.recovery.proofs.Histories.{one_list}
use Rattle.recovery.proofs.laws.payloads_have_one_list.Goals as goal

pub returns : goal.returns
returns c = one_list
