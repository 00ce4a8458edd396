use Rattle.cellaws.proofs.FirstFault.{first_fault_first}
use Rattle.cellaws.proofs.laws.first_fault_is_first.Goals as goal

pub returns : goal.returns
returns c = first_fault_first
