use Rattle.celtree.proofs.CallTrees.{has_of_other}
use Rattle.celtree.proofs.calls.has.Goals as goal

pub returns-in-None : goal.returns-in-None
returns-in-None c = has_of_other c.args.arguments.items (rw c.in-None.is at c.in_ok-argument.ensures)
