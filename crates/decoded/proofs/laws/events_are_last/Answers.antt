use Rattle.std.proofs.Common.{arith}
use Rattle.histories.specs.View.{empty}
use Rattle.histories.proofs.ViewLemmas.{events-after_all}
use Rattle.decoded.proofs.laws.events_are_last.Goals as goal

pub returns : goal.returns
returns c = λ rules h. events-after_all rules empty h (omega arith)
