use Rattle.histories.specs.View.{empty}
use Rattle.histories.proofs.ViewLemmas.{stored_at-after_all}
use Rattle.decoded.proofs.laws.key_has_last_write.Goals as goal

pub returns : goal.returns
returns c = λ rules h k. stored_at-after_all rules empty h k
