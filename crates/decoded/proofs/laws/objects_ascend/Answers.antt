use Rattle.std.proofs.Common.{refl}
use Rattle.histories.specs.View.{empty}
use Rattle.histories.proofs.ViewLemmas.{objects_ascend}
use Rattle.decoded.proofs.laws.objects_ascend.Goals as goal

pub returns : goal.returns
returns c = λ rules h. objects_ascend rules empty h refl
