use Rattle.objects.proofs.Covering.{merged-same}
use Rattle.objects.proofs.laws.same_is_nothing.Goals as goal

pub returns : goal.returns
returns c = λ key changes base sorted. merged-same key changes base sorted
