use Rattle.objects.proofs.Changing.{merged-put}
use Rattle.objects.proofs.laws.change_is_one_more.Goals as goal

pub returns : goal.returns
returns c = λ key change changes base sorted. merged-put key change changes base sorted
