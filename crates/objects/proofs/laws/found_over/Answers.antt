use Rattle.objects.proofs.Changing.{find-merged}
use Rattle.objects.proofs.laws.found_over.Goals as goal

pub returns : goal.returns
returns c = λ key changes base. find-merged key changes base
