use Rattle.objects.specs.Objects.{is_of}
use Rattle.objects.proofs.Changing.{merged-filter}
use Rattle.objects.proofs.laws.listed_over.Goals as goal

pub returns : goal.returns
returns c = λ resource namespace changes base sorted. merged-filter (is_of resource namespace) changes base sorted
