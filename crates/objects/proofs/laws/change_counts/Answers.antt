use Rattle.objects.proofs.Covering.{length-changed}
use Rattle.objects.proofs.laws.change_counts.Goals as goal

pub returns : goal.returns
returns c = λ key change entries sorted. length-changed key change entries sorted
