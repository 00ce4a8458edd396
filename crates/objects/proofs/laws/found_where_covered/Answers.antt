use Rattle.objects.proofs.Covering.{found_where_covered as lemma}
use Rattle.objects.proofs.laws.found_where_covered.Goals as goal

pub returns : goal.returns
returns c = λ resource key changes base covered is. lemma resource key changes base covered is
