use Rattle.objects.proofs.Covering.{listed_where_covered as lemma}
use Rattle.objects.proofs.laws.listed_where_covered.Goals as goal

pub returns : goal.returns
returns c = λ resource changes base sorted covered. lemma resource changes base sorted covered
