use Rattle.std.proofs.Common.{arith}
use Rattle.histories.specs.View.{empty}
use Rattle.histories.proofs.ViewLemmas.{revision-after_all}
use Rattle.decoded.proofs.laws.revision_counts.Goals as goal

pub returns : goal.returns
returns c = λ rules h. let e = revision-after_all rules empty h in omega (arith, e)
