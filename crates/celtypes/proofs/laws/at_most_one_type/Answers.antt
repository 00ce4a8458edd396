use Rattle.std.proofs.Common.{sym, ◌∙◌}
use Rattle.std.proofs.lemmas.Option.{same_Some}
use Rattle.celtypes.proofs.Complete.{complete}
use Rattle.celtypes.proofs.laws.at_most_one_type.Goals as goal

pub returns : goal.returns
returns c = λ g e t u a b. same_Some t u (sym (complete a) ∙ complete b)
