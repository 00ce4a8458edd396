use Rattle.cellaws.proofs.KindLists.{keeps}
use Rattle.cellaws.proofs.KindOfMeaning.{kind}
use Rattle.cellaws.proofs.laws.meaning_has_the_kind.Goals as goal

pub returns : goal.returns
returns c = λ g env e t meets typed. keeps (kind typed env meets)
