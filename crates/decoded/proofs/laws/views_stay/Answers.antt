use Rattle.std.proofs.Common.{List}
use Rattle.celtree.specs.Tree.{Expr}
use Rattle.histories.proofs.Wider.{views_stay}
use Rattle.decoded.proofs.laws.views_stay.Goals as goal

pub returns : goal.returns
returns c = views_stay (List Expr)
