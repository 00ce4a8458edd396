use Rattle.std.proofs.Common.{List}
use Rattle.celtree.specs.Tree.{Expr}
use Rattle.histories.proofs.Wider.{views_stay_above_floor}
use Rattle.decoded.proofs.laws.views_stay_above_floor.Goals as goal

pub returns : goal.returns
returns c = views_stay_above_floor (List Expr)
