use Rattle.std.proofs.Common.{sym, ap}
use Rattle.std.specs.List.{list_any}
use Rattle.holdings.proofs.nothing.NothingSource.has_unchanged.Goals as goal

pub returns-clause-unchanged : goal.returns-clause-unchanged
returns-clause-unchanged g c = λ objects holds. ap (list_any _) (sym holds)
