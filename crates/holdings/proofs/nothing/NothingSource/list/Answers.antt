use Rattle.std.proofs.Common.{sym, ap, ◌∙◌}
use Rattle.std.specs.List.{filter}
use Rattle.holdings.proofs.nothing.NothingSource.list.Goals as goal

pub returns-clause-listed : goal.returns-clause-listed
returns-clause-listed g c = λ objects holds. c.new.ensures.items ∙ ap (filter _) (sym holds)
