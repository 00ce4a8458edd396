use Rattle.std.proofs.Common.{List, sym, ap}
use Rattle.std.specs.Prelude.{option_map}
use Rattle.names.specs.Key.{Key}
use Rattle.objects.specs.Objects.{value_at}
use Rattle.histories.specs.declared.stored.Stored.{Stored}
use Rattle.holdings.specs.Sources.{found_in}
use Rattle.holdings.proofs.nothing.NothingSource.find.Goals as goal

pub returns-clause-found : goal.returns-clause-found
returns-clause-found g c = λ objects holds.
    ap (λ (os : List (Key × Stored g.row.P.Denot)). option_map found_in (value_at c.args._key.now os)) (sym holds)
