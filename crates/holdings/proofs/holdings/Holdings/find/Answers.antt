use Rattle.std.proofs.Common.{◌≡◌, ap, subst, ◌∙◌, IfOk}
use Rattle.std.specs.Option.{option_map}
use Rattle.std.specs.Prelude.{Option}
use Rattle.histories.specs.declared.stored.Stored.{Stored}
use Rattle.holdings.specs.Sources.{found_in}
use Rattle.holdings.proofs.Showing.{found_changed, found_below}
use Rattle.holdings.proofs.holdings.Holdings.find.Goals as goal

pub returns-in_ok-found-in-Some-clause-found : goal.returns-in_ok-found-in-Some-clause-found
returns-in_ok-found-in-Some-clause-found g c = λ base v holds shows.
    c.in_ok-found-in-Some.ensures
    ∙ ap (option_map found_in) (found_changed _ c.args.self.now base v c.args.key.now c.get.result c.in-Some.change c.self.view_is c.get.ensures c.in-Some.is shows)

pub returns-in-None-clause-found : goal.returns-in-None-clause-found
returns-in-None-clause-found g c = λ base v holds shows.
    subst (λ (o : Option (Stored g.row.P.Denot)). IfOk c.find.result (λ found. found ≡ option_map found_in o))
    (found_below _ c.args.self.now base v c.args.key.now c.get.result c.self.view_is c.get.ensures c.in-None.is shows) (c.find.ensures.found base holds)
