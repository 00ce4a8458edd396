use Rattle.std.proofs.Common.{◌≡◌, refl, sym, ap, subst, IfOk}
use Rattle.std.specs.Prelude.{Option, option_map}
use Rattle.histories.specs.declared.stored.Stored.{Stored}
use Rattle.holdings.specs.Sources.{found_in}
use Rattle.holdings.proofs.Showing.{found_changed, found_nowhere}
use Rattle.holdings.proofs.holdings.Holdings.known.Goals as goal

pub returns-in-Some : goal.returns-in-Some
returns-in-Some g c = λ base v shows known.
    let now = c.args.self.now in
    subst (λ (o : Option (Stored g.row.P.Denot)). IfOk c.found.result (λ found. found ≡ option_map found_in o))
    (found_changed now now base v c.args.key.now c.change.result c.in-Some.change refl c.change.ensures c.in-Some.is shows) c.found.ensures

pub returns-in-None : goal.returns-in-None
returns-in-None g c = λ base v shows known.
    ap (option_map found_in) (sym (found_nowhere c.args.self.now base v c.args.key.now c.change.result c.change.ensures c.in-None.is known shows))
