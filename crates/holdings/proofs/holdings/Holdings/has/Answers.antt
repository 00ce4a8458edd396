use Rattle.std.proofs.Common.{refl, sym, ap, ◌∙◌, is_some}
use Rattle.holdings.proofs.Showing.{found_changed, found_nowhere}
use Rattle.holdings.proofs.holdings.Holdings.has.Goals as goal

pub returns-in-Some : goal.returns-in-Some
returns-in-Some g c = λ base v shows known.
    let now = c.args.self.now in
    c.is_some.ensures ∙ ap is_some (found_changed now now base v c.args.key.now c.change.result c.in-Some.change refl c.change.ensures c.in-Some.is shows)

pub returns-in-None : goal.returns-in-None
returns-in-None g c = λ base v shows known.
    ap is_some (sym (found_nowhere c.args.self.now base v c.args.key.now c.change.result c.change.ensures c.in-None.is known shows))
