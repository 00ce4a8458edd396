use Rattle.std.proofs.Common.{refl}
use Rattle.holdings.proofs.Showing.{shows_held}
use Rattle.holdings.proofs.holdings.Holdings.held.Goals as goal

pub returns : goal.returns
returns g c = λ base v shows covered.
    shows_held (λ listed. listed.items) _ c.args.self.now base v c.args.resource c.list.result c.self.view_is shows covered (c.list.ensures.merged refl)
