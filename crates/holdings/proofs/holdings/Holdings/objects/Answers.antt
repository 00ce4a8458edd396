use Rattle.std.proofs.Common.{subst, sym}
use Rattle.holdings.specs.Holdings.{State, Shows}
use Rattle.holdings.proofs.holdings.Holdings.objects.Goals as goal

pub returns : goal.returns
returns g c = λ v shows.
    c.left.ensures v.objects (subst (λ (st : State g.row.P.Denot). Shows st c.args.below.now v) (sym c.self.view_is) shows).objects
