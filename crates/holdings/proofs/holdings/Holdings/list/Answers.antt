use Rattle.std.proofs.Common.{subst, sym}
use Rattle.holdings.specs.Holdings.{State, Shows}
use Rattle.holdings.proofs.holdings.Holdings.list.Goals as goal

pub returns : goal.returns
returns g c = λ base v shows below.
    c.list.ensures.listed base v.objects (subst (λ (st : State g.row.P.Denot). Shows st base v) (sym c.self.view_is) shows).objects below
