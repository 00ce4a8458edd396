use Rattle.std.proofs.Common.{ap, ◌∙◌}
use Rattle.holdings.specs.Holdings.{State}
use Rattle.holdings.proofs.Showing.{held_there, held_made}
use Rattle.holdings.proofs.holdings.Holdings.hold.Goals as goal

pub returns-clause-held : goal.returns-clause-held
returns-clause-held g c =
    held_there c.args.key.now c.in_ok-clone.field-0 c.args.stored c.in_ok-entry.entry _ _ c.hold.ensures.made c.in_ok-entry.ensures.ok c.in_ok-clone.ensures.cases

pub returns-clause-made : goal.returns-clause-made
returns-clause-made g c =
    held_made c.args.key.now c.in_ok-clone.field-0 c.args.stored c.in_ok-entry.entry _ c.args.self.now.changes.made _ c.hold.ensures.made c.in_ok-entry.ensures.ok
    c.in_ok-clone.ensures.cases (c.reserve.ensures.made ∙ ap (λ (st : State g.row.P.Denot). st.changes.made) c.self.view_is)
