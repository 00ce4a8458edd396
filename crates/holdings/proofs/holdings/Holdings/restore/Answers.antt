use Rattle.std.proofs.Common.{ap, refl, ◌∙◌, Some}
use Rattle.holdings.specs.Holdings.{State}
use Rattle.holdings.proofs.Showing.{shows_restored, held_made}
use Rattle.holdings.proofs.holdings.Holdings.restore.Goals as goal

pub returns-clause-shows : goal.returns-clause-shows
returns-clause-shows g c = λ base v shows absent.
    shows_restored _ c.make_room.new.self _ base v c.args.key.now c.in_ok-clone.field-0 c.args.stored c.in_ok-entry.entry c.self.view_is (c.make_room.ensures.shows base v shows)
    absent c.in_ok-entry.ensures.ok c.in_ok-clone.ensures.cases (c.make.ensures.leaves base) c.in_ok-make_room.ensures.count refl refl

pub returns-clause-made : goal.returns-clause-made
returns-clause-made g c =
    held_made c.args.key.now c.in_ok-clone.field-0 (Some c.args.stored) c.in_ok-entry.entry _ c.args.self.now.changes.made _ c.make.ensures.made c.in_ok-entry.ensures.ok
    c.in_ok-clone.ensures.cases (ap (λ (st : State g.row.P.Denot). st.changes.made) c.self.view_is ∙ c.make_room.ensures.made)
