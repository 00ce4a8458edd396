use Rattle.std.proofs.Common.{ap, ◌∙◌, ◌+◌, ◌++◌, ◌∷◌, [], None}
use Rattle.circular_buffer.specs.Buffer.{keep_last}
use Rattle.window.specs.Window.{event_at, events_above}
use Rattle.window.specs.declared.event.Change.TheVariants.{Deleted}
use Rattle.holdings.specs.Holdings.{State}
use Rattle.holdings.proofs.Redoing.{made_put}
use Rattle.holdings.proofs.Showing.{shows_deletion}
use Rattle.holdings.proofs.holdings.Holdings.delete.Goals as goal

pub returns-clause-shows : goal.returns-clause-shows
returns-clause-shows g c = λ base v shows next.
    let told = c.into_parts-entry.result in
    let old = c.self.inside.window in
    let places = c.self.invariant.0 ∙ ap (λ (st : State g.row.P.Denot). st.rules.window_events) c.self.view_is in
    let floor = c.self.invariant.1 ∙ ap (λ (st : State g.row.P.Denot). st.rules.floor) c.self.view_is in
    shows_deletion _ c.args.self.now _ base v c.args.deletion told.0 told.1 told.2 c.self.view_is shows next
    c.into_parts-entry.ensures.entry c.into_parts-entry.ensures.key c.into_parts-entry.ensures.document
    (c.make.ensures.leaves base) c.requires.count
    (ap (λ w. w.revision) c.push.ensures.value)
    (ap (λ w. w.events) c.push.ensures.value
    ∙ (λ i. keep_last (places i) (old.events ++ events_above (floor i) (event_at (old.revision + 1) Deleted told.1 told.2 ∷ []))))

pub returns-clause-made : goal.returns-clause-made
returns-clause-made g c =
    made_put _ c.args.self.now c.args.deletion.key None c.into_parts-entry.result.0 _ c.self.view_is c.into_parts-entry.ensures.entry c.make.ensures.made
