use Rattle.std.proofs.Common.{ap, ◌∙◌, ◌+◌, ◌++◌, ◌∷◌, []}
use Rattle.circular_buffer.specs.Buffer.{keep_last}
use Rattle.window.specs.Window.{event_at, events_above}
use Rattle.holdings.specs.Holdings.{State}
use Rattle.holdings.proofs.Redoing.{made_put}
use Rattle.holdings.proofs.Showing.{shows_put}
use Rattle.holdings.proofs.holdings.Holdings.put.Goals as goal

pub returns-clause-shows : goal.returns-clause-shows
returns-clause-shows g c = λ base v shows next.
    let told = c.into_parts-entry.result in
    let old = c.self.inside.window in
    let places = c.self.invariant.0 ∙ ap (λ (st : State g.row.P.Denot). st.rules.window_events) c.self.view_is in
    let floor = c.self.invariant.1 ∙ ap (λ (st : State g.row.P.Denot). st.rules.floor) c.self.view_is in
    shows_put _ c.args.self.now _ base v c.args.put told.0 c.is_modification.result told.1 told.2 told.3 c.self.view_is shows next
    c.into_parts-entry.ensures.entry c.into_parts-entry.ensures.change c.into_parts-entry.ensures.key c.into_parts-entry.ensures.document
    (c.make.ensures.leaves base) c.is_modification.ensures c.requires.count
    (ap (λ w. w.revision) c.push.ensures.value)
    (ap (λ w. w.events) c.push.ensures.value
    ∙ (λ i. keep_last (places i) (old.events ++ events_above (floor i) (event_at (old.revision + 1) told.1 told.2 told.3 ∷ []))))

pub returns-clause-made : goal.returns-clause-made
returns-clause-made g c =
    made_put _ c.args.self.now c.args.put.key c.args.put.stored c.into_parts-entry.result.0 _ c.self.view_is c.into_parts-entry.ensures.entry c.make.ensures.made
