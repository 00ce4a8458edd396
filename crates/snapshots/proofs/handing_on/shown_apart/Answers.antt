use Rattle.std.proofs.Common.{◌∙◌, ap, List, not}
use Rattle.std.specs.List.{filter}
use Rattle.objects.specs.Steps.{puts_of}
use Rattle.snapshots.proofs.HandedOn.{apart_put}
use Rattle.snapshots.proofs.handing_on.shown_apart.Goals as goal

pub returns : goal.returns
returns g c base held all shows =
    let lies = g.B.Below.lies c.args.below.now in
    let made = c.args.core.now.changes.made in
    let objects =
    c.in_ok-objects.ensures ∙ ap (λ cs. filter (λ o. not (lies o.0.resource)) (puts_of cs)) c.changes.ensures.value
    ∙ apart_put lies made base held.objects c.changes.ensures.ascending shows.objects.ascends all shows.objects.are
    in
    let events = c.in_ok-events.ensures ∙ c.events.ensures ∙ shows.events in
    let revision = c.revision.ensures ∙ shows.revision in
    λ i. record { objects = objects i; revision = revision i; events = events i }
