use Rattle.std.proofs.Common.{arith, ◌≡◌, ◌-◌, ◌∙◌, ap, subst, ℕ, List, [], length}
use Rattle.histories.specs.View.{View}
use Rattle.holdings.specs.Holdings.{Shows}
use Rattle.snapshots.specs.Restoring.{without_events}
use Rattle.snapshots.proofs.restoring.core_without_events.Goals as goal

pub returns-clause-revision : goal.returns-clause-revision
returns-clause-revision c =
    let count : c.len.result ≡ length c.view.inside.events.items = omega arith in
    c.in_ok-over.ensures.revision ∙ ap (λ (n : ℕ). c.view.inside.revision - n) count ∙ ap (λ (v : View (List ℕ)). v.revision - length v.events) c.view.view_is

pub returns-clause-shows : goal.returns-clause-shows
returns-clause-shows c = λ base ascends counted.
    let count : c.len.result ≡ length c.view.inside.events.items = omega arith in
    subst (λ (v : View (List ℕ)). Shows c.in_ok-over.field-0 base (without_events base v)) c.view.view_is
    (subst (λ (n : ℕ). Shows c.in_ok-over.field-0 base (record { objects = base; revision = c.view.inside.revision - n; events = [] })) count
    (c.in_ok-over.ensures.shows base ascends counted))
