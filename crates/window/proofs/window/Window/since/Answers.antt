use Rattle.std.proofs.Common.{◌≡◌, ℕ, ◌+◌, ◌-◌, length, drop, ap, ◌∙◌, subst, arith}
use Rattle.std.specs.Map.Iter.{deref}
use Rattle.window.specs.Window.{Window, events_above}
use Rattle.window.proofs.Kept.{drop-next}
use Rattle.window.proofs.Numbered.{IsNumberedTo, events_above-last, events_above-told}
use Rattle.window.proofs.window.Window.since.Goals as goal

pub loop-preserved : goal.loop-preserved
loop-preserved g c =
    drop-next deref c.args.self.now.events c.loop.counter c.loop.events c.next.new.self c.next.result c.loop.invariant c.next.ensures.steps

value : goal.returns-clause-value
value g c =
    let now = c.args.self.now in
    let numbered : IsNumberedTo now.revision now.events =
    subst (λ (w : Window g.row.D.Denot). IsNumberedTo w.revision w.events) c.self.view_is (record { fewer = c.self.invariant.0; numbered = c.self.invariant.1 })
    in
    let revision : c.self.inside.revision ≡ now.revision = ap (λ (w : Window g.row.D.Denot). w.revision) c.self.view_is in
    let count : length c.self.inside.ring.items ≡ length now.events = ap (λ (w : Window g.row.D.Denot). length w.events) c.self.view_is in
    let skipped : c.loop.counter ≡ length now.events - (now.revision - c.args.revision) = omega arith in
    c.loop.invariant ∙ ap (λ (k : ℕ). drop k now.events) skipped ∙ events_above-last c.args.revision now.revision now.events numbered (omega arith)

pub returns-clause-value : goal.returns-clause-value
returns-clause-value = value

pub returns-clause-window : goal.returns-clause-window
returns-clause-window g c = λ rules all h.
    let now = c.args.self.now in
    let revision : c.self.inside.revision ≡ 1 + length all = ap (λ (w : Window g.row.D.Denot). w.revision) (c.self.view_is ∙ h.shows) in
    let places : c.self.inside.ring.capacity ≡ rules.window_events = ap (λ (w : Window g.row.D.Denot). w.places) (c.self.view_is ∙ h.shows) in
    let floor : c.self.inside.floor ≡ rules.floor = ap (λ (w : Window g.row.D.Denot). w.floor) (c.self.view_is ∙ h.shows) in
    value g c ∙ ap (λ (w : Window g.row.D.Denot). events_above c.args.revision w.events) h.shows
    ∙ events_above-told c.args.revision rules.window_events rules.floor all h.numbered (omega arith) (omega arith)
