use Rattle.std.proofs.Common.{◌+◌, ◌-◌, ◌<◌, ◌≤◌, List, length, refl, sym, ap, subst, arith}
use Rattle.circular_buffer.specs.Buffer.{Buffer}
use Rattle.window.specs.declared.event.Event.{Event}
use Rattle.window.specs.Window.{Window, AreNumberedFrom, IsWindowOf, event_at}
use Rattle.window.proofs.Numbered.{IsNumberedTo-push, IsWindowOf-push, kept_longer, numbered_none, with_told, with_untold}
use Rattle.window.proofs.window.Window.push.Goals as goal

pub invariant_of-self-2 : goal.invariant_of-self-2
invariant_of-self-2 g c =
    let inside = c.self.inside in
    let revision = inside.revision in
    let event = event_at (revision + 1) c.args.change c.args.key c.args.document in
    let kept = IsNumberedTo-push inside.ring.capacity revision inside.ring.items event c.self.invariant.0 c.self.invariant.1 refl in
    let few = kept_longer inside.ring.capacity inside.ring.items event in
    let Numbered : List (Event g.row.D.Denot) → Type 0 =
    λ events. (length events < revision + 1) × AreNumberedFrom (revision + 1 - length events) events × (length events ≤ revision + 1 - inside.floor)
    in
    subst Numbered (sym (ap (λ (b : Buffer (Event g.row.D.Denot)). b.items) c.push_back.ensures.items))
    (kept.fewer, kept.numbered, omega (arith, few, c.self.invariant.2, c.if-revision-self.false))

pub invariant_of-self : goal.invariant_of-self
invariant_of-self g c =
    let inside = c.self.inside in
    let none : length inside.ring.items ≤ 0 = omega (arith, c.self.invariant.2, c.if-revision-self.true) in
    (omega (arith, none), numbered_none (inside.revision + 1 - length inside.ring.items) inside.ring.items none, omega (arith, none))

pub returns-clause-window : goal.returns-clause-window
returns-clause-window g c = λ rules all h.
    let inside = c.self.inside in
    let old : Window g.row.D.Denot = record { events = inside.ring.items; revision = inside.revision; places = inside.ring.capacity; floor = inside.floor } in
    let new : Window g.row.D.Denot =
    record { events = c.push_back.new.self.items; revision = inside.revision + 1; places = c.push_back.new.self.capacity; floor = inside.floor }
    in
    let before : IsWindowOf rules all old = subst (λ (w : Window g.row.D.Denot). IsWindowOf rules all w) (sym c.self.view_is) h in
    let value = with_told old new c.args.change c.args.key c.args.document c.if-revision-self.false
    (ap (λ (b : Buffer (Event g.row.D.Denot)). b.items) c.push_back.ensures.items) refl
    (ap (λ (b : Buffer (Event g.row.D.Denot)). b.capacity) c.push_back.ensures.items) refl
    in
    IsWindowOf-push rules all old new c.args.change c.args.key c.args.document before value

pub returns-then-revision-self-clause-window : goal.returns-then-revision-self-clause-window
returns-then-revision-self-clause-window g c = λ rules all h.
    let inside = c.self.inside in
    let old : Window g.row.D.Denot = record { events = inside.ring.items; revision = inside.revision; places = inside.ring.capacity; floor = inside.floor } in
    let new : Window g.row.D.Denot = record { events = inside.ring.items; revision = inside.revision + 1; places = inside.ring.capacity; floor = inside.floor } in
    let before : IsWindowOf rules all old = subst (λ (w : Window g.row.D.Denot). IsWindowOf rules all w) (sym c.self.view_is) h in
    let value = with_untold old new c.args.change c.args.key c.args.document c.if-revision-self.true c.self.invariant.2 refl refl refl refl in
    IsWindowOf-push rules all old new c.args.change c.args.key c.args.document before value
