use Rattle.std.proofs.Common.{ap, sym, subst, ℕ, ◌∙◌, ◌≡◌, ◌++◌, Some, None, List, length, drop, rules, Result, Ok, Err, OnOk}
use Rattle.httpmsg.specs.Stream.{Progress, IsCut, IsUnfinished, Waits}
use Rattle.httpmsg.proofs.Cuts.{awaits_now}
use Rattle.httpmsg.proofs.Leads.{cut_ended}
use Rattle.httpmsg.specs.Awaited.{IsAwaited}
use Rattle.httpmsg.proofs.Feeds.{awaited_bytes, fed_ended, fed_on, fed_nothing, fed_idle}
use Rattle.httpmsg.proofs.cutter.Cutter.feed.Goals.{After-after_end, After-new, After-told}
use Rattle.httpmsg.proofs.cutter.Cutter.feed.Goals as goal

ended : (c : After-after_end) → c.args.self.now.end ≡ Some c.in-Some.end
ended c = ap (λ (p : Progress). p.end) (sym c.self.view_is) ∙ c.in-Some.is

pub returns-in-Some-clause-ok : goal.returns-in-Some-clause-ok
returns-in-Some-clause-ok c =
    λ all ms cut. fed_ended (λ x. x.items) c.after_end.result all ms c.args.self.now c.args.bytes.now c.in-Some.end (ended c) c.after_end.ensures.ok cut

pub returns-in-Some-clause-broken : goal.returns-in-Some-clause-broken
returns-in-Some-clause-broken c = λ all ms cut b is. (
  cut_ended all ms c.args.self.now c.args.bytes.now c.in-Some.end (ended c) cut,
  ended c ∙ ap Some (c.after_end.ensures.broken b is),
)

was_open : (c : After-new) → c.args.self.now.end ≡ None
was_open c = ap (λ (p : Progress). p.end) (sym c.self.view_is) ∙ c.in_default.is

still_awaited : (c : After-new) → IsAwaited c.extend_from_slice.new.self.items c.in-Some-after.awaited
still_awaited c =
    let joined = c.in_ok-extend_from_slice.ensures.items in
    let size : length c.extend_from_slice.new.self.items ≡ c.len.result = search rules in
    let Here : List ℕ → Type 0 = λ x. IsAwaited x c.in-Some-after.awaited in
    subst Here (sym joined)
    (c.in-Some-after.ensures c.self.inside.pending.items (sym (ap length joined) ∙ size) (c.self.invariant c.in_default.is))

still_waits : (c : After-new) → Waits c.extend_from_slice.new.self.items × IsUnfinished c.extend_from_slice.new.self.items
still_waits c =
    let awaits = awaited_bytes c.extend_from_slice.new.self.items c.in-Some-after.awaited (still_awaited c) in
    awaits_now c.extend_from_slice.new.self.items awaits.0 awaits.1

pub returns-in-Some-after-clause-ok : goal.returns-in-Some-after-clause-ok
returns-in-Some-after-clause-ok c = λ all ms cut.
    fed_idle all ms c.args.self.now c.args.bytes.now c.new.result.items
    (record { pending = c.extend_from_slice.new.self.items; end = c.self.inside.end }) (was_open c) c.in_default.is
    (c.in_ok-extend_from_slice.ensures.items ∙ ap (λ (p : Progress). p.pending ++ c.args.bytes.now) c.self.view_is)
    (still_waits c).1 c.new.ensures.items cut

pub returns-in-Some-after-clause-waits : goal.returns-in-Some-after-clause-waits
returns-in-Some-after-clause-waits c = λ unended. (still_waits c).0

is_open : (c : After-told) → c.args.self.now.end ≡ None
is_open c = ap (λ (p : Progress). p.end) (sym c.self.view_is) ∙ c.in_default.is

cut_next : (c : After-told) → IsCut (c.args.self.now.pending ++ c.args.bytes.now) c.in-Ok.run'.messages.items
    (record { pending = c.remove_front.new.bytes.items; end = c.in-Ok.run'.end })
cut_next c =
    let whole : c.deref.result.now ≡ c.args.self.now.pending ++ c.args.bytes.now =
    c.deref.ensures.value ∙ c.in_ok-extend_from_slice.ensures.items ∙ ap (λ (p : Progress). p.pending ++ c.args.bytes.now) c.self.view_is
    in
    let rest : drop c.in-Ok.run'.at c.deref.result.now ≡ c.remove_front.new.bytes.items =
    ap (drop c.in-Ok.run'.at) c.deref.ensures.value ∙ sym c.remove_front.ensures
    in
    let Cut : List ℕ → Type 0 = λ x. IsCut x c.in-Ok.run'.messages.items
    (record { pending = drop c.in-Ok.run'.at c.deref.result.now; end = c.in-Ok.run'.end })
    in
    let Left : List ℕ → Type 0 = λ x. IsCut (c.args.self.now.pending ++ c.args.bytes.now) c.in-Ok.run'.messages.items
    (record { pending = x; end = c.in-Ok.run'.end })
    in
    subst Left rest (subst Cut whole c.in-Ok.ensures.cut.1)

pub returns-in-Ok-clause-ok : goal.returns-in-Ok-clause-ok
returns-in-Ok-clause-ok c = λ all ms cut.
    fed_on (λ x. x.items) c.told.result all ms c.args.self.now c.args.bytes.now c.in-Ok.run'.messages.items _ (is_open c) c.told.ensures.ok cut (cut_next c)

pub returns-in-Ok-clause-broken : goal.returns-in-Ok-clause-broken
returns-in-Ok-clause-broken c = λ all ms cut b is. (
  fed_nothing all ms c.args.self.now c.args.bytes.now c.in-Ok.run'.messages.items _ (is_open c) (c.told.ensures.broken b is).0 cut (cut_next c),
  (c.told.ensures.broken b is).1,
)

when_ok : {R E : Type 0} (r : Result R E) (P : Type 0) → P → OnOk r P
when_ok (Ok x) P p = p
when_ok (Err e) P p = tt

pub returns-in-Ok-clause-waits : goal.returns-in-Ok-clause-waits
returns-in-Ok-clause-waits c =
    let rest : drop c.in-Ok.run'.at c.deref.result.now ≡ c.remove_front.new.bytes.items =
    ap (drop c.in-Ok.run'.at) c.deref.ensures.value ∙ sym c.remove_front.ensures
    in
    let Waiting : List ℕ → Type 0 = λ x. Waits x in
    when_ok c.told.result _ (λ unended. subst Waiting rest (awaits_now _ _ (c.in-Ok.ensures.awaits unended)).0)
