use Rattle.std.proofs.Common.{rules, ◌≡◌, ◌∙◌, ap, sym, subst, refl, inl, inr, false, true≢false, [], Option, Some, option_map}
use Rattle.httpmsg.specs.Stream.{Message}
use Rattle.sessions.specs.State.{State}
use Rattle.sessions.specs.Restating.{Queue, Gives}
use Rattle.clients.specs.Plain.{later_of}
use Rattle.clients.proofs.line.Line.hand_over.Goals as goal

pub returns-then-is_idle-clause-hands : goal.returns-then-is_idle-clause-hands
returns-then-is_idle-clause-hands g c f is = inl (inl (c.is_idle.ensures.0 c.if-is_idle.true), refl, refl)

pub returns-then-not-has_none_later-clause-hands : goal.returns-then-not-has_none_later-clause-hands
returns-then-not-has_none_later-clause-hands g c f is =
    let no : c.has_none_later.result ≡ false = search rules in
    inl (inr (λ none. true≢false (sym (c.has_none_later.ensures.1 none) ∙ no)), refl, refl)

pub returns-clause-hands : goal.returns-clause-hands
returns-clause-hands g c f is =
    let same : Some c.in-Some.later.format ≡ Some f = sym (ap (λ (o : Option Queue). option_map (λ (q : Queue). q.format) o) c.in-Some.is) ∙ is in
    let given = c.give.ensures.gives f (ap (λ (q : Queue). Some q.format) c.take_from.ensures.taken ∙ same) in
    let From : Queue → State → Type 0 = λ q s. (answered : Option Message) × Gives f q.messages (later_of c.give.new.self) s c.give.new.session answered in
    inr (subst (λ q. From q (record c.args.session.now { waiting = [] })) c.take_from.ensures.taken (subst (λ s. From c.take_from.new.self s) c.take_from.ensures.session given))
