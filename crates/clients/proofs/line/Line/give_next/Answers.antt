use Rattle.std.proofs.Common.{rules, ◌≡◌, ◌∙◌, sym, subst, false, true≢false, [], Option}
use Rattle.std.specs.Option.{option_map_or}
use Rattle.sessions.specs.Restating.{Queue, Gives}
use Rattle.clients.specs.Plain.{later_of}
use Rattle.sessions.specs.State.{State}
use Rattle.clients.specs.Story.{GoesOn, SendsOn}
use Rattle.clients.proofs.Stories.{goes_none, sends_go}
use Rattle.clients.proofs.line.Line.give_next.Goals as goal

pub returns-then-not-is_quiet-clause-goes_on : goal.returns-then-not-is_quiet-clause-goes_on
returns-then-not-is_quiet-clause-goes_on g c plain =
    goes_none g.S.Stream.moved g.S.Stream.has_ended c.args.self.now.stream c.args.session.now (g.met.S.Stream.moved_none c.args.self.now.stream)

pub returns-clause-goes_on : goal.returns-clause-goes_on
returns-clause-goes_on g c plain =
    let same : c.give.new.session ≡ c.args.session.now = c.give.ensures.plain plain in
    let From : g.row.S.Denot → State → Type 0 = λ s t. GoesOn g.S.Stream.moved g.S.Stream.has_ended s c.send.new.self.stream t c.send.new.session in
    subst (λ s. From s c.args.session.now) c.give.ensures.stream (subst (λ t. From c.give.new.self.stream t) same
    (sends_go g.S.Stream.moved g.S.Stream.has_ended c.give.new.self.stream c.send.new.self.stream c.give.new.session c.send.new.session g.met.S.Stream.ended_then c.send.ensures.sent))

pub returns-clause-gives : goal.returns-clause-gives
returns-clause-gives g c f is opened some idle sent =
    let given = c.give.ensures.gives f is in
    let Late : Option Queue → Type 0 = λ o. Gives f (later_of c.args.self.now) (option_map_or (λ (q : Queue). q.messages) o []) c.args.session.now c.give.new.session given.0 in
    let By : g.row.S.Denot → Type 0 = λ s. SendsOn g.S.Stream.moved s c.send.new.self.stream c.give.new.session c.send.new.session in
    (c.give.new.session, given.0, subst Late (sym c.send.ensures.behind) given.1, subst By c.give.ensures.stream c.send.ensures.sent)

pub returns-then-not-has_later-clause-goes_on : goal.returns-then-not-has_later-clause-goes_on
returns-then-not-has_later-clause-goes_on g c plain =
    goes_none g.S.Stream.moved g.S.Stream.has_ended c.args.self.now.stream c.args.session.now (g.met.S.Stream.moved_none c.args.self.now.stream)

pub returns-then-not-is_quiet-clause-gives : goal.returns-then-not-is_quiet-clause-gives
returns-then-not-is_quiet-clause-gives g c f is opened some idle sent =
    let no : c.is_quiet.result ≡ false = search rules in absurd (true≢false (sym (c.is_quiet.ensures.1 (idle, sent)) ∙ no))

pub returns-then-not-has_later-clause-gives : goal.returns-then-not-has_later-clause-gives
returns-then-not-has_later-clause-gives g c f is opened some idle sent =
    let no : c.has_later.result ≡ false = search rules in absurd (true≢false (sym (c.has_later.ensures.1 (opened, some)) ∙ no))
