use Rattle.std.proofs.Common.{rules, ◌≡◌, ◌∙◌, sym, true≢false, true, false}
use Rattle.sessions.specs.State.{is_open}
use Rattle.clients.specs.Plain.{later_of}
use Rattle.clients.proofs.Leaving.{none_later}
use Rattle.clients.proofs.Sending.{forgets}
use Rattle.clients.proofs.Stories.{goes_none, sends_go}
use Rattle.clients.proofs.line.Line.attend.Goals as goal

pub returns-then-not-is_quiet-clause-goes_on : goal.returns-then-not-is_quiet-clause-goes_on
returns-then-not-is_quiet-clause-goes_on g c plain = goes_none g.S.Stream.moved g.S.Stream.has_ended c.args.self.now.stream c.args.session.now (g.met.S.Stream.moved_none c.args.self.now.stream)

pub returns-then-not-is_open-clause-goes_on : goal.returns-then-not-is_open-clause-goes_on
returns-then-not-is_open-clause-goes_on g c plain =
    let closed : is_open c.args.session.now.phase ≡ false = search rules in
    let drained = c.drain.ensures.forgets in
    sends_go g.S.Stream.moved g.S.Stream.has_ended c.args.self.now.stream c.drain.new.self.stream c.args.session.now c.args.session.now g.met.S.Stream.ended_then
    (forgets g.S.Stream.moved c.args.self.now.stream c.drain.new.self.stream c.args.session.now drained.0 (λ opened. true≢false (sym opened ∙ closed)) drained.1)

pub read-requires-clause-none : goal.read-requires-clause-none
read-requires-clause-none g c =
    let opened : is_open c.args.session.now.phase ≡ true = search rules in
    let no : c.has_later.result ≡ false = search rules in
    none_later (is_open c.args.session.now.phase) (later_of c.args.self.now) opened (λ both. true≢false (sym (c.has_later.ensures.1 both) ∙ no))
