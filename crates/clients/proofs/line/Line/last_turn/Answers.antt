use Rattle.std.proofs.Common.{rules, ◌≡◌, ◌∙◌, sym, true≢false, false}
use Rattle.sessions.specs.State.{is_open}
use Rattle.clients.proofs.Sending.{forgets, sends_then}
use Rattle.clients.proofs.line.Line.last_turn.Goals as goal

pub returns-then-is_empty-clause-sent : goal.returns-then-is_empty-clause-sent
returns-then-is_empty-clause-sent g c =
    let closed : is_open c.send.new.session.phase ≡ false = search rules in
    let drained = c.drain.ensures.forgets in
    sends_then g.S.Stream.moved c.args.self.now.stream c.send.new.self.stream c.drain.new.self.stream c.args.session.now c.send.new.session c.send.new.session g.met.S.Stream.moved_then c.send.ensures.sent
    (forgets g.S.Stream.moved c.send.new.self.stream c.drain.new.self.stream c.send.new.session drained.0 (λ opened. true≢false (sym opened ∙ closed)) drained.1)
