use Rattle.std.proofs.Common.{rules, ◌≡◌, [], subst}
use Rattle.sessions.specs.State.{State}
use Rattle.clients.specs.Story.{GoesOn}
use Rattle.clients.proofs.Stories.{goes_none, goes_then, sends_go, looks_go}
use Rattle.clients.proofs.line.Line.look_on.Goals as goal

pub returns-then-not-self-clause-goes_on : goal.returns-then-not-self-clause-goes_on
returns-then-not-self-clause-goes_on g c plain =
    goes_none g.S.Stream.moved g.S.Stream.has_ended c.args.self.now.stream c.args.session.now (g.met.S.Stream.moved_none c.args.self.now.stream)

pub returns-clause-goes_on : goal.returns-clause-goes_on
returns-clause-goes_on g c plain =
    let stream = c.args.self.now.stream in
    let idle : c.args.session.now.waiting ≡ [] = search rules in
    let same : c.hand_over.new.session ≡ c.take_piece.new.self = c.hand_over.ensures.plain plain in
    let From : g.row.S.Denot → State → Type 0 = λ s t. GoesOn g.S.Stream.moved g.S.Stream.has_ended s c.send.new.self.stream t c.send.new.session in
    goes_then g.S.Stream.moved g.S.Stream.has_ended stream stream c.send.new.self.stream c.args.session.now c.take_piece.new.self c.send.new.session g.met.S.Stream.moved_then
    (looks_go g.S.Stream.moved g.S.Stream.has_ended stream c.args.session.now c.take_piece.new.self idle (g.met.S.Stream.moved_none stream) g.met.S.Stream.ended_then
    c.take_piece.ensures.over (λ read ms opened cut. c.take_piece.ensures.piece read ms opened cut))
    (subst (λ s. From s c.take_piece.new.self) c.hand_over.ensures.stream (subst (λ t. From c.hand_over.new.self.stream t) same
    (sends_go g.S.Stream.moved g.S.Stream.has_ended c.hand_over.new.self.stream c.send.new.self.stream c.hand_over.new.session c.send.new.session g.met.S.Stream.ended_then c.send.ensures.sent)))
