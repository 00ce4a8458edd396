use Rattle.std.proofs.Common.{◌∙◌, ap, Option, option_map}
use Rattle.sessions.specs.Restating.{Queue}
use Rattle.clients.proofs.Stories.{goes_none, goes_then, sends_go}
use Rattle.clients.proofs.line.Line.turn.Goals as goal

pub returns-then-is_lost-clause-goes_on : goal.returns-then-is_lost-clause-goes_on
returns-then-is_lost-clause-goes_on g c plain = goes_none g.S.Stream.moved g.S.Stream.has_ended c.args.self.now.stream c.args.session.now (g.met.S.Stream.moved_none c.args.self.now.stream)

pub returns-in_err-send-clause-goes_on : goal.returns-in_err-send-clause-goes_on
returns-in_err-send-clause-goes_on g c plain =
    let stream = c.args.self.now.stream in
    sends_go g.S.Stream.moved g.S.Stream.has_ended stream c.send.new.self.stream c.args.session.now c.send.new.session g.met.S.Stream.ended_then c.send.ensures.sent

pub returns-in_err-give_next-clause-goes_on : goal.returns-in_err-give_next-clause-goes_on
returns-in_err-give_next-clause-goes_on g c plain =
    let stream = c.args.self.now.stream in
    let sent_plain = ap (λ (o : Option Queue). option_map (λ (q : Queue). q.format) o) c.send.ensures.behind ∙ plain in
    goes_then g.S.Stream.moved g.S.Stream.has_ended stream c.send.new.self.stream c.give_next.new.self.stream c.args.session.now c.send.new.session c.give_next.new.session g.met.S.Stream.moved_then
    (sends_go g.S.Stream.moved g.S.Stream.has_ended stream c.send.new.self.stream c.args.session.now c.send.new.session g.met.S.Stream.ended_then c.send.ensures.sent)
    (c.give_next.ensures.goes_on sent_plain)

pub returns-in_err-look_on-clause-goes_on : goal.returns-in_err-look_on-clause-goes_on
returns-in_err-look_on-clause-goes_on g c plain =
    let stream = c.args.self.now.stream in
    let sent_plain = ap (λ (o : Option Queue). option_map (λ (q : Queue). q.format) o) c.send.ensures.behind ∙ plain in
    goes_then g.S.Stream.moved g.S.Stream.has_ended stream c.give_next.new.self.stream c.look_on.new.self.stream c.args.session.now c.give_next.new.session c.look_on.new.session g.met.S.Stream.moved_then
    (goes_then g.S.Stream.moved g.S.Stream.has_ended stream c.send.new.self.stream c.give_next.new.self.stream c.args.session.now c.send.new.session c.give_next.new.session g.met.S.Stream.moved_then
    (sends_go g.S.Stream.moved g.S.Stream.has_ended stream c.send.new.self.stream c.args.session.now c.send.new.session g.met.S.Stream.ended_then c.send.ensures.sent)
    (c.give_next.ensures.goes_on sent_plain))
    (c.look_on.ensures.goes_on (c.give_next.ensures.dialect ∙ sent_plain))

pub returns-in_err-attend-clause-goes_on : goal.returns-in_err-attend-clause-goes_on
returns-in_err-attend-clause-goes_on g c plain =
    let stream = c.args.self.now.stream in
    let sent_plain = ap (λ (o : Option Queue). option_map (λ (q : Queue). q.format) o) c.send.ensures.behind ∙ plain in
    goes_then g.S.Stream.moved g.S.Stream.has_ended stream c.look_on.new.self.stream c.attend.new.self.stream c.args.session.now c.look_on.new.session c.attend.new.session g.met.S.Stream.moved_then
    (goes_then g.S.Stream.moved g.S.Stream.has_ended stream c.give_next.new.self.stream c.look_on.new.self.stream c.args.session.now c.give_next.new.session c.look_on.new.session g.met.S.Stream.moved_then
    (goes_then g.S.Stream.moved g.S.Stream.has_ended stream c.send.new.self.stream c.give_next.new.self.stream c.args.session.now c.send.new.session c.give_next.new.session g.met.S.Stream.moved_then
    (sends_go g.S.Stream.moved g.S.Stream.has_ended stream c.send.new.self.stream c.args.session.now c.send.new.session g.met.S.Stream.ended_then c.send.ensures.sent)
    (c.give_next.ensures.goes_on sent_plain))
    (c.look_on.ensures.goes_on (c.give_next.ensures.dialect ∙ sent_plain)))
    (c.attend.ensures.goes_on (c.look_on.ensures.dialect ∙ c.give_next.ensures.dialect ∙ sent_plain))

pub returns-then-is_late-clause-goes_on : goal.returns-then-is_late-clause-goes_on
returns-then-is_late-clause-goes_on g c plain =
    let stream = c.args.self.now.stream in
    let sent_plain = ap (λ (o : Option Queue). option_map (λ (q : Queue). q.format) o) c.send.ensures.behind ∙ plain in
    goes_then g.S.Stream.moved g.S.Stream.has_ended stream c.look_on.new.self.stream c.attend.new.self.stream c.args.session.now c.look_on.new.session c.attend.new.session g.met.S.Stream.moved_then
    (goes_then g.S.Stream.moved g.S.Stream.has_ended stream c.give_next.new.self.stream c.look_on.new.self.stream c.args.session.now c.give_next.new.session c.look_on.new.session g.met.S.Stream.moved_then
    (goes_then g.S.Stream.moved g.S.Stream.has_ended stream c.send.new.self.stream c.give_next.new.self.stream c.args.session.now c.send.new.session c.give_next.new.session g.met.S.Stream.moved_then
    (sends_go g.S.Stream.moved g.S.Stream.has_ended stream c.send.new.self.stream c.args.session.now c.send.new.session g.met.S.Stream.ended_then c.send.ensures.sent)
    (c.give_next.ensures.goes_on sent_plain))
    (c.look_on.ensures.goes_on (c.give_next.ensures.dialect ∙ sent_plain)))
    (c.attend.ensures.goes_on (c.look_on.ensures.dialect ∙ c.give_next.ensures.dialect ∙ sent_plain))

pub returns-clause-goes_on : goal.returns-clause-goes_on
returns-clause-goes_on g c plain =
    let stream = c.args.self.now.stream in
    let sent_plain = ap (λ (o : Option Queue). option_map (λ (q : Queue). q.format) o) c.send.ensures.behind ∙ plain in
    goes_then g.S.Stream.moved g.S.Stream.has_ended stream c.look_on.new.self.stream c.attend.new.self.stream c.args.session.now c.look_on.new.session c.attend.new.session g.met.S.Stream.moved_then
    (goes_then g.S.Stream.moved g.S.Stream.has_ended stream c.give_next.new.self.stream c.look_on.new.self.stream c.args.session.now c.give_next.new.session c.look_on.new.session g.met.S.Stream.moved_then
    (goes_then g.S.Stream.moved g.S.Stream.has_ended stream c.send.new.self.stream c.give_next.new.self.stream c.args.session.now c.send.new.session c.give_next.new.session g.met.S.Stream.moved_then
    (sends_go g.S.Stream.moved g.S.Stream.has_ended stream c.send.new.self.stream c.args.session.now c.send.new.session g.met.S.Stream.ended_then c.send.ensures.sent)
    (c.give_next.ensures.goes_on sent_plain))
    (c.look_on.ensures.goes_on (c.give_next.ensures.dialect ∙ sent_plain)))
    (c.attend.ensures.goes_on (c.look_on.ensures.dialect ∙ c.give_next.ensures.dialect ∙ sent_plain))
