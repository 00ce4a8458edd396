use Rattle.std.proofs.Common.{arith, ◌∙◌, ap, sym, subst}
use Rattle.clients.specs.Story.{SendsOn}
use Rattle.clients.proofs.Sending.{sends_once, sends_then}
use Rattle.clients.proofs.line.Line.send.Goals as goal

pub returns-in_err-note_sent-clause-sent : goal.returns-in_err-note_sent-clause-sent
returns-in_err-note_sent-clause-sent g c =
    let To : g.row.S.Denot → Type 0 = λ s. SendsOn g.S.Stream.moved c.args.self.now.stream s c.args.session.now c.send_once-moved.new.session in
    subst To (sym c.note_sent.ensures.stream)
    (sends_then g.S.Stream.moved c.args.self.now.stream c.loop.self.stream c.send_once-moved.new.stream c.args.session.now c.loop.session c.send_once-moved.new.session
    g.met.S.Stream.moved_then c.loop.invariant.sent
    (sends_once g.S.Stream.moved c.loop.self.stream c.send_once-moved.new.stream c.loop.session c.send_once-moved.new.session c.send_once-moved.ensures.sends))

pub loop-preserved : goal.loop-preserved
loop-preserved g c =
    let To : g.row.S.Denot → Type 0 = λ s. SendsOn g.S.Stream.moved c.args.self.now.stream s c.args.session.now c.send_once-moved.new.session in
    let same = ap g.S.Stream.failures c.note_sent.ensures.stream in
    record {
      sent = subst To (sym c.note_sent.ensures.stream)
          (sends_then g.S.Stream.moved c.args.self.now.stream c.loop.self.stream c.send_once-moved.new.stream c.args.session.now c.loop.session c.send_once-moved.new.session
          g.met.S.Stream.moved_then c.loop.invariant.sent
          (sends_once g.S.Stream.moved c.loop.self.stream c.send_once-moved.new.stream c.loop.session c.send_once-moved.new.session c.send_once-moved.ensures.sends));
      later = omega (arith, c.loop.invariant.later, c.send_once-moved.ensures.counts.later, same);
      behind = c.note_sent.ensures.later ∙ c.loop.invariant.behind;
    }
