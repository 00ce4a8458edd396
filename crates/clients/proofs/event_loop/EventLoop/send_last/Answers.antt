use Rattle.std.proofs.Common.{[]}
use Rattle.clients.proofs.Loops.{ends_same, ends_after, ends_last}
use Rattle.clients.proofs.event_loop.EventLoop.send_last.Goals as goal

pub loop-init : goal.loop-init
loop-init g c = record { came = g.met.N.Network.came_none c.args.network.now; ends = λ idle. ends_same g.S.Stream.moved g.S.Stream.has_ended g.S.Stream.failures idle c.args.self.now.places }

pub returns-in_default-look-clause-came : goal.returns-in_default-look-clause-came
returns-in_default-look-clause-came g c = g.met.N.Network.came_then c.args.network.now c.loop.network c.look.new.network [] [] c.loop.invariant.came c.look.ensures.came

pub returns-in_default-look-clause-ends : goal.returns-in_default-look-clause-ends
returns-in_default-look-clause-ends g c idle = ends_after g.S.Stream.moved g.S.Stream.has_ended g.S.Stream.failures idle c.args.self.now.places c.loop.self.places c.look.new.self.places (c.loop.invariant.ends idle) (c.look.ensures.ends idle)

pub returns-then-ge-clause-came : goal.returns-then-ge-clause-came
returns-then-ge-clause-came g c = g.met.N.Network.came_then c.args.network.now c.loop.network c.look.new.network [] [] c.loop.invariant.came c.look.ensures.came

pub returns-then-ge-clause-ends : goal.returns-then-ge-clause-ends
returns-then-ge-clause-ends g c idle = ends_after g.S.Stream.moved g.S.Stream.has_ended g.S.Stream.failures idle c.args.self.now.places c.loop.self.places c.look.new.self.places (c.loop.invariant.ends idle) (c.look.ensures.ends idle)

pub loop-preserved : goal.loop-preserved
loop-preserved g c = record {
  came = g.met.N.Network.came_then c.args.network.now c.loop.network c.look.new.network [] [] c.loop.invariant.came c.look.ensures.came;
  ends = λ idle.
      ends_after g.S.Stream.moved g.S.Stream.has_ended g.S.Stream.failures idle c.args.self.now.places c.look.new.self.places c.last_turn_all.new.self
      (ends_after g.S.Stream.moved g.S.Stream.has_ended g.S.Stream.failures idle c.args.self.now.places c.loop.self.places c.look.new.self.places (c.loop.invariant.ends idle) (c.look.ensures.ends idle))
      (ends_last g.S.Stream.moved g.S.Stream.has_ended g.S.Stream.failures idle g.met.S.Stream.moved_then g.met.S.Stream.ended_then c.look.new.self.places c.last_turn_all.new.self c.last_turn_all.ensures);
}
