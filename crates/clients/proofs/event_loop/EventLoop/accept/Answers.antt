use Rattle.std.proofs.Common.{refl, ◌∙◌, ◌++◌, []}
use Rattle.clients.proofs.Loops.{serves_none, serves_then}
use Rattle.clients.proofs.event_loop.EventLoop.accept.Goals as goal

pub loop-init : goal.loop-init
loop-init g c = record {
  serves = ([], g.met.N.Network.came_none c.args.network.now, (λ plain idle. serves_none g.S.Stream.moved g.S.Stream.has_ended g.S.Stream.failures idle c.args.self.now.places));
  limits = (refl, refl);
}

pub returns-then-not-accept_one-clause-serves : goal.returns-then-not-accept_one-clause-serves
returns-then-not-accept_one-clause-serves g c =
    let before = c.loop.invariant.serves in
    let one = c.accept_one.ensures.serves in (
      before.0 ++ one.0,
      g.met.N.Network.came_then c.args.network.now c.loop.network c.accept_one.new.network before.0 one.0 before.1 one.1,
      (λ plain idle. serves_then g.S.Stream.moved g.S.Stream.has_ended g.S.Stream.failures idle c.args.self.now.places c.loop.self.places c.accept_one.new.self.places before.0 one.0 (before.2 plain idle) (one.2 plain idle)),
    )

pub loop-preserved : goal.loop-preserved
loop-preserved g c =
    let before = c.loop.invariant.serves in
    let one = c.accept_one.ensures.serves in
    record {
      serves = (
        before.0 ++ one.0,
        g.met.N.Network.came_then c.args.network.now c.loop.network c.accept_one.new.network before.0 one.0 before.1 one.1,
        (λ plain idle. serves_then g.S.Stream.moved g.S.Stream.has_ended g.S.Stream.failures idle c.args.self.now.places c.loop.self.places c.accept_one.new.self.places before.0 one.0 (before.2 plain idle) (one.2 plain idle)),
      );
      limits = (c.accept_one.ensures.limits.0 ∙ c.loop.invariant.limits.0, c.accept_one.ensures.limits.1 ∙ c.loop.invariant.limits.1);
    }
