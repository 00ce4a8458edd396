use Rattle.std.proofs.Common.{[], Option}
use Rattle.std.specs.declared.time.Duration.{Duration}
use Rattle.clients.specs.Clients.{EndsOn}
use Rattle.clients.proofs.event_loop.EventLoop.send_last.Given as goal

abbrev pub invariant-loop : goal.invariant-loop
invariant-loop g l = record {
  came : g.N.Network.came l.fn.network l.network [];
  ends : (idle : Option Duration) → EndsOn g.S.Stream.moved g.S.Stream.has_ended g.S.Stream.failures idle l.fn.self.places l.self.places;
}
