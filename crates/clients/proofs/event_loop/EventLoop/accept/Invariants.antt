use Rattle.std.proofs.Common.{◌≡◌, List, Option, None}
use Rattle.std.specs.declared.time.Duration.{Duration}
use Rattle.clients.specs.Clients.{ServesOn}
use Rattle.clients.proofs.event_loop.EventLoop.accept.Given as goal

abbrev pub invariant-loop : goal.invariant-loop
invariant-loop g l = record {
  serves : (streams : List g.row.S.Denot) × g.N.Network.came l.fn.network l.network streams
      × (l.fn.dialect ≡ None → (idle : Option Duration) → ServesOn g.S.Stream.moved g.S.Stream.has_ended g.S.Stream.failures idle l.fn.self.places l.self.places streams);
  limits : (l.self.limits.idle ≡ l.fn.self.limits.idle) × (l.self.limits.compact_at ≡ l.fn.self.limits.compact_at);
}
