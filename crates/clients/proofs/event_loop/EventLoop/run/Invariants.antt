use Rattle.std.specs.Prelude.{◌≡◌, false, None}
use Rattle.names.specs.declared.format.Rules.{Rules}
use Rattle.decoded.specs.Standing.{History, View}
use Rattle.histories.specs.View.{view}
use Rattle.durable.specs.Settled.{IsSettledAt}
use Rattle.api.specs.Answers.{ShowsAt}
use Rattle.clients.specs.Clients.{HasServedClients}
use Rattle.clients.proofs.event_loop.EventLoop.run.Given as goal

abbrev pub invariant-loop : goal.invariant-loop
invariant-loop g l = record {
  times : l.compacting.times ≡ l.fn.self.limits.compact_at;
  idle : l.self.limits.idle ≡ l.fn.self.limits.idle;
  dialect : l.fn.self.limits.is_kubernetes ≡ false → l.dialect ≡ None;
  served : l.fn.self.limits.compact_at ≡ None → (rules : Rules) (v : View) → ShowsAt rules l.fn.store v
      → HasServedClients g.S.Stream.moved g.S.Stream.has_ended g.S.Stream.failures l.fn.self.limits.idle (g.N.Network.came l.fn.network l.network) (l.fn.self.limits.is_kubernetes ≡ false) rules l.fn.store l.store v
      l.fn.self.places l.self.places;
  settled : (rules : Rules) (h : History) → IsSettledAt rules l.fn.store h
      → HasServedClients g.S.Stream.moved g.S.Stream.has_ended g.S.Stream.failures l.fn.self.limits.idle (g.N.Network.came l.fn.network l.network) (l.fn.self.limits.is_kubernetes ≡ false) rules l.fn.store l.store (view rules h)
      l.fn.self.places l.self.places;
}
