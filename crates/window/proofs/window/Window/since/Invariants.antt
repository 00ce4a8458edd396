use Rattle.std.proofs.Common.{◌≡◌, drop}
use Rattle.window.proofs.window.Window.since.Given as goal

abbrev pub invariant-loop : goal.invariant-loop
invariant-loop g l = l.events ≡ drop l.counter l.self.events
