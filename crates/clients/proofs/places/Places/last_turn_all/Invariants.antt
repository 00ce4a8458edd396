use Rattle.clients.specs.Places.{TakeLastTurns}
use Rattle.clients.proofs.places.Places.last_turn_all.Given as goal

abbrev pub invariant-loop-place : goal.invariant-loop-place
invariant-loop-place g l = TakeLastTurns g.S.Stream.moved l.fn.self l.self
