use Rattle.clients.specs.Places.{TakeTurns}
use Rattle.clients.proofs.places.Places.turn_all.Given as goal

abbrev pub invariant-loop-place : goal.invariant-loop-place
invariant-loop-place g l = TakeTurns g.S.Stream.moved g.S.Stream.has_ended g.S.Stream.failures l.fn.idle l.fn.self l.self
