use Rattle.clients.specs.Places.{TakeTurns}
use Rattle.clients.proofs.places.Places.turn_answered.Given as goal

abbrev pub invariant-loop-index : goal.invariant-loop-index
invariant-loop-index g l = TakeTurns g.S.Stream.moved g.S.Stream.has_ended g.S.Stream.failures l.fn.idle l.fn.self l.self
