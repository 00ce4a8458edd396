use Rattle.clients.specs.Places.{AreMarked}
use Rattle.clients.proofs.sockets.Sockets.mark.Given as goal

abbrev pub invariant-loop-event : goal.invariant-loop-event
invariant-loop-event l = AreMarked l.fn.places l.places
