use Rattle.std.proofs.Common.{◌≡◌, length}
use Rattle.httpmsg.proofs.Flows.{HasTaken}
use Rattle.httpmsg.proofs.streams.write_all.Given as goal

abbrev pub invariant-loop-rest : goal.invariant-loop-rest
invariant-loop-rest g l =
    HasTaken g.O.Output.took l.fn.output l.output l.bytes l.rest × (g.O.Output.failures l.output ≡ g.O.Output.failures l.fn.output)

abbrev pub decreases-loop-rest : goal.decreases-loop-rest
decreases-loop-rest g l = length l.rest
