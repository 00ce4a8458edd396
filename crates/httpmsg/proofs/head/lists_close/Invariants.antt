use Rattle.std.proofs.Common.{◌≡◌, length}
use Rattle.httpmsg.specs.Head.{lists_close}
use Rattle.httpmsg.proofs.head.lists_close.Given as goal

abbrev pub invariant-loop-comma : goal.invariant-loop-comma
invariant-loop-comma l = lists_close l.rest ≡ lists_close l.value

abbrev pub decreases-loop-comma : goal.decreases-loop-comma
decreases-loop-comma l = length l.rest
