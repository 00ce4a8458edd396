use Rattle.std.proofs.Common.{length}
use Rattle.plan.proofs.scope.+slot_of.Given as goal

abbrev pub decreases-slot_of : goal.decreases-slot_of
decreases-slot_of l = length l.locals.now
