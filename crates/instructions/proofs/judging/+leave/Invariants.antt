use Rattle.std.proofs.Common.{vec_len}
use Rattle.instructions.proofs.judging.+leave.Given as goal

abbrev pub decreases-leave : goal.decreases-leave
decreases-leave l = vec_len l.outer.now
