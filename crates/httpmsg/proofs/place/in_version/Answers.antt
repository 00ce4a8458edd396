use Rattle.std.proofs.Common.{arith}
use Rattle.httpmsg.proofs.Places.{version_first, version_last}
use Rattle.httpmsg.proofs.place.in_version.Goals as goal

pub returns-then-byte-count : goal.returns-then-byte-count
returns-then-byte-count c = λ text follows. version_first c.args.count c.args.byte text c.if-count.true c.if-byte-count.true follows

pub returns-then-byte-eq49 : goal.returns-then-byte-eq49
returns-then-byte-eq49 c = λ text follows.
    version_last c.args.count c.args.byte text c.if-count.false (omega (arith, c.if-byte-eq49.either)) (omega (arith, c.if-byte-eq49.either)) follows
