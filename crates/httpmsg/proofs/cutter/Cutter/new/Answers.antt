use Rattle.std.proofs.Common.{ap, length}
use Rattle.httpmsg.proofs.Cuts.{awaits_first}
use Rattle.httpmsg.proofs.cutter.Cutter.new.Goals as goal

pub invariant_of-result : goal.invariant_of-result
invariant_of-result c = λ unended. awaits_first c.new.result.items (ap length c.new.ensures.items)
