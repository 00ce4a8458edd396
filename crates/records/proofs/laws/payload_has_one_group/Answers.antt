use Rattle.records.proofs.Writes.{one_group}
use Rattle.records.proofs.laws.payload_has_one_group.Goals as goal

pub returns : goal.returns
returns c = one_group
