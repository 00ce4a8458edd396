use Rattle.records.proofs.One.{one_object}
use Rattle.records.proofs.entry_laws.entry_has_one_object.Goals as goal

pub returns : goal.returns
returns c = one_object
