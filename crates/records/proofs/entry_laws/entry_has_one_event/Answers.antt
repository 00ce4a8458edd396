use Rattle.records.proofs.One.{one_event}
use Rattle.records.proofs.entry_laws.entry_has_one_event.Goals as goal

pub returns : goal.returns
returns c = one_event
