use Rattle.records.specs.EntryLaws.{bytes_beside}
use Rattle.records.proofs.Histories.{holdable}
use Rattle.records.proofs.entry_laws.histories_are_holdable.Goals as goal

pub returns : goal.returns
returns c rules h limit follow few = holdable rules limit bytes_beside h follow few
