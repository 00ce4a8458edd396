use Rattle.records.specs.EntryLaws.{bytes_beside}
use Rattle.records.proofs.Ascending as proof
use Rattle.records.proofs.entry_laws.entries_ascend.Goals as goal

pub returns : goal.returns
returns c rules v can = proof.entries_ascend bytes_beside rules v can
