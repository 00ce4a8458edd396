use Rattle.records.specs.EntryLaws.{bytes_beside}
use Rattle.records.proofs.Fitting.{entries_fit}
use Rattle.records.proofs.entry_laws.entries_fit_pages.Goals as goal

pub returns : goal.returns
returns c rules v limit can = entries_fit bytes_beside rules limit v can
