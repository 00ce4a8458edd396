use Rattle.records.specs.EntryLaws.{bytes_beside}
use Rattle.snapshots.proofs.Sieving.{kept_of_view, objects_of_view}
use Rattle.snapshots.proofs.object_cache_laws.kept_are_of_a_view.Goals as goal

pub returns : goal.returns
returns c = λ chosen v all. (kept_of_view bytes_beside chosen v all, objects_of_view bytes_beside v)
