use Rattle.records.specs.EntryLaws.{bytes_beside}
use Rattle.snapshots.proofs.Views.{view_holds}
use Rattle.snapshots.proofs.object_cache_laws.views_hold_objects.Goals as goal

pub returns : goal.returns
returns c = view_holds bytes_beside
