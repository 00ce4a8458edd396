use Rattle.snapshots.proofs.Holding.{none_among}
use Rattle.snapshots.proofs.object_cache.ObjectCache.make_place.Goals as goal

pub returns-clause-found : goal.returns-clause-found
returns-clause-found c objects among = none_among _ objects c.forget.ensures.found
