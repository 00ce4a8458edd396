use Rattle.std.proofs.Common.{◌≡◌, ◌+◌, ◌++◌, map, length}
use Rattle.std.specs.List.{AllByRecursion}
use Rattle.std.specs.Vec.Iter.{into_iter_items}
use Rattle.requests.specs.Manifest.{BodyHasForm}
use Rattle.snapshots.specs.Added.{events_from, new_of, objects_from}
use Rattle.snapshots.proofs.added.Added.of.Given as goal

-- what was made, and then what the manifests that are left ask for
abbrev pub invariant-loop-manifest : goal.invariant-loop-manifest
invariant-loop-manifest l =
    let rest = into_iter_items l.manifest-iterator in
    record {
      room : l.last + length rest ≡ l.fn.revision + length l.fn.manifests.items;
      objects : l.objects.items ++ objects_from l.last (map new_of rest) ≡ objects_from l.fn.revision (map new_of l.fn.manifests.items);
      events : l.events.items ++ events_from l.last (map new_of rest) ≡ events_from l.fn.revision (map new_of l.fn.manifests.items);
      form : AllByRecursion (λ m. BodyHasForm m.key m.body) rest → AllByRecursion (λ m. BodyHasForm m.key m.body) l.fn.manifests.items;
    }
