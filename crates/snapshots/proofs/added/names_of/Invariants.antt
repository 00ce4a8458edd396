use Rattle.std.proofs.Common.{◌≡◌, map, take, drop, length}
use Rattle.std.specs.List.{AllByRecursion}
use Rattle.std.specs.Prelude.{IsTrue}
use Rattle.names.specs.Name.{is_namespace}
use Rattle.requests.specs.Namespaces.{names_among}
use Rattle.snapshots.proofs.added.names_of.Given as goal

-- the names of those that were looked at, from the last on
abbrev pub invariant-loop-held : goal.invariant-loop-held
invariant-loop-held l = record {
  left : l.held-iterator.iter.rest.now ≡ take (length l.held-iterator.iter.rest.now) l.objects;
  names : map (λ name. name.now) l.names.keys ≡ map (λ n. n.0) (names_among (drop (length l.held-iterator.iter.rest.now) l.objects));
  sound : AllByRecursion (λ n. IsTrue (is_namespace n)) (map (λ n. n.0) (names_among (drop (length l.held-iterator.iter.rest.now) l.objects)));
}
