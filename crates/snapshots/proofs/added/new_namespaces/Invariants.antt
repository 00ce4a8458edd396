use Rattle.std.proofs.Common.{◌≡◌, ◌++◌, map}
use Rattle.std.specs.List.{AllByRecursion}
use Rattle.std.specs.Prelude.{IsTrue}
use Rattle.names.specs.Name.{is_namespace}
use Rattle.requests.specs.Namespaces.{namespaces_in_use}
use Rattle.snapshots.specs.Added.{namespace_manifest}
use Rattle.snapshots.proofs.added.new_namespaces.Given as goal

-- the manifests that were made, and then those of the names that are left
abbrev pub invariant-loop-name : goal.invariant-loop-name
invariant-loop-name l = record {
  made : l.manifests.items ++ map namespace_manifest (map (λ name. name.now) l.name-iterator) ≡ map namespace_manifest (namespaces_in_use l.view);
  sound : AllByRecursion (λ n. IsTrue (is_namespace n)) (map (λ name. name.now) l.name-iterator);
}
