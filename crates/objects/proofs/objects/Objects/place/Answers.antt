use Rattle.std.proofs.Common.{rules}
use Rattle.std.proofs.lemmas.Fn.{always_returns_same}
use Rattle.names.specs.Key.{key_cmp}
use Rattle.objects.proofs.Found.{searched}
use Rattle.objects.proofs.objects.Objects.place.Goals as goal

-- the closure compares an entry's key with the key, and the slice has the entries
pub returns : goal.returns
returns g c =
    let facts = c.binary_search_by.ensures in
    let by_key = facts.position (λ entry. key_cmp entry.0 c.args.key.now) (always_returns_same _ _ _ (λ a r q called. search rules)) in
    rw (← c.self.view_is, ← c.deref.ensures.value) (searched c.deref.result.now c.args.key.now _ (rw c.deref.ensures.value c.self.invariant) facts.bound by_key)
