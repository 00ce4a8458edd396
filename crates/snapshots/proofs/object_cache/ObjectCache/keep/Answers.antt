use Rattle.std.proofs.Common.{◌≡◌, ◌∙◌, sym, ap, subst, cond, List, Some}
use Rattle.std.specs.Ordering.{eq_by_cmp}
use Rattle.names.specs.Key.{Key, key_cmp}
use Rattle.objects.specs.Objects.{value_at}
use Rattle.snapshots.specs.declared.cached_object.CachedObject.{CachedObject}
use Rattle.snapshots.specs.ObjectCache.{AreAmong}
use Rattle.snapshots.proofs.Holding.{one_among}
use Rattle.snapshots.proofs.object_cache.ObjectCache.keep.Goals as goal

pub returns-clause-found : goal.returns-clause-found
returns-clause-found c objects is among =
    let entry = c.in_ok-entry.ensures.ok in
    let key_is : c.in_ok-entry.entry.0 ≡ c.args.key.now = ap (λ (o : Key × CachedObject). o.0) entry ∙ c.in_ok-clone.ensures.cases in
    let cached_is : c.in_ok-entry.entry.1 ≡ c.args.cached.now = ap (λ (o : Key × CachedObject). o.1) entry ∙ c.in_ok-clone-2.ensures.cases in
    let In : List (Key × CachedObject) → Type 0 = λ found. AreAmong found objects in
    one_among c.reserve.new.self.entries c.put-none.new.self.entries objects c.args.key.now c.args.cached.now
    (λ k. c.put-none.ensures.map k ∙ λ i. cond (eq_by_cmp key_cmp k (key_is i)) (Some (cached_is i)) (value_at k c.reserve.new.self.entries)) is
    (subst In (sym c.reserve.ensures.entries) (c.make_place.ensures.found objects among))

pub returns-in_err-entry-clause-found : goal.returns-in_err-entry-clause-found
returns-in_err-entry-clause-found c objects is among =
    let In : List (Key × CachedObject) → Type 0 = λ found. AreAmong found objects in
    subst In (sym c.reserve.ensures.entries) (c.make_place.ensures.found objects among)
