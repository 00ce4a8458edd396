-- A step prepared over what lies in pages, as a base has it.
use Rattle.std.specs.Prelude.{◌≡◌, false, List, Result, IfOk}
use Rattle.std.proofs.Common.{sym, subst}
use Rattle.device.specs.declared.device.Device.{Ghosts}
use Rattle.device.specs.Disk.{Disk}
use Rattle.names.specs.Key.{Key}
use Rattle.requests.specs.Request.{Request}
use Rattle.histories.specs.declared.stored.Stored.{Stored}
use Rattle.holdings.specs.Holdings.{State}
use Rattle.snapshots.specs.declared.base.Base.{Base}
use Rattle.snapshots.specs.declared.object_cache.ObjectCache.{ObjectCache}
use Rattle.snapshots.specs.Base.{Lies, HoldsBase}
use Rattle.decoded.specs.Decoded.{Decoded}
use Rattle.apicore.specs.Prepared.{IsPrepared}
use Rattle.apicore.specs.declared.prepared.Prepared.{Prepared}
use Rattle.apicore.proofs.Deciding.{if_ok}
use Rattle.decoded.proofs.Over.{over_kept}
use Rattle.paged.specs.declared.without_plans.WithoutPlans.{WithoutPlans}
use Rattle.paged.specs.Lying.{made_bare, held_bare, LiesBelow}

abbrev pub Objects : Type 0
Objects = List (Key × Stored Decoded)

-- what lies below is the same, whatever says how it is made: there is nothing to know of it
any_bare : {D : Type 0} (disk : Disk D) (device : D) (cache : ObjectCache) (one other : WithoutPlans) (objects : Objects) → Lies made_bare held_bare disk device cache one objects
    → Lies made_bare held_bare disk device cache other objects
any_bare disk device cache one other objects lies = record { all = lies.all; caches = lies.caches; are = lies.are }

-- these objects are held by a base, beside whose documents stands what they spell
abbrev pub HoldsBare : {D : Type 0} {g : Ghosts D} → Base D WithoutPlans g → Objects → Type 0
HoldsBare base objects = HoldsBase made_bare held_bare base objects

module _ {D : Type 0} {g : Ghosts D} (base : Base D WithoutPlans g) (device : D) (cache : ObjectCache) (device_is : base.device.now ≡ device) (cache_is : base.cache.now ≡ cache) (objects : Objects) where
  -- What lies in pages is held by a base over them,
  pub base_holds : base.is_damaged ≡ false → LiesBelow g.disk device cache objects → HoldsBare base objects
  base_holds undamaged below =
      let On : D → Type 0 = λ d. Lies made_bare held_bare g.disk d base.cache.now base.making objects in
      let Of : ObjectCache → Type 0 = λ s. Lies made_bare held_bare g.disk device s base.making objects in
      record { whole = undamaged; lies = subst On (sym device_is) (subst Of (sym cache_is) (below base.making)) }

  -- and what the base holds lies there.
  pub base_lies : HoldsBare base objects → LiesBelow g.disk device cache objects
  base_lies holds = λ bare.
      let On : D → Type 0 = λ d. Lies made_bare held_bare g.disk d base.cache.now base.making objects in
      let Of : ObjectCache → Type 0 = λ s. Lies made_bare held_bare g.disk device s base.making objects in
      any_bare g.disk device cache base.making bare objects (subst Of cache_is (subst On device_is holds.lies))

-- A step that is prepared over what one source holds is prepared over what another one holds, where the first holds all that the other does.
pub prepared_over : (first second : Objects → Type 0) (core : State Decoded) (r : Request) {E : Type 0} (result : Result Prepared E) → ((objects : Objects) → second objects → first objects)
    → IfOk result (IsPrepared first core r) → IfOk result (IsPrepared second core r)
prepared_over first second core r result holds prepared =
    if_ok result (IsPrepared first core r) (IsPrepared second core r)
    (λ p is. record {
      specification = is.specification;
      read = is.read;
      step = λ held v over. is.step held v (over_kept second first core held v holds over);
    })
    prepared
