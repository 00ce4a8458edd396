-- The next generation of a view that is upgraded.
use Rattle.std.proofs.Common.{arith, ◌≡◌, ◌∙◌, sym, ap, ℕ, ◌+◌, ◌<◌, ◌≤◌, ◌^◌, List, length, map, Result, Ok, Err}
use Rattle.std.proofs.lemmas.List.{length-map}
use Rattle.std.specs.Prelude.{IsErrOf}
use Rattle.std.specs.Result.{IsErrAnd}
use Rattle.checkpoint.proofs.Faults.{err_is}
use Rattle.names.proofs.Formats.{numbers_small}
use Rattle.names.specs.declared.format.Rules.{Rules}
use Rattle.objects.specs.declared.fault.Part.{Part}
use Rattle.objects.specs.declared.fault.LookupFault.{LookupFault}
use Rattle.objects.specs.declared.fault.LookupFault.TheVariants as lookup
use Rattle.requests.specs.Manifest.{Manifest}
use Rattle.histories.specs.View as seen
use Rattle.histories.specs.Wider.{floor_at}
use Rattle.decoded.specs.Decoded.{Decoded}
use Rattle.decoded.specs.Upgraded.{newest, upgraded_rules, new_names, upgraded_view, upgraded_count, upgraded_revision, HaveForm, HasRoomForUpgrade, IsOfOlderFormat}
use Rattle.snapshots.specs.Added.{with_added, new_of, namespace_manifest}
use Rattle.snapshots.specs.Keeping.{IsHeld}
use Rattle.snapshots.proofs.Upgrading.{news_of, upgraded_is}
use Rattle.paged.specs.declared.compacting.NextUpgraded.{NextUpgraded}
use Rattle.paged.specs.declared.fault.NextFault.{NextFault}
use Rattle.paged.specs.declared.fault.NextFault.TheVariants as fault
use Rattle.paged.specs.Upgrading.{IsUpgradeOf}

-- ---- a fault that is passed on

module _ {A : Type 0} (r : Result A NextFault) (given : LookupFault) (passed : IsErrAnd r (λ e. e ≡ fault.Lookup given)) where
  -- The fault of a look is the one that was given.
  pub lookup_was : {B : Type 0} {q : Result B LookupFault} (f : LookupFault) → q ≡ Err given → IsErrOf r (fault.Lookup f) → IsErrOf q f
  lookup_was f was told =
      let same : fault.Lookup f ≡ fault.Lookup given = err_is r (λ e. e ≡ fault.Lookup given) (fault.Lookup f) passed told in
      let is : given ≡ f = cc in
      was ∙ ap (λ (e : LookupFault). Err e) is

  -- It is no refusal.
  pub not_many : IsErrOf r fault.TooManyObjects → ⊥
  not_many told = let same : fault.TooManyObjects ≡ fault.Lookup given = err_is r (λ e. e ≡ fault.Lookup given) fault.TooManyObjects passed told in cc

  pub not_exhausted : IsErrOf r fault.RevisionExhausted → ⊥
  not_exhausted told = let same : fault.RevisionExhausted ≡ fault.Lookup given = err_is r (λ e. e ≡ fault.Lookup given) fault.RevisionExhausted passed told in cc

-- When out of memory no other fault of a look is told.
pub only_memory : {A P : Type 0} (r : Result A NextFault) → IsErrAnd r (λ e. e ≡ fault.Lookup lookup.Memory) → (f : LookupFault) → (f ≡ lookup.Memory → ⊥)
    → IsErrOf r (fault.Lookup f) → P
only_memory r passed f other told =
    let same : fault.Lookup f ≡ fault.Lookup lookup.Memory = err_is r (λ e. e ≡ fault.Lookup lookup.Memory) (fault.Lookup f) passed told in
    let is : f ≡ lookup.Memory = cc in
    absurd (other is)

module _ (old : Rules) (v : seen.View Decoded) where
  abbrev MayHold : Type 0
  MayHold = HaveForm (new_names old v) → HasRoomForUpgrade old v → IsHeld (upgraded_rules old v.revision) (upgraded_view old v)

  pub of_fault : (r : Result NextUpgraded NextFault) (f : NextFault) → IsErrAnd r (λ e. e ≡ f)
      → (f ≡ fault.TooManyObjects → (upgraded_rules old v.revision).object_limit < upgraded_count old v)
      → (f ≡ fault.RevisionExhausted
      → (upgraded_count old v ≤ (upgraded_rules old v.revision).object_limit) × ((upgraded_rules old v.revision).greatest_revision < upgraded_revision old v))
      → ((part : Part) → f ≡ fault.Lookup (lookup.Damaged part) → IsOfOlderFormat old v → MayHold → ⊥) → IsUpgradeOf old v r
  of_fault (Ok n) f passed many exhausted damaged = absurd passed
  of_fault (Err e) f passed many exhausted damaged =
      let r : Result NextUpgraded NextFault = Err e in
      let Passed : NextFault → Type 0 = λ x. x ≡ f in
      record {
        next = tt;
        too_many = λ told. many (sym (err_is r Passed fault.TooManyObjects passed told));
        exhausted = λ told. exhausted (sym (err_is r Passed fault.RevisionExhausted passed told));
        damaged = λ part told. damaged part (sym (err_is r Passed (fault.Lookup (lookup.Damaged part)) passed told));
      }

  -- Out of memory refuses nothing.
  pub of_memory : (r : Result NextUpgraded NextFault) → IsErrAnd r (λ e. e ≡ fault.Lookup lookup.Memory) → IsUpgradeOf old v r
  of_memory r passed = of_fault r (fault.Lookup lookup.Memory) passed (λ is. cc) (λ is. cc) (λ part is older may. cc)

-- no fault of a look but the one that is passed on
pub no_device : {A : Type 0} (r : Result A NextFault) (f : NextFault) → IsErrAnd r (λ e. e ≡ f) → (f ≡ fault.Lookup lookup.Device → ⊥)
    → IsErrOf r (fault.Lookup lookup.Device) → ⊥
no_device r f passed other told = other (sym (err_is r (λ e. e ≡ f) (fault.Lookup lookup.Device) passed told))

-- ---- room

pub fits : (old rules : Rules) (revision n : ℕ) → rules ≡ upgraded_rules old revision → n ≤ rules.greatest_revision → n < 2 ^ 64
fits old rules revision n rules_are some =
    let g : rules.greatest_revision ≡ (upgraded_rules old revision).greatest_revision = ap (λ (r : Rules). r.greatest_revision) rules_are in
    let small : (upgraded_rules old revision).greatest_revision < 2 ^ 63 = (numbers_small newest (floor_at old.window_events revision)).revisions in
    omega (arith, g, small, some)

module _ (old rules : Rules) (v : seen.View Decoded) (count : ℕ) (rules_are : rules ≡ upgraded_rules old v.revision) (count_is : count ≡ length (new_names old v)) where
  limit_is : rules.object_limit ≡ (upgraded_rules old v.revision).object_limit
  limit_is = ap (λ (r : Rules). r.object_limit) rules_are

  greatest_is : rules.greatest_revision ≡ (upgraded_rules old v.revision).greatest_revision
  greatest_is = ap (λ (r : Rules). r.greatest_revision) rules_are

  pub has_room : length v.objects + count ≤ rules.object_limit → v.revision + count ≤ rules.greatest_revision → HasRoomForUpgrade old v
  has_room objects revisions =
      let l = limit_is in
      let g = greatest_is in
      record { objects = omega arith; revisions = omega arith }

  pub too_many_for : rules.object_limit < length v.objects + count → (upgraded_rules old v.revision).object_limit < upgraded_count old v
  too_many_for many = let l = limit_is in omega arith

  pub exhausted_for : (length v.objects + count ≤ rules.object_limit) × (rules.greatest_revision < v.revision + count)
      → (upgraded_count old v ≤ (upgraded_rules old v.revision).object_limit) × ((upgraded_rules old v.revision).greatest_revision < upgraded_revision old v)
  exhausted_for both =
      let l = limit_is in
      let g = greatest_is in
      (omega arith, omega arith)

-- ---- the view with the Namespaces

module _ (old : Rules) (v : seen.View Decoded) (ms : List Manifest) (are : ms ≡ map namespace_manifest (new_names old v)) where
  pub count_of : length ms ≡ length (new_names old v)
  count_of = ap (λ (all : List Manifest). length all) are ∙ length-map (new_names old v) namespace_manifest

  news_are : map new_of ms ≡ news_of (new_names old v)
  news_are = ap (map new_of) are

  pub count_of_news : length (map new_of ms) ≡ length (new_names old v)
  count_of_news = length-map ms new_of ∙ count_of

  -- It is the one that an upgrade leaves.
  pub with_namespaces : (places : ℕ) → places ≡ (upgraded_rules old v.revision).window_events → IsOfOlderFormat old v
      → with_added places v (map new_of ms) ≡ upgraded_view old v
  with_namespaces places same older = (λ i. with_added (same i) v (news_are i)) ∙ upgraded_is old v older
