-- The history that a device holds where its store is upgraded: as it was, or upgraded.
use Rattle.std.proofs.Common.{arith, ◌≡◌, ◌≢◌, ◌≤◌, ◌∙◌, ap, sym, subst, refl, ◌⊎◌, inl, inr, Result, Err, IsErrOf}
use Rattle.device.specs.Disk.{Disk, HasFailed, LeavesOnly}
use Rattle.device.specs.Run.{Ran}
use Rattle.device.specs.Step.{Same}
use Rattle.device.specs.declared.device.Device.{Ghosts}
use Rattle.device.proofs.Moments.{weaker, followed_by}
use Rattle.names.specs.declared.format.Rules.{Rules}
use Rattle.decoded.specs.Standing.{History}
use Rattle.decoded.specs.Upgraded.{rules_behind, upgraded_history}
use Rattle.durable.specs.declared.fault.Damage.{Damage}
use Rattle.durable.specs.declared.fault.Fault.{Fault}
use Rattle.durable.specs.declared.fault.Fault.TheVariants as fault
use Rattle.durable.specs.declared.store.Store.{Store}
use Rattle.durable.specs.declared.upgraded.UpgradeFault.{UpgradeFault}
use Rattle.durable.specs.declared.upgraded.UpgradeFault.TheVariants as upgrade
use Rattle.durable.specs.Ready.{HoldsHistory}
use Rattle.durable.specs.Settled.{device_of, IsSettledAt}
use Rattle.durable.specs.Stands.{StandsFor}
use Rattle.durable.specs.Upgraded.{StandsForEither, IsLeftEither, IsUnchanged, IsRefusal, of_fault}
use Rattle.durable.proofs.Answering.{held}
use Rattle.store.specs.Upkeep.{KeepsHistory, IsUpgraded, IsEither}
use Rattle.store.proofs.Keeping.{kept_read}

-- ---- no store was opened

abbrev pub WasRefused : Fault → Type 0
WasRefused f = (f ≡ fault.Device) ⊎ (f ≡ fault.Memory)

pub opening_whole : (f : Fault) (damage : Damage) → WasRefused f → of_fault f ≡ upgrade.Damaged damage → ⊥
opening_whole f damage (inl is) told = let never : upgrade.Device ≡ upgrade.Damaged damage = ap of_fault (sym is) ∙ told in cc
opening_whole f damage (inr is) told = let never : upgrade.Memory ≡ upgrade.Damaged damage = ap of_fault (sym is) ∙ told in cc

unrefused_device : IsRefusal upgrade.Device → ⊥
unrefused_device (inl told) = cc
unrefused_device (inr (inl told)) = cc
unrefused_device (inr (inr told)) = cc

unrefused_memory : IsRefusal upgrade.Memory → ⊥
unrefused_memory (inl told) = cc
unrefused_memory (inr (inl told)) = cc
unrefused_memory (inr (inr told)) = cc

pub opening_unrefused : (f : Fault) → WasRefused f → IsRefusal (of_fault f) → ⊥
opening_unrefused f (inl is) told = unrefused_device (subst (λ x. IsRefusal (of_fault x)) is told)
opening_unrefused f (inr is) told = unrefused_memory (subst (λ x. IsRefusal (of_fault x)) is told)

-- where nothing changed, memory was refused
pub opening_unfailed : (f : Fault) → (f ≢ fault.Failed) × (f ≢ fault.Exhausted) → (of_fault f ≡ upgrade.Memory) ⊎ IsRefusal (of_fault f) → f ≡ fault.Memory
opening_unfailed fault.Memory never told = refl
opening_unfailed fault.Device never (inl is) = cc
opening_unfailed fault.Device never (inr told) = absurd (unrefused_device told)
opening_unfailed (fault.Damaged damage) never (inl is) = cc
opening_unfailed (fault.Damaged damage) never (inr (inl is)) = cc
opening_unfailed (fault.Damaged damage) never (inr (inr (inl is))) = cc
opening_unfailed (fault.Damaged damage) never (inr (inr (inr is))) = cc
opening_unfailed fault.Failed never told = absurd (never.0 refl)
opening_unfailed fault.Exhausted never told = absurd (never.1 refl)

-- and so it is told by the call of a store that was opened
pub unchanged_by : {T : Type 0} (r : Result T UpgradeFault) (f : UpgradeFault) → r ≡ Err f → (f ≡ upgrade.Memory) ⊎ IsRefusal f → IsUnchanged r
unchanged_by r f was (inl is) = inl (was ∙ ap Err is)
unchanged_by r f was (inr (inl is)) = inr (inr (inr (was ∙ ap Err is)))
unchanged_by r f was (inr (inr (inl is))) = inr (inl (was ∙ ap Err is))
unchanged_by r f was (inr (inr (inr is))) = inr (inr (inl (was ∙ ap Err is)))

-- a device that failed after it was opened failed
pub failed_since : {D : Type 0} (disk : Disk D) (old mid new : D) → disk.failures old ≤ disk.failures mid → HasFailed disk mid new → HasFailed disk old new
failed_since disk old mid new count (inl more) = inl (omega (arith, count, more))
failed_since disk old mid new count (inr all) = inr all

-- ---- a history that is held is held as it was, or upgraded

pub either_kept : {D : Type 0} (rules : Rules) (disk : Disk D) (old new : D) (h : History) → KeepsHistory rules disk old new h → IsEither rules disk old new h
either_kept rules disk old new h kept = record {
  keeps = kept.holds.keeps;
  read = inl kept.holds.read;
  left = λ c left. inl (kept.holds.left c left);
  any_moment = weaker disk old new (λ c. StandsFor rules c h) (StandsForEither rules h) kept.any_moment (λ c stands. inl stands);
}

-- ---- a store was opened on the device, and upgraded

module _ {D : Type 0} {g : Ghosts D} (rules : Rules) (old : D) (opened new : Store D g) (h : History) (holds : HoldsHistory rules g.disk old h)
    (opening : LeavesOnly g.disk old (device_of opened) (g.disk.left old)) where
  either_since : LeavesOnly g.disk (device_of opened) (device_of new) (StandsForEither rules h) → LeavesOnly g.disk old (device_of new) (StandsForEither rules h)
  either_since calling =
      followed_by g.disk old (device_of opened) (device_of new) (g.disk.left old) (StandsForEither rules h) (StandsForEither rules h) opening calling
      (λ c left. inl (holds.left c left)) (λ c either. either)

  -- it is settled at the upgraded history
  pub upgraded_settled : LeavesOnly g.disk (device_of opened) (device_of new) (StandsForEither rules h) → IsSettledAt (rules_behind rules h) new (upgraded_history rules h)
      → (left : D) → left ≡ device_of new → IsUpgraded rules g.disk old left h
  upgraded_settled calling settled left is =
      let At : D → Type 0 = λ d. IsUpgraded rules g.disk old d h in
      subst At (sym is) (record { holds = held (rules_behind rules h) new (upgraded_history rules h) settled; any_moment = either_since calling })

  -- its device failed
  either_left : LeavesOnly g.disk (device_of opened) (device_of new) (StandsForEither rules h) → IsLeftEither rules new h
      → (left : D) → left ≡ device_of new → IsEither rules g.disk old left h
  either_left calling stopped left is =
      let At : D → Type 0 = λ d. IsEither rules g.disk old d h in
      subst At (sym is) (record { keeps = stopped.keeps; read = stopped.read; left = stopped.left; any_moment = either_since calling })

  module _ {T : Type 0} (r : Result T UpgradeFault) (settled : IsSettledAt rules opened h) (unchanged : IsUnchanged r → Ran g.disk (device_of opened) (device_of new) Same)
      (undamaged : (damage : Damage) → IsErrOf r (upgrade.Damaged damage) → ⊥) (never : IsErrOf r upgrade.Failed → ⊥) (left : D) (same : left ≡ device_of new) where
    read_only : IsUnchanged r → KeepsHistory rules g.disk old left h
    read_only is = kept_read rules old opened new h holds opening settled (unchanged is) left same

    -- why it was not upgraded, where the device did not fail
    pub unfailed_kept : (f : UpgradeFault) → r ≡ Err f → (f ≡ upgrade.Device → ⊥) → KeepsHistory rules g.disk old left h
    unfailed_kept upgrade.Device is other = absurd (other refl)
    unfailed_kept upgrade.Memory is other = read_only (inl is)
    unfailed_kept upgrade.TooManyObjects is other = read_only (inr (inl is))
    unfailed_kept upgrade.RevisionExhausted is other = read_only (inr (inr (inl is)))
    unfailed_kept upgrade.NotOld is other = read_only (inr (inr (inr is)))
    unfailed_kept (upgrade.Damaged damage) is other = absurd (undamaged damage is)
    unfailed_kept upgrade.Failed is other = absurd (never is)

    -- and where it may have
    pub failed_either : LeavesOnly g.disk (device_of opened) (device_of new) (StandsForEither rules h) → (IsErrOf r upgrade.Device → IsLeftEither rules new h)
        → (f : UpgradeFault) → r ≡ Err f → IsEither rules g.disk old left h
    failed_either calling stopped upgrade.Device is = either_left calling (stopped is) left same
    failed_either calling stopped upgrade.Memory is = either_kept rules g.disk old left h (read_only (inl is))
    failed_either calling stopped upgrade.TooManyObjects is = either_kept rules g.disk old left h (read_only (inr (inl is)))
    failed_either calling stopped upgrade.RevisionExhausted is = either_kept rules g.disk old left h (read_only (inr (inr (inl is))))
    failed_either calling stopped upgrade.NotOld is = either_kept rules g.disk old left h (read_only (inr (inr (inr is))))
    failed_either calling stopped (upgrade.Damaged damage) is = absurd (undamaged damage is)
    failed_either calling stopped upgrade.Failed is = absurd (never is)
