-- A store whose upgraded generation is told, and then written.
use Rattle.std.proofs.Common.{◌≡◌, ◌∙◌, sym, ap, subst, refl, ◌⊎◌, inl, inr, ℕ, List, true, false, Ok, Err}
use Rattle.device.specs.declared.device.Device.{Ghosts}
use Rattle.device.specs.Disk.{LeavesOnly}
use Rattle.device.specs.Run.{Ran, Stands}
use Rattle.device.specs.Step.{Same, After}
use Rattle.device.proofs.Moments.{followed_by, weaker}
use Rattle.names.specs.declared.format.Rules.{Rules}
use Rattle.objects.specs.declared.fault.LookupFault.{LookupFault}
use Rattle.objects.specs.declared.fault.LookupFault.TheVariants as Looks
use Rattle.objects.specs.declared.fault.Part.{Part}
use Rattle.histories.specs.View.{view}
use Rattle.holdings.specs.Holdings.{State, Shows}
use Rattle.decoded.specs.Decoded.{Decoded}
use Rattle.decoded.specs.Standing.{History, View, with_plans}
use Rattle.decoded.specs.Upgraded.{rules_behind, upgraded_history}
use Rattle.paged.specs.declared.compacting.NextCheckpoint.{NextCheckpoint}
use Rattle.paged.specs.Lying.{base_of}
use Rattle.durable.specs.declared.fault.Damage.{Damage}
use Rattle.durable.specs.declared.fault.Fault.{Fault}
use Rattle.durable.specs.declared.fault.Fault.TheVariants as fault
use Rattle.durable.specs.declared.upgraded.UpgradeFault.{UpgradeFault}
use Rattle.durable.specs.declared.upgraded.UpgradeFault.TheVariants as upgrade
use Rattle.durable.specs.declared.store.Store.{Store}
use Rattle.durable.specs.Faults.{of_lookup_fault, goes_on_after}
use Rattle.durable.specs.Stands.{StandsFor}
use Rattle.durable.specs.Settled.{device_of, serves, LiesUnder, IsSettledAt}
use Rattle.durable.specs.Upgraded.{StandsForEither, IsLeftEither, IsUnchanged, IsRefusal, of_fault}
use Rattle.durable.proofs.Answering.{shown_anew}
use Rattle.durable.proofs.Unwritten.{held_after}

-- ---- what is left

module _ {D : Type 0} {g : Ghosts D} (old mid new : Store D g) (run : Ran g.disk (device_of old) (device_of mid) Same) (rules : Rules) (h : History) (settled : IsSettledAt rules old h) where
  abbrev pub Either : List ℕ → Type 0
  Either c = StandsForEither rules h c

  -- while the device is read a crash leaves the history as it was
  pub either_read : LeavesOnly g.disk (device_of old) (device_of mid) Either
  either_read =
      let For : List ℕ → Type 0 = λ c. StandsFor rules c h in
      weaker g.disk (device_of old) (device_of mid) (After Same (g.disk.left (device_of old))) Either (run.any_moment settled.keeps)
      (λ c after. inl (subst For (sym after.2) (settled.left after.0 after.1)))

  -- and then one of the two
  pub either_written : Stands g.disk (device_of mid) (device_of new) Either Either → LeavesOnly g.disk (device_of old) (device_of new) Either
  either_written stands =
      followed_by g.disk (device_of old) (device_of mid) (device_of new) Either Either Either either_read stands.moments (λ c found. found) (λ c found. found)

  -- a store that stops while it is read is left as it was
  pub left_before : serves mid ≡ false → IsLeftEither rules mid h
  left_before stopped =
      let holds = held_after g.disk rules h (device_of old) (device_of mid) run (record { keeps = settled.keeps; read = settled.read; left = settled.left }) in
      record { stopped = stopped; keeps = holds.keeps; read = inl holds.read; left = λ c left. inl (holds.left c left) }

  -- and one that stops while it is written as it was or upgraded
  pub left_either : Stands g.disk (device_of mid) (device_of new) Either Either → serves new ≡ false → IsLeftEither rules new h
  left_either stands stopped = record { stopped = stopped; keeps = stands.kept; read = stands.seen; left = stands.crash }

  -- Where all was written it is settled at the upgraded history.
  pub settled_upgraded : (next : NextCheckpoint) → next.core.rules ≡ rules_behind rules h
      → Shows next.core (base_of (with_plans (view (rules_behind rules h) (upgraded_history rules h)))) (with_plans (view (rules_behind rules h) (upgraded_history rules h)))
      → Stands g.disk (device_of mid) (device_of new) Either (λ c. StandsFor (rules_behind rules h) c (upgraded_history rules h))
      → LiesUnder new (base_of (with_plans (view (rules_behind rules h) (upgraded_history rules h)))) → new.paged.core ≡ next.core → serves new ≡ true
      → IsSettledAt (rules_behind rules h) new (upgraded_history rules h)
  settled_upgraded next numbers shows stands lies is working =
      let v : View = view (rules_behind rules h) (upgraded_history rules h) in
      let Held : State Decoded → Type 0 = λ s. Shows s (base_of (with_plans v)) (with_plans v) in
      record {
        working = working;
        rules_are = ap (λ (s : State Decoded). s.rules) is ∙ numbers;
        keeps = stands.kept;
        shows = shown_anew new v lies (subst Held (sym is) shows);
        read = stands.seen;
        left = stands.crash;
      }

-- ---- faults

pub only_device_is : (f : Fault) → of_fault f ≡ upgrade.Device → f ≡ fault.Device
only_device_is fault.Device is = refl
only_device_is fault.Memory is = cc
only_device_is (fault.Damaged d) is = cc
only_device_is fault.Failed is = cc
only_device_is fault.Exhausted is = cc

pub only_damage_is : (f : Fault) (damage : Damage) → of_fault f ≡ upgrade.Damaged damage → f ≡ fault.Damaged damage
only_damage_is fault.Device damage is = cc
only_damage_is fault.Memory damage is = cc
only_damage_is (fault.Damaged d) damage is = let same : d ≡ damage = cc in ap (λ (x : Damage). fault.Damaged x) same
only_damage_is fault.Failed damage is = cc
only_damage_is fault.Exhausted damage is = cc

pub only_failed_is : (f : Fault) → of_fault f ≡ upgrade.Failed → f ≡ fault.Failed
only_failed_is fault.Device is = cc
only_failed_is fault.Memory is = cc
only_failed_is (fault.Damaged d) is = cc
only_failed_is fault.Failed is = refl
only_failed_is fault.Exhausted is = cc

-- a fault of the table that comes from another: the generation is the greatest
pub refusal_is : (f : Fault) → IsRefusal (of_fault f) → f ≡ fault.Exhausted
refusal_is fault.Exhausted told = refl
refusal_is fault.Device (inl told) = cc
refusal_is fault.Device (inr (inl told)) = cc
refusal_is fault.Device (inr (inr told)) = cc
refusal_is fault.Memory (inl told) = cc
refusal_is fault.Memory (inr (inl told)) = cc
refusal_is fault.Memory (inr (inr told)) = cc
refusal_is (fault.Damaged d) (inl told) = cc
refusal_is (fault.Damaged d) (inr (inl told)) = cc
refusal_is (fault.Damaged d) (inr (inr told)) = cc
refusal_is fault.Failed (inl told) = cc
refusal_is fault.Failed (inr (inl told)) = cc
refusal_is fault.Failed (inr (inr told)) = cc

-- where nothing changed, memory was refused or the generation is the greatest
pub unchanged_is : {T : Type 0} (f : Fault) → IsUnchanged {T = T} (Err (of_fault f)) → (f ≡ fault.Memory) ⊎ (f ≡ fault.Exhausted)
unchanged_is fault.Memory told = inl refl
unchanged_is fault.Exhausted told = inr refl
unchanged_is fault.Device (inl told) = cc
unchanged_is fault.Device (inr (inl told)) = cc
unchanged_is fault.Device (inr (inr (inl told))) = cc
unchanged_is fault.Device (inr (inr (inr told))) = cc
unchanged_is (fault.Damaged d) (inl told) = cc
unchanged_is (fault.Damaged d) (inr (inl told)) = cc
unchanged_is (fault.Damaged d) (inr (inr (inl told))) = cc
unchanged_is (fault.Damaged d) (inr (inr (inr told))) = cc
unchanged_is fault.Failed (inl told) = cc
unchanged_is fault.Failed (inr (inl told)) = cc
unchanged_is fault.Failed (inr (inr (inl told))) = cc
unchanged_is fault.Failed (inr (inr (inr told))) = cc

-- what was upgraded is no fault
pub never_unchanged : {T P : Type 0} (value : T) → IsUnchanged (Ok value) → P
never_unchanged value (inl told) = cc
never_unchanged value (inr (inl told)) = cc
never_unchanged value (inr (inr (inl told))) = cc
never_unchanged value (inr (inr (inr told))) = cc

pub failed_unchanged : {T P : Type 0} → IsUnchanged {T = T} (Err upgrade.Failed) → P
failed_unchanged (inl told) = cc
failed_unchanged (inr (inl told)) = cc
failed_unchanged (inr (inr (inl told))) = cc
failed_unchanged (inr (inr (inr told))) = cc

-- ---- the fault of a look

abbrev pub by_look : LookupFault → UpgradeFault
by_look f = of_fault (of_lookup_fault f)

-- one that changed nothing refused memory, and the store goes on
pub look_refused : {T : Type 0} (f : LookupFault) → IsUnchanged {T = T} (Err (by_look f)) → f ≡ Looks.Memory
look_refused Looks.Memory told = refl
look_refused Looks.Device (inl told) = cc
look_refused Looks.Device (inr (inl told)) = cc
look_refused Looks.Device (inr (inr (inl told))) = cc
look_refused Looks.Device (inr (inr (inr told))) = cc
look_refused (Looks.Damaged part) (inl told) = cc
look_refused (Looks.Damaged part) (inr (inl told)) = cc
look_refused (Looks.Damaged part) (inr (inr (inl told))) = cc
look_refused (Looks.Damaged part) (inr (inr (inr told))) = cc

pub look_unchanged : {T : Type 0} (f : LookupFault) → IsUnchanged {T = T} (Err (by_look f)) → goes_on_after f ≡ true
look_unchanged f told = ap goes_on_after (look_refused f told)

pub look_unrefused : (f : LookupFault) → IsRefusal (by_look f) → ⊥
look_unrefused Looks.Memory (inl told) = cc
look_unrefused Looks.Memory (inr (inl told)) = cc
look_unrefused Looks.Memory (inr (inr told)) = cc
look_unrefused Looks.Device (inl told) = cc
look_unrefused Looks.Device (inr (inl told)) = cc
look_unrefused Looks.Device (inr (inr told)) = cc
look_unrefused (Looks.Damaged part) (inl told) = cc
look_unrefused (Looks.Damaged part) (inr (inl told)) = cc
look_unrefused (Looks.Damaged part) (inr (inr told)) = cc

pub look_failed : (f : LookupFault) → by_look f ≡ upgrade.Failed → ⊥
look_failed Looks.Memory is = cc
look_failed Looks.Device is = cc
look_failed (Looks.Damaged part) is = cc

pub look_stopped : (f : LookupFault) → by_look f ≡ upgrade.Device → f ≡ Looks.Device
look_stopped Looks.Memory is = cc
look_stopped Looks.Device is = refl
look_stopped (Looks.Damaged part) is = cc

pub look_spoiled : (f : LookupFault) (damage : Damage) → by_look f ≡ upgrade.Damaged damage → (part : Part) × (f ≡ Looks.Damaged part)
look_spoiled Looks.Memory damage is = cc
look_spoiled Looks.Device damage is = cc
look_spoiled (Looks.Damaged part) damage is = (part, refl)
