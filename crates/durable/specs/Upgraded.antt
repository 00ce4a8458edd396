-- What an upgrade leaves of a store, what is told of it, and what refuses it.
use Rattle.std.specs.Prelude.{◌≡◌, ◌-◌, ◌^◌, ◌⊎◌, ℕ, Bool, false, nat_lt, nat_eq, ◌||◌, List, [], ◌∷◌, ◌++◌, length, codes, if◌then◌else◌, Option, Some, None, Result, IsErrOf}
use Rattle.device.specs.declared.device.Device.{Ghosts}
use Rattle.names.specs.declared.format.Rules.{Rules}
use Rattle.roots.specs.declared.root.Root.{Root}
use Rattle.decoded.specs.Standing.{History, View}
use Rattle.decoded.specs.Upgraded.{is_newest, upgraded_rules, new_names, rules_behind, upgraded_history, upgraded_count, upgraded_revision}
use Rattle.durable.specs.declared.fault.Fault.{Fault}
use Rattle.durable.specs.declared.fault.Fault.TheVariants as fault
use Rattle.durable.specs.declared.upgraded.Upgraded.{Upgraded}
use Rattle.durable.specs.declared.upgraded.UpgradeFault.{UpgradeFault}
use Rattle.durable.specs.declared.upgraded.UpgradeFault.TheVariants as upgrade
use Rattle.durable.specs.declared.store.Store.{Store}
use Rattle.durable.specs.Faults.{damage_text}
use Rattle.durable.specs.Settled.{device_of, serves}
use Rattle.durable.specs.Stands.{StandsFor}

-- The content stands for the history as it was, or as it is upgraded.
abbrev pub StandsForEither : Rules → History → (content : List ℕ) → Type 0
StandsForEither rules h content = StandsFor rules content h ⊎ StandsFor (rules_behind rules h) content (upgraded_history rules h)

-- The device failed: the store has stopped. A reader, and a crash, find one of the two.
pub record IsLeftEither {D : Type 0} {g : Ghosts D} (rules : Rules) (store : Store D g) (h : History) : Type 0 where
  pub stopped : serves store ≡ false
  pub keeps : g.disk.keeps (device_of store)
  pub read : StandsForEither rules h (g.disk.content (device_of store))
  pub left : (c : List ℕ) → g.disk.left (device_of store) c → StandsForEither rules h c

-- This is told of an upgrade of what was seen by these rules, in the generation of a root.
pub record IsToldOfUpgrade (rules : Rules) (v : View) (root : Root) (u : Upgraded) : Type 0 where
  pub format : u.format ≡ root.label.format
  pub generation : u.generation ≡ root.generation
  pub revision : u.revision ≡ upgraded_revision rules v
  pub namespaces : u.namespaces ≡ length (new_names rules v)

-- ---- what refuses it

abbrev pub Condition : Type 0
Condition = UpgradeFault × Bool

-- what refuses an upgrade of what is seen by these rules under the root that counts, in this order, and whether it does
abbrev pub refusals : Rules → View → (current : Root) → List Condition
refusals rules v current =
    (upgrade.NotOld, is_newest current.label.format)
    ∷ (upgrade.TooManyObjects, nat_lt (upgraded_rules rules v.revision).object_limit (upgraded_count rules v))
    ∷ (upgrade.RevisionExhausted, nat_lt (upgraded_rules rules v.revision).greatest_revision (upgraded_revision rules v) || nat_eq current.generation (2 ^ 64 - 1))
    ∷ []

abbrev pub first_of : List Condition → Option UpgradeFault
first_of [] = None
first_of (c ∷ cs) = if c.1 then Some c.0 else first_of cs

-- one of the table
abbrev pub IsRefusal : UpgradeFault → Type 0
IsRefusal f = (f ≡ upgrade.NotOld) ⊎ (f ≡ upgrade.TooManyObjects) ⊎ (f ≡ upgrade.RevisionExhausted)

-- a fault that is told where nothing changed
abbrev pub IsUnchanged : {T : Type 0} → Result T UpgradeFault → Type 0
IsUnchanged r = IsErrOf r upgrade.Memory ⊎ IsErrOf r upgrade.TooManyObjects ⊎ IsErrOf r upgrade.RevisionExhausted ⊎ IsErrOf r upgrade.NotOld

-- ---- faults

abbrev pub of_fault : Fault → UpgradeFault
of_fault fault.Device = upgrade.Device
of_fault fault.Memory = upgrade.Memory
of_fault (fault.Damaged d) = upgrade.Damaged d
of_fault fault.Failed = upgrade.Failed
of_fault fault.Exhausted = upgrade.RevisionExhausted

-- what a fault says
abbrev pub upgrade_fault_text : UpgradeFault → List ℕ
upgrade_fault_text upgrade.Device = codes "device failed"
upgrade_fault_text upgrade.Memory = codes "out of memory"
upgrade_fault_text (upgrade.Damaged d) = codes "damaged: " ++ damage_text d
upgrade_fault_text upgrade.Failed = codes "device failed before"
upgrade_fault_text upgrade.TooManyObjects = codes "too many objects"
upgrade_fault_text upgrade.RevisionExhausted = codes "revision exhausted"
upgrade_fault_text upgrade.NotOld = codes "already upgraded"
