-- What a command does to the store behind its file: a device is made or opened under the file's name, and this is what becomes of it.
use Rattle.std.specs.Prelude.{ℕ, List, [], ◌++◌, Option, IfSome}
use Rattle.device.specs.declared.device.Device.{Ghosts}
use Rattle.device.specs.Disk.{Disk, LeavesOnly}
use Rattle.names.specs.declared.format.Format.{Format}
use Rattle.names.specs.declared.format.Rules.{Rules}
use Rattle.roots.specs.NewStore.{first_label}
use Rattle.histories.specs.View.{view}
use Rattle.decoded.specs.Standing.{History}
use Rattle.apicore.specs.Admitted.{AreAdmitted}
use Rattle.durable.specs.declared.compacted.Checked.{Checked}
use Rattle.durable.specs.declared.compacted.Compacted.{Compacted}
use Rattle.durable.specs.declared.fault.Damage.{Damage}
use Rattle.durable.specs.declared.store.Store.{Store}
use Rattle.durable.specs.declared.upgraded.Upgraded.{Upgraded}
use Rattle.durable.specs.ReadWhole.{HoldsWellFormed}
use Rattle.durable.specs.Rules.{rules_by}
use Rattle.durable.specs.Ready.{HoldsHistory}
use Rattle.durable.specs.Settled.{device_of, IsFound, IsSettledAt}
use Rattle.api.specs.Answers.{Answered, AreRead, all_writes}
use Rattle.api.specs.Serving.{Exchanged}
use Rattle.store.specs.Upkeep.{KeepsHistory, IsWrittenAnew, IsUpgraded, IsToldUpgraded, IsToldOfHistory}
use Rattle.store.specs.Places.{IsPlaceOf}
use Rattle.store.specs.Whole.{HasAnswered}
use Rattle.damage.specs.declared.place.Place.{Place}
use Rattle.damage.specs.Place.{IsDamagedAt}
use Rattle.gated.specs.declared.checking.Looked.{Looked}
use Rattle.gated.specs.declared.checking.Looked.TheVariants as looked

-- Connections were served. Each write of theirs that was accepted was admitted by the policies just before it. The device holds the history with these writes
-- after it, and at every moment a crash leaves the history followed by some first ones of them.
pub record HasServedAll {D : Type 0} (rules : Rules) (disk : Disk D) (old new : D) (h : History) : Type 0 where
  pub answered : List Answered
  pub specified : AreRead rules.format answered
  pub admitted : AreAdmitted rules (view rules h) (all_writes rules (view rules h) answered)
  pub holds : HoldsHistory rules disk new (h ++ all_writes rules (view rules h) answered)
  pub moments : LeavesOnly disk old new (IsFound rules h [] (all_writes rules (view rules h) answered))

-- A store was opened on the device under a name: where that held a history, the store is settled at it, and a crash left what it might have left before.
pub record IsOpened {S D : Type 0} {g : Ghosts D} (opened : S → List ℕ → D → Type 0) (storage : S) (name : List ℕ) (store : Store D g) : Type 0 where
  pub found : D
  pub was_opened : opened storage name found
  pub settled : (rules : Rules) (h : History) → HoldsHistory rules g.disk found h → IsSettledAt rules store h
  pub moments : g.disk.keeps found → LeavesOnly g.disk found (device_of store) (g.disk.left found)

module _ {S D : Type 0} (disk : Disk D) (made opened closed : S → List ℕ → D → Type 0) (storage : S) (name : List ℕ) where
  -- A device without a sector was made under the name, and holds a store of a format without objects, after a crash too.
  pub record MadeStore (format : Format) : Type 0 where
    pub empty : D
    pub left : D
    pub was_made : made storage name empty
    pub was_closed : closed storage name left
    pub holds : disk.keeps empty → HoldsHistory (rules_by (first_label format)) disk left []

  -- What the store on the device under the name was asked was answered: what was read and written is as the whole theorem says.
  pub record AnsweredAll {I O : Type 0} (gave : I → I → List ℕ → Type 0) (took : O → O → List ℕ → Type 0) (ended : Type 0) (input_old input_new : I) (output_old output_new : O)
      : Type 0 where
    pub found : D
    pub left : D
    pub was_opened : opened storage name found
    pub was_closed : closed storage name left
    pub answers : (rules : Rules) (h : History) → HoldsHistory rules disk found h
        → Exchanged gave took input_old input_new output_old output_new (HasAnswered rules disk found left h ended)

  -- The store on the device under the name served connections.
  pub record ServedAll : Type 0 where
    pub found : D
    pub left : D
    pub was_opened : opened storage name found
    pub was_closed : closed storage name left
    pub serves : (rules : Rules) (h : History) → HoldsHistory rules disk found h → HasServedAll rules disk found left h

  -- The store on the device under the name was written anew, and this is told of its next generation.
  pub record WroteAnew (c : Compacted) : Type 0 where
    pub found : D
    pub left : D
    pub was_opened : opened storage name found
    pub was_closed : closed storage name left
    pub keeps : (rules : Rules) (h : History) → HoldsHistory rules disk found h → KeepsHistory rules disk found left h
    pub written : (rules : Rules) (h : History) (holds : HoldsHistory rules disk found h) → IsWrittenAnew (disk.content left) holds.read.root c

  -- The store on the device under the name was upgraded, and this is told of it. At every moment a crash left its history as it was, or as it is upgraded.
  pub record UpgradedStore (u : Upgraded) : Type 0 where
    pub found : D
    pub left : D
    pub was_opened : opened storage name found
    pub was_closed : closed storage name left
    pub upgraded : (rules : Rules) (h : History) → HoldsHistory rules disk found h → IsUpgraded rules disk found left h
    pub told : (rules : Rules) (h : History) (holds : HoldsHistory rules disk found h) → IsToldUpgraded rules h (disk.content left) holds.read.root u

  -- The store on the device under the name is whole: all that it holds was read, and is well formed. This is told of it.
  pub record FoundWhole (c : Checked) : Type 0 where
    pub found : D
    pub left : D
    pub was_opened : opened storage name found
    pub was_closed : closed storage name left
    pub keeps : (rules : Rules) (h : History) → HoldsHistory rules disk found h → KeepsHistory rules disk found left h
    pub told : (rules : Rules) (h : History) (holds : HoldsHistory rules disk found h) → IsToldOfHistory rules h holds.read.root c
    pub whole : disk.keeps found → HoldsWellFormed (disk.content found)

  -- The device under the name holds no history, and was given back. Where a place is told, it is one of this damage, and is damaged.
  pub record FoundDamaged (damage : Damage) (told : Option Place) : Type 0 where
    pub found : D
    pub left : D
    pub was_opened : opened storage name found
    pub was_closed : closed storage name left
    pub none : (rules : Rules) (h : History) → HoldsHistory rules disk found h → ⊥
    pub kind : IfSome told (IsPlaceOf damage)
    pub at : disk.keeps left → IfSome told (IsDamagedAt (disk.content left))

  -- This was found of the store on the device under the name.
  abbrev pub HasFound : Looked → Type 0
  HasFound (looked.Whole c) = FoundWhole c
  HasFound (looked.Damaged damage told) = FoundDamaged damage told
