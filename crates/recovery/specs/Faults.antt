-- What is wrong with payloads of which one gives no write, or one that may not follow.
use Rattle.std.specs.Prelude.{◌≡◌, ◌≢◌, ℕ, List, Contains, codes}
use Rattle.histories.specs.History as plain
use Rattle.histories.specs.History.{put, delete}
use Rattle.records.specs.Payload as bytes
use Rattle.expressions.specs.Specification as stored
use Rattle.expressions.specs.Specification.{MayHavePlans, plans_bytes}
use Rattle.holdings.specs.declared.redo.RedoFault as redo
use Rattle.holdings.specs.declared.redo.RedoFault.TheVariants as redo_fault
use Rattle.records.specs.declared.fault.RecordFault as record_of
use Rattle.records.specs.declared.fault.RecordFault.TheVariants as record_fault
use Rattle.plancode.specs.declared.list_reading.ReadPlansFault as plans_of
use Rattle.plancode.specs.declared.list_reading.ReadPlansFault.TheVariants as plans_fault
use Rattle.recovery.specs.declared.fault.RecoveryFault.{RecoveryFault}
use Rattle.recovery.specs.declared.fault.RecoveryFault.TheVariants.{Damaged, Plans, Memory}

-- A payload that no write has is damage.
abbrev pub of_record_fault : record_of.RecordFault → RecoveryFault
of_record_fault record_fault.Damaged = Damaged
of_record_fault record_fault.Memory = Memory

-- A write that may not follow is damage.
abbrev pub of_redo_fault : redo.RedoFault → RecoveryFault
of_redo_fault redo_fault.NotAllowed = Damaged
of_redo_fault redo_fault.Memory = Memory

-- Bytes that no plans have are damaged plans.
abbrev pub of_plans_fault : plans_of.ReadPlansFault → RecoveryFault
of_plans_fault plans_fault.Damaged = Plans
of_plans_fault plans_fault.Memory = Memory

-- what is told of each
abbrev pub words : RecoveryFault → List ℕ
words Damaged = codes "damaged log"
words Plans = codes "damaged plans"
words Memory = codes "out of memory"

-- The write puts an object with plans that it may not have: one that is no policy, and has any.
abbrev pub PutsOtherPlans : plain.Write (List ℕ) → Type 0
PutsOtherPlans (put k d bytes) = (plans : stored.Plans) → MayHavePlans k.resource d.json plans → plans_bytes k.resource plans ≢ bytes
PutsOtherPlans (delete k) = ⊥

-- One of these writes does so.
pub record OneHasOther (writes : List (plain.Write (List ℕ))) : Type 0 where
  pub write : plain.Write (List ℕ)
  pub stands : Contains writes write
  pub other : PutsOtherPlans write

-- One of the writes of this payload does so.
pub record HasOtherPlans (payload : List ℕ) : Type 0 where
  pub writes : List (plain.Write (List ℕ))
  pub group : bytes.IsGroup writes
  pub payload_is : bytes.payload writes ≡ payload
  pub one : OneHasOther writes
