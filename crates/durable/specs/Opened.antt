-- What is found on a device that is opened.
use Rattle.std.specs.Prelude.{◌≡◌, ◌≢◌, ◌<◌, ◌≤◌, ◌*◌, ℕ, List, length, false, Result, Err, IfOk, IsErrOf}
use Rattle.device.specs.Disk.{Disk, HasFailed}
use Rattle.device.specs.Run.{Ran}
use Rattle.device.specs.Step.{Same}
use Rattle.names.specs.declared.format.Rules.{Rules}
use Rattle.histories.specs.Mapped.{mapped}
use Rattle.histories.specs.View as seen
use Rattle.histories.specs.View.{AllMayFollow, after_all, view}
use Rattle.decoded.specs.Decoded.{Decoded}
use Rattle.decoded.specs.Shown.{plans_held}
use Rattle.decoded.specs.Standing.{History, IsHistory}
use Rattle.recovery.specs.Written.{Write, AllStorable}
use Rattle.snapshots.specs.Keeping.{IsHeld}
use Rattle.paged.specs.Paged.{Holds, IsShown, root_of}
use Rattle.durable.specs.declared.fault.Damage.{Damage}
use Rattle.durable.specs.declared.fault.Damage.TheVariants as Damages
use Rattle.durable.specs.declared.fault.Fault.{Fault}
use Rattle.durable.specs.declared.fault.Fault.TheVariants as Faults
use Rattle.durable.specs.Rules.{rules_at}
use Rattle.durable.specs.Stands.{HoldsBase, StandsFor}
use Rattle.gatelog.specs.Record.{part}
use Rattle.gatelog.specs.declared.gate_log.Log.{Log}
use Rattle.roots.specs.declared.root.Root.{Root}
use Rattle.roots.specs.Root.{IsHeader, log_sector, HoldsRoot, MayHaveFloor}
use Rattle.gatelog.specs.Log.{HoldsLog}
use Rattle.durable.specs.declared.content.Opened.{Opened}

-- The root counts, and the log is the one behind its pages, with these payloads, which it counts.
pub record IsLogOf (content : List ℕ) (root : Root) (log : Log) : Type 0 where
  pub counts : HoldsRoot content root
  pub start : log.first_gate_sector ≡ log_sector root
  pub payloads : List (List ℕ)
  pub holds : HoldsLog log.first_gate_sector payloads log.last_gate_sector content
  pub counted : log.record_count ≡ length payloads

-- The pages of a root hold what is seen of no history.
abbrev pub HoldsNoBase : List ℕ → Root → Type 0
HoldsNoBase content root = (rules : Rules) (base : History) → IsHistory rules base → HoldsBase rules content root base → ⊥

-- Such damage is behind a root: its pages hold what is seen of no history, or the damage is of the log or of plans.
abbrev pub IsDamageBehind : List ℕ → Root → Damage → Type 0
IsDamageBehind content root Damages.Header = ⊥
IsDamageBehind content root Damages.Root = ⊥
IsDamageBehind content root Damages.Page = HoldsNoBase content root
IsDamageBehind content root Damages.Entry = HoldsNoBase content root
IsDamageBehind content root _ = Unit {0}

-- Such damage is of this content: its first sector is no header, or it has fewer than nine; it has these, and no root counts; or it is behind the root
-- that counts.
abbrev pub IsDamageOf : List ℕ → Damage → Type 0
IsDamageOf content Damages.Header = IsHeader (part 0 512 content) → length content < 9 * 512
IsDamageOf content Damages.Root = IsHeader (part 0 512 content) × (9 * 512 ≤ length content) × ((root : Root) → HoldsRoot content root → ⊥)
IsDamageOf content damage = (root : Root) × HoldsRoot content root × IsDamageBehind content root damage

-- What is held is what writes with plans, each of which a record can hold, left of what a checkpoint may keep. Nothing is said of a device.
pub record IsRedone (rules : Rules) (held : seen.View Decoded) : Type 0 where
  pub base : seen.View Decoded
  pub kept : IsHeld rules base
  pub writes : List Write
  pub storable : AllStorable writes
  pub follow : AllMayFollow rules base writes
  pub shows : mapped plans_held held ≡ after_all rules base writes

-- A device has been read, and nothing was written. What is found is what is shown of the history that its content stands for, and the log behind the pages;
-- damage is found only where it stands for none, and is what is told.
pub record HasRead {D : Type 0} (disk : Disk D) (old new : D) (result : Result Opened Fault) : Type 0 where
  pub rules : IfOk result (λ opened. opened.paged.core.rules ≡ rules_at (root_of opened.paged))
  pub floor : IfOk result (λ opened. MayHaveFloor (root_of opened.paged).label.format (root_of opened.paged).label.floor)
  pub works : IfOk result (λ opened. opened.log.failed ≡ false)
  pub in_data : IfOk result (λ opened. 8 ≤ opened.log.first_gate_sector)
  pub found : disk.keeps old → (rules : Rules) (h : History) → StandsFor rules (disk.content old) h
      → IfOk result (λ opened. (opened.paged.core.rules ≡ rules) × IsShown disk new opened.paged (view rules h))
  pub redone : IfOk result (λ opened. (root_of opened.paged).pages ≡ 0
      → (held : seen.View Decoded) × Holds disk new opened.paged held × IsRedone opened.paged.core.rules held)
  pub log : disk.keeps old → IfOk result (λ opened. IsLogOf (disk.content old) (root_of opened.paged) opened.log)
  pub damaged : disk.keeps old → (damage : Damage) → IsErrOf result (Faults.Damaged damage)
      → (rules : Rules) (h : History) → StandsFor rules (disk.content old) h → ⊥
  pub told : disk.keeps old → (damage : Damage) → IsErrOf result (Faults.Damaged damage) → IsDamageOf (disk.content old) damage
  pub ran : Ran disk old new Same
  pub refusal : (result ≢ Err Faults.Failed) × (result ≢ Err Faults.Exhausted)
  pub cause : IsErrOf result Faults.Device → HasFailed disk old new
