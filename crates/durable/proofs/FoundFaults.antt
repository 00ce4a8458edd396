-- What is found on a device that was read, with a fault.
use Rattle.std.proofs.Common.{◌≡◌, ◌≢◌, ◌∙◌, sym, ◌<◌, ◌≤◌, ◌*◌, ◌⊎◌, inl, inr, refl, ap, subst, length, ℕ, List, Result, Ok, Err, OnErr, IsErrOf}
use Rattle.std.specs.Result.{IsErrAnd}
use Rattle.device.specs.Disk.{Disk, HasFailed}
use Rattle.device.specs.Run.{Ran}
use Rattle.device.specs.Step.{Same}
use Rattle.names.specs.declared.format.Rules.{Rules}
use Rattle.gatelog.specs.Record.{part}
use Rattle.gatelog.specs.declared.fault.LogFault.{LogFault}
use Rattle.gatelog.specs.declared.fault.LogFault.TheVariants as log_fault
use Rattle.recovery.specs.declared.fault.RecoveryFault.{RecoveryFault}
use Rattle.recovery.specs.declared.fault.RecoveryFault.TheVariants as recovery_fault
use Rattle.decoded.specs.Standing.{History}
use Rattle.roots.specs.declared.open.RootFault.{RootFault}
use Rattle.roots.specs.declared.open.RootFault.TheVariants as root_fault
use Rattle.roots.specs.declared.root.Root.{Root}
use Rattle.roots.specs.Root.{IsHeader, HoldsRoot}
use Rattle.paged.specs.declared.fault.PagedFault.{PagedFault}
use Rattle.paged.specs.declared.fault.PagedFault.TheVariants as read_fault
use Rattle.durable.specs.declared.fault.Damage.{Damage}
use Rattle.durable.specs.declared.fault.Damage.TheVariants as damages
use Rattle.durable.specs.declared.fault.Fault.{Fault}
use Rattle.durable.specs.declared.fault.Fault.TheVariants as fault
use Rattle.durable.specs.Faults.{of_root_fault, of_log_fault, of_paged_fault, of_recovery_fault}
use Rattle.durable.specs.LogStill.{IsOfLog}
use Rattle.durable.specs.Stands.{StandsFor}
use Rattle.durable.specs.Opened.{HoldsNoBase, IsDamageBehind, IsDamageOf, HasRead}

-- a result of which the error is known
pub err_of : {T E : Type 0} (r : Result T E) (e : E) → IsErrAnd r (λ f. f ≡ e) → r ≡ Err e
err_of (Ok x) e holds = absurd holds
err_of (Err f) e holds = ap Err holds

pub damage_same : {first second : Damage} → fault.Damaged first ≡ fault.Damaged second → first ≡ second
damage_same same = cc

-- ---- where memory was refused

pub only_read_memory : (f : PagedFault) → of_paged_fault f ≡ fault.Memory → f ≡ read_fault.Memory
only_read_memory read_fault.Device is = cc
only_read_memory read_fault.Page is = cc
only_read_memory read_fault.Entry is = cc
only_read_memory read_fault.Plans is = cc
only_read_memory read_fault.Memory is = refl

pub long_or_memory : (f : LogFault) → of_log_fault f ≡ fault.Memory → (f ≡ log_fault.TooLong) ⊎ (f ≡ log_fault.Memory)
long_or_memory log_fault.Device is = cc
long_or_memory log_fault.Damaged is = cc
long_or_memory log_fault.TooLong is = inl refl
long_or_memory log_fault.Memory is = inr refl

pub only_damaged : (f : LogFault) (damage : Damage) → of_log_fault f ≡ fault.Damaged damage → f ≡ log_fault.Damaged
only_damaged log_fault.Device damage is = cc
only_damaged log_fault.Damaged damage is = refl
only_damaged log_fault.TooLong damage is = cc
only_damaged log_fault.Memory damage is = cc

-- a log that is not opened
pub opened_log : {T : Type 0} (r : Result T LogFault) (f : LogFault) → r ≡ Err f → OnErr r (IsErrOf r log_fault.Device ⊎ IsErrOf r log_fault.Damaged) → of_log_fault f ≡ fault.Memory → ⊥
opened_log (Ok x) f was refusal is = cc
opened_log (Err e) f was (inl told) is = let at : f ≡ log_fault.Device = cc in let never : fault.Device ≡ fault.Memory = ap of_log_fault (sym at) ∙ is in cc
opened_log (Err e) f was (inr told) is =
    let at : f ≡ log_fault.Damaged = cc in
    let never : fault.Damaged damages.Log ≡ fault.Memory = ap of_log_fault (sym at) ∙ is in cc

pub no_root_memory : (f : RootFault) → of_root_fault f ≡ fault.Memory → ⊥
no_root_memory root_fault.Device is = cc
no_root_memory root_fault.Header is = cc
no_root_memory root_fault.Root is = cc

-- ---- damage

-- of the records of a log
pub of_records : (f : LogFault) (damage : Damage) → of_log_fault f ≡ fault.Damaged damage → IsOfLog damage
of_records log_fault.Device damage is = cc
of_records log_fault.Damaged damage is = subst IsOfLog (damage_same is) tt
of_records log_fault.TooLong damage is = cc
of_records log_fault.Memory damage is = cc

-- of payloads that are not taken
pub of_payloads : (f : RecoveryFault) (damage : Damage) → of_recovery_fault f ≡ fault.Damaged damage → IsOfLog damage
of_payloads recovery_fault.Damaged damage is = subst IsOfLog (damage_same is) tt
of_payloads recovery_fault.Plans damage is = subst IsOfLog (damage_same is) tt
of_payloads recovery_fault.Memory damage is = cc

module _ (content : List ℕ) (root : Root) where
  -- pages that hold no base
  pub behind_pages : {T : Type 0} (r : Result T PagedFault) (f : PagedFault) → r ≡ Err f
      → (IsErrOf r read_fault.Page ⊎ (IsErrOf r read_fault.Entry ⊎ IsErrOf r read_fault.Plans) → HoldsNoBase content root)
      → (damage : Damage) → of_paged_fault f ≡ fault.Damaged damage → IsDamageBehind content root damage
  behind_pages r read_fault.Device was none damage is = cc
  behind_pages r read_fault.Page was none damage is = subst (IsDamageBehind content root) (damage_same is) (none (inl was))
  behind_pages r read_fault.Entry was none damage is = subst (IsDamageBehind content root) (damage_same is) (none (inr (inl was)))
  behind_pages r read_fault.Plans was none damage is = subst (IsDamageBehind content root) (damage_same is) tt
  behind_pages r read_fault.Memory was none damage is = cc

  -- the log
  pub behind_log : (damage : Damage) → IsOfLog damage → IsDamageBehind content root damage
  behind_log damages.Header of_log = absurd of_log
  behind_log damages.Root of_log = absurd of_log
  behind_log damages.Page of_log = absurd of_log
  behind_log damages.Entry of_log = absurd of_log
  behind_log damages.Log of_log = tt
  behind_log damages.Plan of_log = tt

  -- of a content whose root counts
  pub behind_counts : HoldsRoot content root → (damage : Damage) → IsDamageBehind content root damage → IsDamageOf content damage
  behind_counts counts damages.Header behind = absurd behind
  behind_counts counts damages.Root behind = absurd behind
  behind_counts counts damages.Page behind = (root, counts, behind)
  behind_counts counts damages.Entry behind = (root, counts, behind)
  behind_counts counts damages.Log behind = (root, counts, behind)
  behind_counts counts damages.Plan behind = (root, counts, behind)

module _ {D : Type 0} (disk : Disk D) where
  module _ (old new : D) (run : Ran disk old new Same) where
    -- a fault
    pub found_none : (f : Fault) → f ≢ fault.Failed → f ≢ fault.Exhausted → (f ≡ fault.Device → HasFailed disk old new)
        → (disk.keeps old → (damage : Damage) → f ≡ fault.Damaged damage → (rules : Rules) (h : History) → StandsFor rules (disk.content old) h → ⊥)
        → (disk.keeps old → (damage : Damage) → f ≡ fault.Damaged damage → IsDamageOf (disk.content old) damage) → HasRead disk old new (Err f)
    found_none f failed exhausted cause damaged told = record {
      rules = tt;
      floor = tt;
      works = tt;
      in_data = tt;
      found = λ keeps rules h stands. tt;
      redone = tt;
      log = λ keeps. tt;
      damaged = λ keeps damage is. damaged keeps damage (let same : f ≡ fault.Damaged damage = cc in same);
      told = λ keeps damage is. told keeps damage (let same : f ≡ fault.Damaged damage = cc in same);
      ran = run;
      refusal = (λ is. failed (let same : f ≡ fault.Failed = cc in same), λ is. exhausted (let same : f ≡ fault.Exhausted = cc in same));
      cause = λ is. cause (let same : f ≡ fault.Device = cc in same);
    }

    -- a device that failed
    pub found_no_device : HasFailed disk old new → HasRead disk old new (Err fault.Device)
    found_no_device failed = found_none fault.Device (λ is. cc) (λ is. cc) (λ is. failed) (λ keeps damage is rules h stands. cc) (λ keeps damage is. cc)

    -- a root that does not count
    pub found_no_root : (result : Result Root RootFault) (f : RootFault) → result ≡ Err f → (IsErrOf result root_fault.Device → HasFailed disk old new)
        → (disk.keeps old → (IsErrOf result root_fault.Header ⊎ IsErrOf result root_fault.Root) → (root : Root) → HoldsRoot (disk.content old) root → ⊥)
        → (disk.keeps old → IsErrOf result root_fault.Header → IsHeader (part 0 512 (disk.content old)) → length (disk.content old) < 9 * 512)
        → (disk.keeps old → IsErrOf result root_fault.Root → IsHeader (part 0 512 (disk.content old)) × (9 * 512 ≤ length (disk.content old)))
        → HasRead disk old new (Err (of_root_fault f))
    found_no_root result root_fault.Device is cause damaged header root = found_no_device (cause is)
    found_no_root result root_fault.Header is cause damaged header root =
        found_none (of_root_fault root_fault.Header) (λ never. cc) (λ never. cc) (λ never. cc)
        (λ keeps damage _ rules h stands. damaged keeps (inl is) stands.root stands.counts)
        (λ keeps damage told. subst (IsDamageOf (disk.content old)) (damage_same told) (header keeps is))
    found_no_root result root_fault.Root is cause damaged header root =
        found_none (of_root_fault root_fault.Root) (λ never. cc) (λ never. cc) (λ never. cc)
        (λ keeps damage _ rules h stands. damaged keeps (inr is) stands.root stands.counts)
        (λ keeps damage told.
        let there = root keeps is in subst (IsDamageOf (disk.content old)) (damage_same told) (there.0, there.1, damaged keeps (inr is)))
