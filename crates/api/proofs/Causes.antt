-- What a call names as the cause of its fault, and what it leaves where it met none.
use Rattle.std.proofs.Common.{arith, ◌≡◌, ◌∙◌, refl, sym, ap, subst, ◌≤◌, ◌⊎◌, inl, inr, ℕ, Bool, true, false, Option, Some, None, IfSome, Result, Ok, Err, IfErr, OnOk, IsErrOf, List}
use Rattle.objects.specs.Failing.{HasGrown}
use Rattle.httpmsg.specs.declared.head.BrokenMessage.{BrokenMessage}
use Rattle.httpmsg.specs.declared.cutter.CutFault.TheVariants as Cuts
use Rattle.durable.specs.declared.fault.Damage.{Damage}
use Rattle.durable.specs.declared.fault.Fault.{Fault}
use Rattle.durable.specs.declared.fault.Fault.TheVariants as Stored
use Rattle.durable.specs.Faults.{MayBeMet}
use Rattle.durable.proofs.Renewing.{never_failed}
use Rattle.api.specs.declared.fault.ServeFault.{ServeFault}
use Rattle.api.specs.declared.fault.ServeFault.TheVariants.{Read, Write, Device, Memory, Damaged, Failed}
use Rattle.api.specs.Answers.{HasCauses, RefusesLast}
use Rattle.api.specs.Serving.{HasAllCauses}
use Rattle.api.proofs.Folds.{grown_after}

-- ---- faults that differ

pub err_same : {T E : Type 0} {a b : E} → ◌≡◌ {A = Result T E} (Err a) (Err b) → a ≡ b
err_same told = cc

pub no_fault : {T E : Type 0} {x : T} {e : E} → ◌≡◌ {A = Result T E} (Ok x) (Err e) → ⊥
no_fault told = cc

pub told_none : {P : Type 0} (fault : Fault) → ◌≡◌ {A = Option Fault} None (Some fault) → P
told_none fault is = cc

pub memory_no_failure : {P : Type 0} → Some Stored.Memory ≡ Some Stored.Failed → P
memory_no_failure is = cc

pub device_no_failure : {P : Type 0} → Some Stored.Device ≡ Some Stored.Failed → P
device_no_failure is = cc

pub damage_no_failure : {P : Type 0} (damage : Damage) → Some (Stored.Damaged damage) ≡ Some Stored.Failed → P
damage_no_failure damage is = cc

pub apart : {T P : Type 0} (a b : ServeFault) → (a ≡ b → ⊥) → ◌≡◌ {A = Result T ServeFault} (Err a) (Err b) → P
apart a b differ is = absurd (differ (err_same is))

pub device_damaged : (damage : Damage) → Device ≡ Damaged damage → ⊥
device_damaged damage is = cc

pub device_failed : Device ≡ Failed → ⊥
device_failed is = cc

pub damaged_device : (damage : Damage) → Damaged damage ≡ Device → ⊥
damaged_device damage is = cc

pub damaged_failed : (damage : Damage) → Damaged damage ≡ Failed → ⊥
damaged_failed damage is = cc

pub failed_device : Failed ≡ Device → ⊥
failed_device is = cc

pub failed_damaged : (damage : Damage) → Failed ≡ Damaged damage → ⊥
failed_damaged damage is = cc

pub cut_broken : {a b : BrokenMessage} → Cuts.Broken a ≡ Cuts.Broken b → a ≡ b
cut_broken is = cc

pub broken_memory : {P : Type 0} (broken : BrokenMessage) → Cuts.Broken broken ≡ Cuts.Memory → P
broken_memory broken is = cc

pub memory_broken : {P : Type 0} (broken : BrokenMessage) → Cuts.Memory ≡ Cuts.Broken broken → P
memory_broken broken is = cc

-- a fault that no store tells
abbrev NoStoresFault : ServeFault → Type 0
NoStoresFault other = (other ≡ Device → ⊥) × (other ≡ Failed → ⊥) × ((damage : Damage) → other ≡ Damaged damage → ⊥)

never_write : NoStoresFault Write
never_write = (λ is. cc, λ is. cc, λ damage is. cc)

never_read : NoStoresFault Read
never_read = (λ is. cc, λ is. cc, λ damage is. cc)

stored_only : (fault : ServeFault) → (fault ≡ Device) ⊎ (fault ≡ Failed) ⊎ ((damage : Damage) × (fault ≡ Damaged damage)) → (other : ServeFault) → NoStoresFault other → fault ≡ other → ⊥
stored_only fault (inl device) other never is = never.0 (sym is ∙ device)
stored_only fault (inr (inl failed)) other never is = never.1 (sym is ∙ failed)
stored_only fault (inr (inr damaged)) other never is = never.2 damaged.0 (sym is ∙ damaged.1)

-- ---- whether a store served

pub not_false : (b : Bool) → (b ≡ false → ⊥) → b ≡ true
not_false true never = refl
not_false false never = absurd (never refl)

pub not_true : (b : Bool) → (b ≡ true → ⊥) → b ≡ false
not_true true never = absurd (never refl)
not_true false never = refl

-- what a store that served met is not that it had failed
pub met_failed : (stop : Option Fault) → IfSome stop MayBeMet → stop ≡ Some Stored.Failed → ⊥
met_failed stop met is = let Met : Option Fault → Type 0 = λ o. IfSome o MayBeMet in never_failed Stored.Failed (subst Met is met) refl

-- ---- causes

module _ {T : Type 0} (o p d e : ℕ) (s t : Bool) where
  -- where no fault is met
  pub causes_none : (value : T) → p ≡ o → d ≤ e → t ≡ s → HasCauses o p d e s t (Ok value)
  causes_none value output device same = record {
    output_later = omega (arith, output);
    device_later = device;
    write = λ is. absurd (no_fault is);
    device = λ is. absurd (no_fault is);
    never_read = no_fault;
    damaged = λ damage is. absurd (no_fault is);
    failed = λ is. absurd (no_fault is);
    goes_on = same;
    output_well = output;
  }

  -- where the output failed
  pub causes_write : o ≤ p → d ≤ e → HasGrown o p → HasCauses {T = T} o p d e s t (Err Write)
  causes_write output device grown = record {
    output_later = output;
    device_later = device;
    write = λ is. grown;
    device = λ is. cc;
    never_read = λ is. cc;
    damaged = λ damage is. cc;
    failed = λ is. cc;
    goes_on = tt;
    output_well = tt;
  }

  -- where the store told its own fault
  pub causes_stored : (fault : ServeFault) → (fault ≡ Device) ⊎ (fault ≡ Failed) ⊎ ((damage : Damage) × (fault ≡ Damaged damage)) → o ≤ p → d ≤ e
      → (fault ≡ Device → HasGrown d e) → ((damage : Damage) → fault ≡ Damaged damage → (s ≡ true) × (t ≡ false)) → (fault ≡ Failed → s ≡ false)
      → HasCauses {T = T} o p d e s t (Err fault)
  causes_stored fault told output device grown damaged failed = record {
    output_later = output;
    device_later = device;
    write = λ is. absurd (stored_only fault told Write never_write (err_same is));
    device = λ is. grown (err_same is);
    never_read = λ is. stored_only fault told Read never_read (err_same is);
    damaged = λ damage is. damaged damage (err_same is);
    failed = λ is. failed (err_same is);
    goes_on = tt;
    output_well = tt;
  }

-- a fault that an earlier call told, seen from before it
pub causes_later : {T S : Type 0} (o p q d e f : ℕ) (s t u : Bool) (fault : ServeFault) → o ≤ p → d ≤ e → t ≡ s
    → HasCauses {T = T} p q e f t u (Err fault) → HasCauses {T = S} o q d f s u (Err fault)
causes_later o p q d e f s t u fault output device same causes = record {
  output_later = omega (arith, output, causes.output_later);
  device_later = omega (arith, device, causes.device_later);
  write = λ is. grown_after o p q output (causes.write (ap (λ x. Err x) (err_same is)));
  device = λ is. grown_after d e f device (causes.device (ap (λ x. Err x) (err_same is)));
  never_read = λ is. causes.never_read (ap (λ x. Err x) (err_same is));
  damaged = λ damage is. let found = causes.damaged damage (ap (λ x. Err x) (err_same is)) in (sym same ∙ found.0, found.1);
  failed = λ is. sym same ∙ causes.failed (ap (λ x. Err x) (err_same is));
  goes_on = tt;
  output_well = tt;
}

pub causes_retyped : {T S : Type 0} (o p d e : ℕ) (s t : Bool) (fault : ServeFault) → HasCauses {T = T} o p d e s t (Err fault) → HasCauses {T = S} o p d e s t (Err fault)
causes_retyped o p d e s t fault causes = causes_later o o p d d e s s t fault (omega arith) (omega arith) refl causes

-- where the output alone may have failed, or memory was refused
pub causes_output : {T : Type 0} (o p d : ℕ) (s : Bool) (r : Result T ServeFault) → o ≤ p → OnOk r (p ≡ o) → (IsErrOf r Write → HasGrown o p) → IfErr r (λ stop. (stop ≡ Memory) ⊎ (stop ≡ Write))
    → HasCauses o p d d s s r
causes_output o p d s (Ok value) output well cause only = causes_none o p d d s s value well (omega arith) refl
causes_output {T} o p d s (Err fault) output well cause (inl is) =
    let At : ServeFault → Type 0 = λ f. HasCauses {T = T} o p d d s s (Err f) in
    subst At (sym is) (record {
      output_later = output;
      device_later = omega arith;
      write = λ is. cc;
      device = λ is. cc;
      never_read = λ is. cc;
      damaged = λ damage is. cc;
      failed = λ is. cc;
      goes_on = tt;
      output_well = tt;
    })
causes_output {T} o p d s (Err fault) output well cause (inr is) =
    let At : ServeFault → Type 0 = λ f. HasCauses {T = T} o p d d s s (Err f) in
    subst At (sym is) (causes_write o p d d s s output (omega arith) (cause (ap (λ x. Err x) is)))

-- ---- with the input

module _ {T : Type 0} (i j o p d e : ℕ) (s t : Bool) where
  pub all_none : (value : T) → j ≡ i → p ≡ o → d ≤ e → t ≡ s → HasAllCauses i j o p d e s t (Ok value)
  all_none value input output device same = record {
    input_later = omega (arith, input);
    output_later = omega (arith, output);
    device_later = device;
    read = λ is. absurd (no_fault is);
    write = λ is. absurd (no_fault is);
    device = λ is. absurd (no_fault is);
    damaged = λ damage is. absurd (no_fault is);
    failed = λ is. absurd (no_fault is);
    goes_on = same;
    input_well = λ other. input;
    output_well = output;
  }

  -- where the input failed
  pub all_read : i ≤ j → o ≤ p → d ≤ e → HasGrown i j → HasAllCauses {T = T} i j o p d e s t (Err Read)
  all_read input output device grown = record {
    input_later = input;
    output_later = output;
    device_later = device;
    read = λ is. grown;
    write = λ is. cc;
    device = λ is. cc;
    damaged = λ damage is. cc;
    failed = λ is. cc;
    goes_on = tt;
    input_well = λ other. absurd (other refl);
    output_well = tt;
  }

-- where nothing more was read
pub all_of : {T S : Type 0} (i o p d e : ℕ) (s t : Bool) (fault : ServeFault) → HasCauses {T = T} o p d e s t (Err fault) → HasAllCauses {T = S} i i o p d e s t (Err fault)
all_of {T} {S} i o p d e s t fault causes =
    let here : HasCauses {T = S} o p d e s t (Err fault) = causes_retyped o p d e s t fault causes in
    record {
      input_later = omega arith;
      output_later = here.output_later;
      device_later = here.device_later;
      read = λ is. absurd (here.never_read is);
      write = here.write;
      device = here.device;
      damaged = here.damaged;
      failed = here.failed;
      goes_on = tt;
      input_well = λ other. refl;
      output_well = tt;
    }

-- where the end is told, or memory was refused for more
pub all_end : {T : Type 0} (i j o p d e : ℕ) (s t : Bool) (r : Result T ServeFault) → j ≡ i → o ≤ p → OnOk r (p ≡ o) → d ≤ e → t ≡ s → (IsErrOf r Write → HasGrown o p)
    → IfErr r (λ stop. (stop ≡ Memory) ⊎ (stop ≡ Write)) → HasAllCauses i j o p d e s t r
all_end i j o p d e s t (Ok value) input output well device same cause only = all_none i j o p d e s t value input well device same
all_end {T} i j o p d e s t (Err fault) input output well device same cause (inl is) =
    let At : ServeFault → Type 0 = λ f. HasAllCauses {T = T} i j o p d e s t (Err f) in
    subst At (sym is) (record {
      input_later = omega (arith, input);
      output_later = output;
      device_later = device;
      read = λ is. cc;
      write = λ is. cc;
      device = λ is. cc;
      damaged = λ damage is. cc;
      failed = λ is. cc;
      goes_on = tt;
      input_well = λ other. input;
      output_well = tt;
    })
all_end {T} i j o p d e s t (Err fault) input output well device same cause (inr is) =
    let At : ServeFault → Type 0 = λ f. HasAllCauses {T = T} i j o p d e s t (Err f) in
    subst At (sym is) (record {
      input_later = omega (arith, input);
      output_later = output;
      device_later = device;
      read = λ is. cc;
      write = λ told. cause (ap (λ x. Err x) is);
      device = λ is. cc;
      damaged = λ damage is. cc;
      failed = λ is. cc;
      goes_on = tt;
      input_well = λ other. input;
      output_well = tt;
    })

pub write_alone : {T : Type 0} (r : Result T ServeFault) → IfErr r (λ fault. fault ≡ Write) → IfErr r (λ stop. (stop ≡ Memory) ⊎ (stop ≡ Write))
write_alone (Ok value) only = tt
write_alone (Err fault) only = inr only

-- ---- a refusal that is written last

-- what was written before it is seen from an earlier state
pub refuses_later : {O : Type 0} (took : O → O → List ℕ → Type 0) (failures : O → ℕ) (o q p : O) → failures o ≤ failures q → RefusesLast took failures q p
    → RefusesLast took failures o p
refuses_later took failures o q p later last = record {
  before = last.before;
  later = omega (arith, later, last.later);
  closing = last.closing;
  unwritten = last.unwritten;
  refusal = last.refusal;
  whole = last.whole;
  written = last.written;
}

-- it is that of a call that is passed on
pub refuses_passed : {O T S : Type 0} (took : O → O → List ℕ → Type 0) (failures : O → ℕ) (o q p : O) (fault : ServeFault) → failures o ≤ failures q
    → ((damage : Damage) → IsErrOf {T = T} (Err fault) (Damaged damage) → RefusesLast took failures q p)
    → (damage : Damage) → IsErrOf {T = S} (Err fault) (Damaged damage) → RefusesLast took failures o p
refuses_passed took failures o q p fault later told damage is = refuses_later took failures o q p later (told damage (ap Err (err_same is)))

-- the output's fault and out of memory are no damage
pub no_damage_told : {T P : Type 0} (r : Result T ServeFault) → IfErr r (λ stop. (stop ≡ Memory) ⊎ (stop ≡ Write)) → (damage : Damage)
    → IsErrOf r (Damaged damage) → P
no_damage_told (Ok value) only damage is = absurd (no_fault is)
no_damage_told (Err fault) (inl memory) damage is = let same : Memory ≡ Damaged damage = sym memory ∙ err_same is in cc
no_damage_told (Err fault) (inr write) damage is = let same : Write ≡ Damaged damage = sym write ∙ err_same is in cc
