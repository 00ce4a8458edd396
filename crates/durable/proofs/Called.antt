-- What calls leave of a store that served, and how their faults are handed on.
use Rattle.std.proofs.Common.{◌≡◌, ◌∙◌, refl, sym, ap, subst, inl, inr, List, true, false, Result, Ok, Err, IfErr, IsErrOf}
use Rattle.std.specs.Result.{IsErrAnd}
use Rattle.device.specs.declared.device.Device.{Ghosts}
use Rattle.device.specs.Disk.{HasFailed}
use Rattle.device.specs.Run.{Ran}
use Rattle.device.specs.Step.{Same}
use Rattle.checkpoint.proofs.Faults.{err_is, no_fault, was_err}
use Rattle.objects.specs.declared.fault.LookupFault.{LookupFault}
use Rattle.objects.specs.declared.fault.LookupFault.TheVariants as Looks
use Rattle.objects.specs.declared.fault.Part.{Part}
use Rattle.names.specs.Key.{Key}
use Rattle.histories.specs.declared.stored.Stored.{Stored}
use Rattle.decoded.specs.Decoded.{Decoded}
use Rattle.paged.specs.declared.state.Paged.{Paged}
use Rattle.paged.specs.Paged.{Below}
use Rattle.durable.specs.declared.fault.Damage.{Damage}
use Rattle.durable.specs.declared.fault.Fault.{Fault}
use Rattle.durable.specs.declared.fault.Fault.TheVariants as Faults
use Rattle.durable.specs.declared.store.Store.{Store}
use Rattle.durable.specs.Called.{IsSteady, ServesOn}
use Rattle.durable.specs.Faults.{MayBeMet, of_part, of_lookup_fault, goes_on_after}
use Rattle.durable.specs.Settled.{device_of, serves, LiesUnder}
use Rattle.durable.proofs.Renewing.{failed_then, never_failed, never_exhausted}

pub err_same : {T E : Type 0} {a b : E} → ◌≡◌ {A = Result T E} (Err a) (Err b) → a ≡ b
err_same told = cc

-- the fault of a call is the one that was handed on
pub passed_on : {A B : Type 0} (r : Result A Fault) {q : Result B Fault} {f : Fault} (fault : Fault) → IsErrAnd r (λ e. e ≡ f) → q ≡ Err f → IsErrOf r fault → IsErrOf q fault
passed_on r {f = f} fault passed was told = was_err was (err_is r (λ e. e ≡ f) fault passed told)

-- where the device failed no damage is told
pub failed_device : {A P : Type 0} (r : Result A Fault) {f : Fault} (damage : Damage) → IsErrAnd r (λ e. e ≡ f) → f ≡ Faults.Device → IsErrOf r (Faults.Damaged damage) → P
failed_device r {f} damage passed is told = let never : Faults.Damaged damage ≡ Faults.Device = err_is r (λ e. e ≡ f) (Faults.Damaged damage) passed told ∙ is in cc

-- what a store answers that had failed
pub failed_alone : {A : Type 0} {P : Type 0} (fault : Fault) → (fault ≡ Faults.Failed → ⊥) → ◌≡◌ {A = Result A Fault} (Err Faults.Failed) (Err fault) → P
failed_alone fault other told = absurd (other (sym (err_same told)))

pub no_device : Faults.Device ≡ Faults.Failed → ⊥
no_device is = cc

pub no_memory : Faults.Memory ≡ Faults.Failed → ⊥
no_memory is = cc

pub no_exhausted : Faults.Exhausted ≡ Faults.Failed → ⊥
no_exhausted is = cc

pub no_damage : (damage : Damage) → Faults.Damaged damage ≡ Faults.Failed → ⊥
no_damage damage is = cc

module _ {D A : Type 0} {g : Ghosts D} (old new : Store D g) where
  pub serves_value : (value : A) → serves new ≡ true → IsSteady old new → ServesOn old new (Ok value)
  serves_value value working same = record {
    goes_on = working;
    memory_goes_on = λ is. working;
    stops = λ is. absurd (no_fault is);
    damaged_stops = λ damage is. absurd (no_fault is);
    refusal = tt;
    cause = λ is. absurd (no_fault is);
    steady = same;
    unfailed = λ is. same;
  }

  serves_memory : serves new ≡ true → IsSteady old new → ServesOn {A = A} old new (Err Faults.Memory)
  serves_memory working same = record {
    goes_on = tt;
    memory_goes_on = λ is. working;
    stops = λ is. cc;
    damaged_stops = λ damage is. cc;
    refusal = inr (inl refl);
    cause = λ is. cc;
    steady = tt;
    unfailed = λ is. same;
  }

  serves_device : serves new ≡ false → HasFailed g.disk (device_of old) (device_of new) → ServesOn {A = A} old new (Err Faults.Device)
  serves_device stopped failed = record {
    goes_on = tt;
    memory_goes_on = λ is. cc;
    stops = λ is. stopped;
    damaged_stops = λ damage is. stopped;
    refusal = inl refl;
    cause = λ is. failed;
    steady = tt;
    unfailed = λ is. cc;
  }

  serves_damaged : (part : Part) → serves new ≡ false → ServesOn {A = A} old new (Err (Faults.Damaged (of_part part)))
  serves_damaged part stopped = record {
    goes_on = tt;
    memory_goes_on = λ is. cc;
    stops = λ is. stopped;
    damaged_stops = λ other is. stopped;
    refusal = inr (inr (part, refl));
    cause = λ is. cc;
    steady = tt;
    unfailed = λ is. cc;
  }

  -- memory was refused
  pub serves_refused : (r : Result A Fault) {f : Fault} → IsErrAnd r (λ e. e ≡ f) → f ≡ Faults.Memory → serves new ≡ true → IsSteady old new → ServesOn old new r
  serves_refused (Ok value) told is working same = absurd told
  serves_refused (Err fault) told is working same =
      let At : Fault → Type 0 = λ f. ServesOn {A = A} old new (Err f) in
      subst At (sym (told ∙ is)) (serves_memory working same)

  -- the device failed
  pub serves_failed : (r : Result A Fault) {f : Fault} → IsErrAnd r (λ e. e ≡ f) → f ≡ Faults.Device → serves new ≡ false → HasFailed g.disk (device_of old) (device_of new) → ServesOn old new r
  serves_failed (Ok value) told is stopped failed = absurd told
  serves_failed (Err fault) told is stopped failed =
      let At : Fault → Type 0 = λ f. ServesOn {A = A} old new (Err f) in
      subst At (sym (told ∙ is)) (serves_device stopped failed)

  -- damage was found
  pub serves_spoiled : {fault : Fault} (part : Part) → fault ≡ Faults.Damaged (of_part part) → serves new ≡ false → ServesOn {A = A} old new (Err fault)
  serves_spoiled part is stopped =
      let At : Fault → Type 0 = λ f. ServesOn {A = A} old new (Err f) in
      subst At (sym is) (serves_damaged part stopped)

  -- a look met a fault
  serves_by : (fault : LookupFault) → serves new ≡ goes_on_after fault → (fault ≡ Looks.Device → HasFailed g.disk (device_of old) (device_of new))
      → (fault ≡ Looks.Memory → IsSteady old new) → ServesOn {A = A} old new (Err (of_lookup_fault fault))
  serves_by Looks.Device goes failed same = serves_device goes (failed refl)
  serves_by Looks.Memory goes failed same = serves_memory goes (same refl)
  serves_by (Looks.Damaged part) goes failed same = serves_damaged part goes

  pub serves_met : (fault : LookupFault) {told : Fault} → told ≡ of_lookup_fault fault → serves new ≡ goes_on_after fault
      → (fault ≡ Looks.Device → HasFailed g.disk (device_of old) (device_of new)) → (fault ≡ Looks.Memory → IsSteady old new) → ServesOn {A = A} old new (Err told)
  serves_met fault is goes failed same =
      let At : Fault → Type 0 = λ f. ServesOn {A = A} old new (Err f) in
      subst At (sym is) (serves_by fault goes failed same)

-- a fault of one call, handed on by another
pub serves_passed : {D A B : Type 0} {g : Ghosts D} {old new : Store D g} (r : Result A Fault) {q : Result B Fault} {f : Fault} → IsErrAnd r (λ e. e ≡ f) → q ≡ Err f
    → ServesOn old new q → ServesOn old new r
serves_passed (Ok value) passed was on = absurd passed
serves_passed {A = A} {B = B} (Err fault) {q} {f} passed was on =
    let told : (e : Fault) → IsErrOf {T = A} (Err fault) e → IsErrOf q e = λ e is. was_err was (sym (err_same is) ∙ passed) in
    let Met : Result B Fault → Type 0 = λ x. IfErr x MayBeMet in
    let same : q ≡ Err fault = was ∙ ap (λ e. Err e) (sym passed) in
    record {
      goes_on = tt;
      memory_goes_on = λ is. on.memory_goes_on (told Faults.Memory is);
      stops = λ is. on.stops (told Faults.Device is);
      damaged_stops = λ damage is. on.damaged_stops damage (told (Faults.Damaged damage) is);
      refusal = subst Met same on.refusal;
      cause = λ is. on.cause (told Faults.Device is);
      steady = tt;
      unfailed = λ is. on.unfailed (told Faults.Memory is);
    }

-- a fault after reads
pub serves_after : {D A B : Type 0} {g : Ghosts D} (old mid new : Store D g) (fault : Fault) → Ran g.disk (device_of old) (device_of mid) Same → IsSteady old mid
    → ServesOn {A = A} mid new (Err fault) → ServesOn {A = B} old new (Err fault)
serves_after {B = B} {g = g} old mid new fault run same on =
    let here : ServesOn {A = B} mid new (Err fault) = serves_passed (Err fault) refl refl on in
    record {
      goes_on = tt;
      memory_goes_on = here.memory_goes_on;
      stops = here.stops;
      damaged_stops = here.damaged_stops;
      refusal = here.refusal;
      cause = λ is. failed_then g.disk (device_of old) (device_of mid) (device_of new) run (here.cause is);
      steady = tt;
      unfailed = λ is. here.unfailed is ∙ same;
    }

-- what may be met is neither of these
pub not_failed : {A : Type 0} (r : Result A Fault) → IfErr r MayBeMet → IsErrOf r Faults.Failed → ⊥
not_failed {A} r met is = let Met : Result A Fault → Type 0 = λ x. IfErr x MayBeMet in never_failed Faults.Failed (subst Met is met) refl

pub not_exhausted : {A : Type 0} (r : Result A Fault) → IfErr r MayBeMet → IsErrOf r Faults.Exhausted → ⊥
not_exhausted {A} r met is = let Met : Result A Fault → Type 0 = λ x. IfErr x MayBeMet in never_exhausted Faults.Exhausted (subst Met is met) refl

-- ---- the fault of a look

pub look_device : (fault : LookupFault) → Faults.Device ≡ of_lookup_fault fault → fault ≡ Looks.Device
look_device Looks.Device is = refl
look_device Looks.Memory is = cc
look_device (Looks.Damaged part) is = cc

pub look_damaged : (fault : LookupFault) (damage : Damage) → Faults.Damaged damage ≡ of_lookup_fault fault → (part : Part) × (fault ≡ Looks.Damaged part)
look_damaged Looks.Device damage is = cc
look_damaged Looks.Memory damage is = cc
look_damaged (Looks.Damaged part) damage is = (part, refl)

-- A store that stops, or goes on, after a look has the device and the pages that the look left.
module _ {D : Type 0} {g : Ghosts D} (new : Store D g) (device : D) (paged : Paged) (same_device : device_of new ≡ device) (same_pages : new.paged ≡ paged) where
  pub lies_met : (base : List (Key × Stored Decoded)) → Below g.disk device paged base → LiesUnder new base
  lies_met base below =
      let On : D → Type 0 = λ d. Below g.disk d new.paged base in
      let In : Paged → Type 0 = λ p. Below g.disk device p base in
      subst On (sym same_device) (subst In (sym same_pages) below)

  pub ran_met : (old : D) → Ran g.disk old device Same → Ran g.disk old (device_of new) Same
  ran_met old run = let To : D → Type 0 = λ d. Ran g.disk old d Same in subst To (sym same_device) run

  pub failed_met : (old : D) → HasFailed g.disk old device → HasFailed g.disk old (device_of new)
  failed_met old failed = let To : D → Type 0 = λ d. HasFailed g.disk old d in subst To (sym same_device) failed

  pub steady_met : (old : D) → g.disk.failures device ≡ g.disk.failures old → g.disk.failures (device_of new) ≡ g.disk.failures old
  steady_met old same = ap (λ (d : D). g.disk.failures d) same_device ∙ same
