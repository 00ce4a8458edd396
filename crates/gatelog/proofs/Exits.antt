-- What an exit of a `?` answers.
use Rattle.std.proofs.Common.{arith, refl, sym, ap, ◌≡◌, ◌≤◌, ◌⊎◌, ℕ, List, Result, Ok, Err, inl, inr, true≢false}
use Rattle.std.specs.Prelude.{⊤, OnErr, IsErrOf}
use Rattle.std.specs.Result.{IsOk, IsErr, IsErrAnd, is_err}
use Rattle.device.specs.Disk.{Disk, HasFailed, HasCause}
use Rattle.device.specs.Step.{Same}
use Rattle.device.specs.Run.{Ran}
use Rattle.device.proofs.Runs.{not_yet}
use Rattle.gatelog.specs.declared.fault.LogFault.{LogFault}
use Rattle.gatelog.specs.declared.fault.LogFault.TheVariants.{Device, Damaged, TooLong, Memory}

-- a fault that is passed on is that of the call
pub same_fault : {A B : Type 0} {result : Result A LogFault} {cause : Result B LogFault} {given fault : LogFault} → IsErrAnd result (λ y. y ≡ given)
    → cause ≡ Err given → IsErrOf result fault → IsErrOf cause fault
same_fault {result = Ok x} {fault = fault} passed was told = absurd passed
same_fault {result = Err y} {fault = fault} passed was told = let is : ◌≡◌ {A = Result _ LogFault} (Err y) (Err fault) = told in cc

made_fault : {A : Type 0} {result : Result A LogFault} {made fault : LogFault} → IsErrAnd result (λ y. y ≡ made) → IsErrOf result fault → fault ≡ made
made_fault {result = Ok x} {fault = fault} passed told = absurd passed
made_fault {result = Err y} {fault = fault} passed told = let is : ◌≡◌ {A = Result _ LogFault} (Err y) (Err fault) = told in cc

-- a fault that `From` makes is no other
abbrev pub IsMemory : LogFault → Type 0
IsMemory Memory = ⊤
IsMemory Device = ⊥
IsMemory Damaged = ⊥
IsMemory TooLong = ⊥

pub memory_alone : {A : Type 0} {result : Result A LogFault} {fault : LogFault} → IsErrAnd result (λ y. y ≡ Memory) → IsErrOf result fault → IsMemory fault
memory_alone {fault = Memory} made told = tt
memory_alone {fault = Device} made told = let is = made_fault made told in cc
memory_alone {fault = Damaged} made told = let is = made_fault made told in cc
memory_alone {fault = TooLong} made told = let is = made_fault made told in cc

abbrev pub IsDevice : LogFault → Type 0
IsDevice Device = ⊤
IsDevice Memory = ⊥
IsDevice Damaged = ⊥
IsDevice TooLong = ⊥

pub device_alone : {A : Type 0} {result : Result A LogFault} {fault : LogFault} → IsErrAnd result (λ y. y ≡ Device) → IsErrOf result fault → IsDevice fault
device_alone {fault = Device} made told = tt
device_alone {fault = Memory} made told = let is = made_fault made told in cc
device_alone {fault = Damaged} made told = let is = made_fault made told in cc
device_alone {fault = TooLong} made told = let is = made_fault made told in cc

abbrev pub IsDamaged : LogFault → Type 0
IsDamaged Damaged = ⊤
IsDamaged Device = ⊥
IsDamaged Memory = ⊥
IsDamaged TooLong = ⊥

-- what no walk answers
pub never_too_long : {A : Type 0} {result : Result A LogFault} → OnErr result (IsErrOf result Device ⊎ IsErrOf result Damaged) → IsErrOf result TooLong → ⊥
never_too_long {result = Ok x} refusal told = let never : ◌≡◌ {A = Result _ LogFault} (Ok x) (Err TooLong) = told in cc
never_too_long {result = Err y} (inl device) told =
    let one : ◌≡◌ {A = Result _ LogFault} (Err y) (Err TooLong) = told in let other : ◌≡◌ {A = Result _ LogFault} (Err y) (Err Device) = device in cc
never_too_long {result = Err y} (inr damaged) told =
    let one : ◌≡◌ {A = Result _ LogFault} (Err y) (Err TooLong) = told in let other : ◌≡◌ {A = Result _ LogFault} (Err y) (Err Damaged) = damaged in cc

-- an error of the device has its cause
pub has_failed : {D T E : Type 0} {disk : Disk D} {old new : D} {result : Result T E} {fault : E} → HasCause disk old new result → result ≡ Err fault → HasFailed disk old new
has_failed cause was = cause.failed (ap is_err was)

-- what is an error is no success
pub ok_and_err : {T E P : Type 0} (result : Result T E) → IsErr result → IsOk result → P
ok_and_err (Ok x) err ok = absurd (true≢false (sym err))
ok_and_err (Err y) err ok = absurd (true≢false (sym ok))

-- and so it has after calls that went before
pub failed_after : {D : Type 0} (disk : Disk D) (old mid new : D) → disk.failures old ≤ disk.failures mid → HasFailed disk mid new → HasFailed disk old new
failed_after disk old mid new before (inl more) = inl (omega (arith, before, more))
failed_after disk old mid new before (inr all) = inr all

-- what is no error is no fault
pub no_fault : {A : Type 0} {x : A} {fault : LogFault} → ◌≡◌ {A = Result A LogFault} (Ok x) (Err fault) → ⊥
no_fault told = cc

-- a walk that found no list or record names no other fault
pub damaged_alone : {A : Type 0} {fault : LogFault} → ◌≡◌ {A = Result A LogFault} (Err Damaged) (Err fault) → IsDamaged fault
damaged_alone {fault = Damaged} told = tt
damaged_alone {fault = Device} told = cc
damaged_alone {fault = Memory} told = cc
damaged_alone {fault = TooLong} told = cc

-- a walk answers the device's fault or that nothing stands
pub refused_device : {A : Type 0} (result : Result A LogFault) → IsErrAnd result (λ y. y ≡ Device) → OnErr result (IsErrOf result Device ⊎ IsErrOf result Damaged)
refused_device (Ok x) made = absurd made
refused_device (Err y) made = inl (ap Err made)

pub refused_alike : {A B : Type 0} (result : Result A LogFault) (cause : Result B LogFault) (given : LogFault) → IsErrAnd result (λ y. y ≡ given) → cause ≡ Err given
    → OnErr cause (IsErrOf cause Device ⊎ IsErrOf cause Damaged) → OnErr result (IsErrOf result Device ⊎ IsErrOf result Damaged)
refused_alike (Ok x) cause given passed was refusal = absurd passed
refused_alike (Err y) (Ok z) given passed was refusal = let never : ◌≡◌ {A = Result _ LogFault} (Ok z) (Err given) = was in cc
refused_alike (Err y) (Err z) given passed was (inl told) = inl cc
refused_alike (Err y) (Err z) given passed was (inr told) = inr cc

-- before the first call
pub ran_nothing : {D : Type 0} (disk : Disk D) (old : D) → (disk.keeps old → (c : List ℕ) → disk.since old (disk.moment old) c → disk.left old c) → Ran disk old old Same
ran_nothing disk old only_now = not_yet disk old Same (λ c. refl) only_now
