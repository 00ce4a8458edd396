-- Faults that are passed on.
use Rattle.std.proofs.Common.{◌≡◌, Result, Ok, Err, OnErr, ap}
use Rattle.std.specs.Prelude.{IsErrOf}
use Rattle.std.specs.Result.{IsErrAnd}
use Rattle.objects.specs.declared.fault.LookupFault.{LookupFault}
use Rattle.objects.specs.declared.fault.LookupFault.TheVariants.{Memory}

-- a fault that is passed on is that of the call
pub same_fault : {A B : Type 0} {result : Result A LookupFault} {cause : Result B LookupFault} {given fault : LookupFault} → IsErrAnd result (λ y. y ≡ given)
    → cause ≡ Err given → IsErrOf result fault → IsErrOf cause fault
same_fault {result = Ok x} {fault = fault} passed was told = let never : ◌≡◌ {A = Result _ LookupFault} (Ok x) (Err fault) = told in cc
same_fault {result = Err y} {fault = fault} passed was told = let is : ◌≡◌ {A = Result _ LookupFault} (Err y) (Err fault) = told in cc

pub only_memory : {A : Type 0} (result : Result A LookupFault) → IsErrAnd result (λ y. y ≡ Memory) → OnErr result (IsErrOf result Memory)
only_memory (Ok x) passed = tt
only_memory (Err y) passed = ap (λ z. Err z) passed
