-- Faults that looks tell, one after another.
use Rattle.std.proofs.Common.{◌≡◌, ◌≤◌, ℕ, Result, Ok, Err, inl, inr, arith}
use Rattle.std.specs.Prelude.{IsErrOf}
use Rattle.std.specs.Result.{IsErrAnd}
use Rattle.objects.specs.Failing.{HasGrown}
use Rattle.objects.specs.declared.fault.LookupFault.{LookupFault}

-- a fault that is passed on is that of the call
pub same_fault : {A B : Type 0} {result : Result A LookupFault} {cause : Result B LookupFault} {given fault : LookupFault} → IsErrAnd result (λ y. y ≡ given)
    → cause ≡ Err given → IsErrOf result fault → IsErrOf cause fault
same_fault {result = Ok x} {fault = fault} passed was told = let never : ◌≡◌ {A = Result _ LookupFault} (Ok x) (Err fault) = told in cc
same_fault {result = Err y} {fault = fault} passed was told = let is : ◌≡◌ {A = Result _ LookupFault} (Err y) (Err fault) = told in cc

pub no_fault : {A : Type 0} {x : A} {fault : LookupFault} → ◌≡◌ {A = Result A LookupFault} (Ok x) (Err fault) → ⊥
no_fault told = cc

-- ---- failures

pub as_many : (a : ℕ) → a ≤ a
as_many a = omega arith

pub no_fewer : (a b c : ℕ) → a ≤ b → b ≤ c → a ≤ c
no_fewer a b c before after = omega arith

pub grown_after : (a b c : ℕ) → a ≤ b → HasGrown b c → HasGrown a c
grown_after a b c before (inl grown) = inl (omega (arith, before, grown))
grown_after a b c before (inr top) = inr top
