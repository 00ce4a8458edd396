-- What looks leave, one after another.
use Rattle.std.proofs.Common.{◌≡◌, ◌∙◌, sym, ◌≤◌, ℕ, Result, Ok, Err, OnOk, OnErr, inl, inr, arith}
use Rattle.std.specs.Prelude.{IsErrOf}
use Rattle.objects.specs.Failing.{HasGrown}
use Rattle.objects.specs.declared.fault.LookupFault.{LookupFault}
use Rattle.objects.specs.declared.fault.LookupFault.TheVariants.{Device, Damaged, Memory}
use Rattle.holdings.specs.Holdings.{State}
use Rattle.decoded.specs.Decoded.{Decoded}
use Rattle.decoded.proofs.Over.{over_kept}
use Rattle.apicore.specs.Looked.{Base, HasLooked}

grown_after : (a b c : ℕ) → a ≤ b → HasGrown b c → HasGrown a c
grown_after a b c before (inl grown) = inl (omega (arith, before, grown))
grown_after a b c before (inr top) = inr top

answered_on : {A P Q : Type 0} (result : Result A LookupFault) → (P → Q) → OnOk result P → OnOk result Q
answered_on (Ok x) further p = further p
answered_on (Err fault) further p = tt

module _ {S : Type 0} (holds : S → Base → Type 0) (goes_to : S → S → Type 0) (failures : S → ℕ) (unfailed : S → S → Type 0) (core : State Decoded) where
  -- where another answer tells no other fault
  pub looked_as : {A B : Type 0} (before after : S) (result : Result A LookupFault) (other : Result B LookupFault) → ((fault : LookupFault) → IsErrOf other fault → IsErrOf result fault)
      → OnOk other (unfailed before after) → HasLooked holds goes_to failures unfailed core before after result → HasLooked holds goes_to failures unfailed core before after other
  looked_as before after result other same steady looked = record {
    kept = looked.kept;
    goes = looked.goes;
    counts = looked.counts;
    steady = steady;
    device = λ told. looked.device (same Device told);
    memory = λ told. looked.memory (same Memory told);
    damaged = λ part told. looked.damaged part (same (Damaged part) told);
  }

  -- after lookups that did not fail, or failed only by out of memory
  pub looked_after : {A : Type 0} (before after : S) (result : Result A LookupFault) → ((base : Base) → holds before base → holds after base) → goes_to before after
      → failures before ≤ failures after → unfailed before after → OnErr result (IsErrOf result Memory) → HasLooked holds goes_to failures unfailed core before after result
  looked_after before after (Ok x) kept goes counts steady memory = record {
    kept = kept;
    goes = goes;
    counts = counts;
    steady = steady;
    memory = λ told. steady;
    device = λ told. let never : ◌≡◌ {A = Result _ LookupFault} (Ok x) (Err Device) = told in cc;
    damaged = λ part told held v over. let never : ◌≡◌ {A = Result _ LookupFault} (Ok x) (Err (Damaged part)) = told in cc;
  }
  looked_after before after (Err fault) kept goes counts steady memory = record {
    kept = kept;
    goes = goes;
    counts = counts;
    steady = tt;
    memory = λ told. steady;
    device = λ told. let never : ◌≡◌ {A = Result _ LookupFault} (Err Memory) (Err Device) = sym memory ∙ told in cc;
    damaged = λ part told held v over. let never : ◌≡◌ {A = Result _ LookupFault} (Err Memory) (Err (Damaged part)) = sym memory ∙ told in cc;
  }

  -- without a look
  pub looked_not : {A : Type 0} (s : S) (result : Result A LookupFault) → goes_to s s → unfailed s s → OnErr result (IsErrOf result Memory) → HasLooked holds goes_to failures unfailed core s s result
  looked_not s result stays steady memory = looked_after s s result (λ base below. below) stays (omega arith) steady memory

  -- after a look that failed not
  pub looked_on : {A : Type 0} (before between after : S) (result : Result A LookupFault) → ((base : Base) → holds before base → holds between base) → failures before ≤ failures between
      → (unfailed between after → unfailed before after) → goes_to before after → HasLooked holds goes_to failures unfailed core between after result → HasLooked holds goes_to failures unfailed core before after result
  looked_on before between after result kept counts further goes looked = record {
    kept = λ base below. looked.kept base (kept base below);
    goes = goes;
    counts = omega (arith, counts, looked.counts);
    steady = answered_on result further looked.steady;
    device = λ told. grown_after (failures before) (failures between) (failures after) counts (looked.device told);
    memory = λ told. further (looked.memory told);
    damaged = λ part told held v over. looked.damaged part told held v (over_kept (holds before) (holds between) core held v kept over);
  }
