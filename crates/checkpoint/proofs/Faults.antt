-- Which fault an exit hands on.
use Rattle.std.proofs.Common.{arith, refl, ◌≡◌, ◌≤◌, ◌∙◌, sym, ap, subst, ⊎_elim, inl, inr, ◌⊎◌, Result, Ok, Err}
use Rattle.std.specs.Prelude.{IsErrOf, OnErr}
use Rattle.std.specs.Result.{IsErrAnd}
use Rattle.device.specs.Disk.{Disk, HasFailed}
use Rattle.checkpoint.specs.WriteFault.{of_entries}
use Rattle.checkpoint.specs.declared.filling.EntriesFault.{EntriesFault}
use Rattle.checkpoint.specs.declared.filling.EntriesFault.TheVariants as entries
use Rattle.checkpoint.specs.declared.writing.WriteFault.{WriteFault}
use Rattle.checkpoint.specs.declared.writing.WriteFault.TheVariants.{Device, Damaged, TooLong, Memory, Exhausted}

pub err_is : {T E : Type 0} (r : Result T E) (P : E → Type 0) (e : E) → IsErrAnd r P → IsErrOf r e → P e
err_is (Ok x) P e holds is = absurd holds
err_is (Err f) P e holds is = let same : f ≡ e = cc in subst P same holds

pub no_fault : {T E : Type 0} {x : T} {e : E} → ◌≡◌ {A = Result T E} (Ok x) (Err e) → ⊥
no_fault told = cc

err_same : {T E : Type 0} {a b : E} → ◌≡◌ {A = Result T E} (Err a) (Err b) → a ≡ b
err_same told = cc

-- the fault of a call is the one that was handed on
pub was_err : {T E : Type 0} {r : Result T E} {f e : E} → r ≡ Err f → e ≡ f → IsErrOf r e
was_err was is = was ∙ ap (λ x. Err x) (sym is)

-- a call's answer that is passed on is that of the call
pub same_error : {T E : Type 0} (r q : Result T E) {f : E} → IsErrAnd r (λ e. e ≡ f) → q ≡ Err f → r ≡ q
same_error (Ok x) q passed was = absurd passed
same_error (Err e) q passed was = ap (λ x. Err x) passed ∙ sym was

abbrev of_write : WriteFault → EntriesFault
of_write Device = entries.Device
of_write Damaged = entries.Damaged
of_write TooLong = entries.TooLong
of_write Memory = entries.Memory
of_write Exhausted = entries.Memory

back : (fault : EntriesFault) → of_write (of_entries fault) ≡ fault
back entries.Device = refl
back entries.Damaged = refl
back entries.TooLong = refl
back entries.Memory = refl

-- no fault of entries is passed on as that no generation is left
pub never_exhausted : (fault : EntriesFault) → Exhausted ≡ of_entries fault → ⊥
never_exhausted entries.Device is = cc
never_exhausted entries.Damaged is = cc
never_exhausted entries.TooLong is = cc
never_exhausted entries.Memory is = cc

-- a fault of entries that is passed on as one of writing them
pub entries_fault : {T U : Type 0} (r : Result T WriteFault) {q : Result U EntriesFault} {f : EntriesFault} (e : EntriesFault) → IsErrAnd r (λ x. x ≡ of_entries f)
    → q ≡ Err f → IsErrOf r (of_entries e) → IsErrOf q e
entries_fault r {f = f} e passed was told =
    let same : of_entries e ≡ of_entries f = err_is r (λ x. x ≡ of_entries f) (of_entries e) passed told in
    was_err was (sym (back e) ∙ ap of_write same ∙ back f)

-- where a call tells one of two faults, no other is passed on
pub one_of_two : {T U E : Type 0} (r : Result T E) (q : Result U E) {f : E} (a b e : E) → IsErrAnd r (λ x. x ≡ f) → q ≡ Err f
    → OnErr q (IsErrOf q a ⊎ IsErrOf q b) → IsErrOf r e → (e ≡ a) ⊎ (e ≡ b)
one_of_two r (Ok x) {f} a b e passed was refusal told = absurd (no_fault was)
one_of_two r (Err y) {f} a b e passed was refusal told =
    let is : e ≡ y = err_is r (λ x. x ≡ f) e passed told ∙ err_same (sym was) in
    ⊎_elim (λ one. inl (is ∙ err_same one)) (λ other. inr (is ∙ err_same other)) refusal

-- a disk that failed in a later part of a call
pub failed_since : {D : Type 0} (disk : Disk D) (start mid new : D) → disk.failures start ≤ disk.failures mid → HasFailed disk mid new → HasFailed disk start new
failed_since disk start mid new count (inl more) = inl (omega (arith, count, more))
failed_since disk start mid new count (inr most) = inr most
