-- What a change does to what a crash may leave.
use Rattle.std.proofs.Common.{arith, ◌≡◌, sym, ap, subst, refl, ◌≤◌, ◌⊎◌, inl, inr, ⊎_elim, ℕ, List, [], ◌∷◌, ◌++◌, Result, Ok, Err, OnOk, OnErr}
use Rattle.device.specs.Step.{After}
use Rattle.device.specs.Run.{Ran}
use Rattle.device.proofs.Steps.{torn_idle, cut_idle}
use Rattle.diskmodels.specs.declared.memory_file.Change.{Change}
use Rattle.diskmodels.specs.declared.memory_file.Change.TheVariants.{Written, Shortened}
use Rattle.diskmodels.specs.declared.memory_file.MemoryFile.{MemoryFile}
use Rattle.diskmodels.specs.Changes.{step_of, LeftOf, memory_file_disk}

-- a change may be lost
pub idle : (change : Change) (c : List ℕ) → step_of change c c
idle (Written offset count) c = torn_idle offset count c
idle (Shortened size) c = cut_idle size c

pub left-none : (P : List ℕ → Type 0) (changes : List Change) (c : List ℕ) → P c → LeftOf P changes c
left-none P [] c here = here
left-none P (change ∷ changes) c here = left-none (After (step_of change) P) changes c (c, here, idle change c)

-- the last change comes after those before it
pub left-last : (P : List ℕ → Type 0) (changes : List Change) (change : Change) (c : List ℕ) → LeftOf P (changes ++ change ∷ []) c → After (step_of change) (LeftOf P changes) c
left-last P [] change c left = left
left-last P (first ∷ changes) change c left = left-last (After (step_of first) P) changes change c left

-- nothing changes but the failures
pub ran_idle : (old new : MemoryFile) (step : List ℕ → List ℕ → Type 0) → ((c : List ℕ) → step c c) → new.current.items ≡ old.current.items
    → new.synced.items ≡ old.synced.items → new.unsynced.items ≡ old.unsynced.items → old.failures ≤ new.failures → Ran memory_file_disk old new step
ran_idle old new step idle current synced unsynced later =
    let Left : List ℕ → List ℕ → List ℕ → List Change → Type 0 = λ c now kept changes. (c ≡ now) ⊎ LeftOf (λ s. s ≡ kept) changes c in
    let back : (c : List ℕ) → memory_file_disk.left new c → memory_file_disk.left old c =
    λ c left. subst (λ (x : List ℕ). Left c x old.synced.items old.unsynced.items) current
    (subst (λ (x : List ℕ). Left c new.current.items x old.unsynced.items) synced
    (subst (λ (x : List Change). Left c new.current.items new.synced.items x) unsynced left))
    in
    record {
      kept = λ k. tt;
      had_kept = λ k. tt;
      count = later;
      seen = λ k. subst (step old.current.items) (sym current) (idle old.current.items);
      crash = λ k c left. (c, back c left, idle c);
      any_moment = λ k. record {
        later = omega arith;
        each = λ c left. (c, back c left, idle c);
        before = λ t c le left. inl (back c left);
      };
    }

-- a change that is not synced
pub ran_changed : (old new : MemoryFile) (change : Change) → new.synced.items ≡ old.synced.items → new.unsynced.items ≡ old.unsynced.items ++ change ∷ []
    → old.failures ≤ new.failures → step_of change old.current.items new.current.items → Ran memory_file_disk old new (step_of change)
ran_changed old new change synced unsynced later seen =
    let Left : List ℕ → List ℕ → List Change → Type 0 = λ c kept changes. LeftOf (λ s. s ≡ kept) changes c in
    let crash : (c : List ℕ) → memory_file_disk.left new c → After (step_of change) (memory_file_disk.left old) c =
    λ c left. ⊎_elim
    (λ now. (old.current.items, inl refl, subst (step_of change old.current.items) (sym now) seen))
    (λ changed.
    let last = left-last (λ s. s ≡ old.synced.items) old.unsynced.items change c
    (subst (λ (x : List ℕ). Left c x (old.unsynced.items ++ change ∷ [])) synced (subst (λ (x : List Change). Left c new.synced.items x) unsynced changed))
    in
    (last.0, inr last.1, last.2)) left
    in
    record {
      kept = λ k. tt;
      had_kept = λ k. tt;
      count = later;
      seen = λ k. seen;
      crash = λ k. crash;
      any_moment = λ k. record {
        later = omega arith;
        each = crash;
        before = λ t c le left. inr (crash c left);
      };
    }

-- a call that makes a change, or fails
pub ran_either : {T E : Type 0} (X : Type 0) (old new : MemoryFile) (change : Change) (next : List ℕ) (r : Result T E) → new.synced ≡ old.synced
    → OnOk r ((new.current.items ≡ next) × (new.unsynced.items ≡ old.unsynced.items ++ change ∷ []) × (new.failures ≡ old.failures))
    → OnErr r ((new.current ≡ old.current) × (new.unsynced.items ≡ old.unsynced.items) × (old.failures ≤ new.failures) × X)
    → step_of change old.current.items next → Ran memory_file_disk old new (step_of change)
ran_either X old new change next (Ok x) synced done failed seen =
    ran_changed old new change (ap (λ v. v.items) synced) done.1 (omega (arith, done.2)) (subst (step_of change old.current.items) (sym done.0) seen)
ran_either X old new change next (Err e) synced done failed seen =
    ran_idle old new (step_of change) (idle change) (ap (λ v. v.items) failed.0) (ap (λ v. v.items) synced) failed.1 failed.2
