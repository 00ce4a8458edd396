-- One moment more.
use Rattle.std.proofs.Common.{arith, ◌≡◌, ◌∙◌, sym, ap, subst, refl, ◌≤◌, ◌+◌, ◌⊎◌, inl, inr, ⊎_elim, ℕ, zero, suc, List, [], ◌∷◌, ◌++◌, length, true, false, true≢false, Result, Ok, Err, OnOk, OnErr, is_err}
use Rattle.std.proofs.lemmas.List.{length-append}
use Rattle.device.specs.Step.{Same, After}
use Rattle.device.specs.Run.{Ran}
use Rattle.diskmodels.specs.declared.recorded.Recorded.{Recorded}
use Rattle.diskmodels.specs.Moments.{Moment, present, past, IsLeft, WasLeft, recorded_disk}
use Rattle.diskmodels.specs.PastLaws.{none_later}

was_append : (ms : List Moment) (p : Moment) (t : ℕ) (c : List ℕ) → WasLeft (ms ++ p ∷ []) t c → WasLeft ms t c ⊎ IsLeft p c
was_append [] p zero c was = ⊎_elim (λ left. inr left) (λ none. absurd none) was
was_append [] p (suc t) c was = absurd was
was_append (m ∷ ms) p zero c was = ⊎_elim (λ left. inl (inl left)) (λ more. ⊎_elim (λ w. inl (inr w)) (λ l. inr l) (was_append ms p zero c more)) was
was_append (m ∷ ms) p (suc t) c was = was_append ms p t c was

-- nothing changes but the failures
pub ran_idle : (old new : Recorded) (step : List ℕ → List ℕ → Type 0) → ((c : List ℕ) → step c c) → present new ≡ present old → past new ≡ past old
    → old.failures ≤ new.failures → Ran recorded_disk old new step
ran_idle old new step idle same still later =
    let Left : List ℕ → Moment → Type 0 = λ c m. IsLeft m c in
    let Was : ℕ → List ℕ → List Moment → Type 0 = λ t c ms. WasLeft ms t c in
    let Step : Moment → Type 0 = λ m. step (present old).now m.now in
    record {
      kept = λ k. tt;
      had_kept = λ k. tt;
      count = later;
      seen = λ k. subst Step (sym same) (idle (present old).now);
      crash = λ k c left. (c, subst (Left c) same left, idle c);
      any_moment = λ k. record {
        later = omega (arith, ap length still);
        each = λ c since. ⊎_elim (λ left. (c, subst (Left c) same left, idle c))
            (λ was. absurd (none_later (past old) c (subst (Was (length (past old)) c) still was))) since;
        before = λ t c le since. inl (⊎_elim (λ left. inl (subst (Left c) same left)) (λ was. inr (subst (Was t c) still was)) since);
      };
    }

-- a further moment, after a step
pub ran_step : (old new : Recorded) (step : List ℕ → List ℕ → Type 0) → ((c : List ℕ) → step c c) → past new ≡ past old ++ present old ∷ []
    → old.failures ≤ new.failures → step (present old).now (present new).now
    → ((c : List ℕ) → IsLeft (present new) c → After step (IsLeft (present old)) c) → Ran recorded_disk old new step
ran_step old new step idle longer later seen crash =
    let Was : ℕ → List ℕ → List Moment → Type 0 = λ t c ms. WasLeft ms t c in
    record {
      kept = λ k. tt;
      had_kept = λ k. tt;
      count = later;
      seen = λ k. seen;
      crash = λ k. crash;
      any_moment = λ k. record {
        later = omega (arith, ap length longer, length-append (past old) (present old ∷ []));
        each = λ c since. ⊎_elim (λ left. crash c left)
            (λ was. ⊎_elim (λ earlier. absurd (none_later (past old) c earlier)) (λ left. (c, left, idle c))
            (was_append (past old) (present old) (length (past old)) c (subst (Was (length (past old)) c) longer was))) since;
        before = λ t c le since. ⊎_elim (λ left. inr (crash c left))
            (λ was. ⊎_elim (λ earlier. inl (inr earlier)) (λ left. inl (inl left))
            (was_append (past old) (present old) t c (subst (Was t c) longer was))) since;
      };
    }

-- what is read changes, and not what the last sync left
pub ran_becomes : (old new : Recorded) (step : List ℕ → List ℕ → Type 0) → ((c : List ℕ) → step c c) → (next : List ℕ)
    → present new ≡ record { now = next; synced = (present old).synced } → past new ≡ past old ++ present old ∷ []
    → new.failures ≡ old.failures → step (present old).now next → Ran recorded_disk old new step
ran_becomes old new step idle next is longer same seen =
    let Step : Moment → Type 0 = λ m. step (present old).now m.now in
    let Left : List ℕ → Moment → Type 0 = λ c m. IsLeft m c in
    ran_step old new step idle longer (omega (arith, same)) (subst Step (sym is) seen)
    (λ c left. ⊎_elim
    (λ now. ((present old).now, inl refl, subst (step (present old).now) (sym now) seen))
    (λ synced. (c, inr synced, idle c)) (subst (Left c) is left))

-- or the call failed, and nothing changes
pub ran_either : {T E : Type 0} (X : Type 0) (old new : Recorded) (step : List ℕ → List ℕ → Type 0) → ((c : List ℕ) → step c c) → (next : List ℕ) (r : Result T E)
    → OnOk r ((present new ≡ record { now = next; synced = (present old).synced }) × (past new ≡ past old ++ present old ∷ []) × (new.failures ≡ old.failures))
    → OnErr r ((present new ≡ present old) × (past new ≡ past old) × (old.failures ≤ new.failures) × X) → step (present old).now next
    → Ran recorded_disk old new step
ran_either X old new step idle next (Ok x) done failed seen = ran_becomes old new step idle next done.0 done.1 done.2 seen
ran_either X old new step idle next (Err e) done failed seen = ran_idle old new step idle failed.0 failed.1 failed.2

pub when_error : {T E : Type 0} (P : Type 0) (r : Result T E) → is_err r ≡ true → OnErr r P → P
when_error P (Ok x) is holds = absurd (true≢false (sym is))
when_error P (Err e) is holds = holds

pub when_ok : {T E : Type 0} (P : Type 0) (r : Result T E) → is_err r ≡ false → OnOk r P → P
when_ok P (Ok x) is holds = holds
when_ok P (Err e) is holds = absurd (true≢false is)

-- a sync
pub ran_synced : (old new : Recorded) → (present new).now ≡ (present old).now → (present new).synced ≡ (present old).now
    → past new ≡ past old ++ present old ∷ [] → old.failures ≤ new.failures → Ran recorded_disk old new Same
ran_synced old new same synced longer later =
    ran_step old new Same (λ c. refl) longer later same
    (λ c left. ⊎_elim (λ now. ((present old).now, inl refl, now ∙ same)) (λ is. ((present old).now, inl refl, is ∙ synced)) left)

pub only_synced : (now synced content : List ℕ) → now ≡ content → synced ≡ content → (c : List ℕ) → IsLeft (record { now = now; synced = synced }) c → c ≡ content
only_synced now synced content same kept c left = ⊎_elim (λ is. is ∙ same) (λ is. is ∙ kept) left
