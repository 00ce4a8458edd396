-- A store without bindings, whose policies are asked of no write.
use Rattle.std.proofs.Common.{◌≡◌, ◌∙◌, ◌==◌, sym, ap, refl, List, [], ◌∷◌, length, map, true, None, arith}
use Rattle.std.proofs.lemmas.Bool.{eqb-true}
use Rattle.std.specs.Prelude.{Decides, filter_map}
use Rattle.std.specs.List.{filter}
use Rattle.names.specs.Key.{Key}
use Rattle.names.specs.declared.resource.Resource.TheVariants.{ValidatingAdmissionPolicyBinding}
use Rattle.objects.specs.Objects.{is_of}
use Rattle.policy.specs.Rules.{Attempt}
use Rattle.histories.specs.declared.stored.Stored.{Stored}
use Rattle.histories.specs.View as seen
use Rattle.holdings.specs.Holdings.{State}
use Rattle.verdict.specs.Objects as asked
use Rattle.verdict.specs.Objects.{Held}
use Rattle.verdict.specs.Listed.{listed}
use Rattle.verdict.specs.Verdict.{admitted}
use Rattle.verdict.specs.Deciding.{verdict_of}
use Rattle.verdict.specs.Admission.{bound, finding, verdict}
use Rattle.verdict.proofs.LookupStanding.{listed-map}
use Rattle.decoded.specs.Decoded.{Decoded}
use Rattle.decoded.specs.Shown.{Shows, ShowsOver, IsOver}
use Rattle.decoded.specs.Standing.{View}
use Rattle.apicore.specs.Attempts.{objects_of}
use Rattle.apicore.specs.StoreLookups.{entry_held}
use Rattle.apicore.proofs.Finding.{held_shown, listed_found}

unmapped : {A B : Type 0} (f : A → B) (xs : List A) → map f xs ≡ [] → xs ≡ []
unmapped f [] is = refl
unmapped f (x ∷ xs) is = cc

-- the bindings of a view are those of what is held
same_bindings : (held : seen.View Decoded) (v : View) → Shows held v
    → map (λ o. (o.0, asked.held o.1)) (listed ValidatingAdmissionPolicyBinding None (objects_of v)) ≡ map entry_held (listed ValidatingAdmissionPolicyBinding None held.objects)
same_bindings held v shows =
    sym (listed-map asked.held ValidatingAdmissionPolicyBinding None (objects_of v))
    ∙ ap (λ (os : List (Key × Held)). listed ValidatingAdmissionPolicyBinding None os) (sym (held_shown held v shows))
    ∙ listed_found ValidatingAdmissionPolicyBinding None held.objects

some_are_not_none : {A : Type 0} (x : A) (xs : List A) → x ∷ xs ≡ [] → ⊥
some_are_not_none x xs is = cc

counted_none : {A : Type 0} (x : A) (xs : List A) → (length (x ∷ xs) == 0) ≡ true → ⊥
counted_none x xs is = absurd (omega (arith, eqb-true (length (x ∷ xs)) 0 is))

-- whether no binding is held decides it
pub no_bindings : (held : seen.View Decoded) (v : View) (lent : List (Key × Stored Decoded)) → Shows held v → lent ≡ filter (λ o. is_of ValidatingAdmissionPolicyBinding None o.0) held.objects
    → Decides (length lent == 0) (listed ValidatingAdmissionPolicyBinding None (objects_of v) ≡ [])
no_bindings held v [] shows are = ((λ _. unmapped _ _ (same_bindings held v shows ∙ ap (map entry_held) (sym are))), (λ _. refl))
no_bindings held v (o ∷ lent) shows are = (
  (λ is. absurd (counted_none o lent is)),
  (λ none.
      absurd (some_are_not_none o lent (unmapped entry_held (o ∷ lent)
      (ap (map entry_held) are ∙ sym (same_bindings held v shows) ∙ ap (map (λ o. (o.0, asked.held o.1))) none)))),
)

-- where no binding stands, the verdict on each write admits it
pub verdict_unasked : (v : View) (w : Attempt) → listed ValidatingAdmissionPolicyBinding None (objects_of v) ≡ [] → verdict (objects_of v) w ≡ admitted []
verdict_unasked v w none = ap (λ os. verdict_of (map (finding (objects_of v) w) (filter_map bound os))) none

-- what a core shows over a source, it shows over what lies there
pub over_base : (holds : List (Key × Stored Decoded) → Type 0) (core : State Decoded) (held : seen.View Decoded) (v : View) (over : IsOver holds core held v) → ShowsOver core over.base v
over_base holds core held v over = record { held = held; shows = over.shows; plans = over.plans; free = over.free }
