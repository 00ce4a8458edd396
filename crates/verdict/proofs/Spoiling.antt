-- Policies whose plans are spoiled, as bindings have their turn.
use Rattle.std.proofs.Common.{◌≡◌, ◌∙◌, sym, ap, subst, ℕ, ◌+◌, ◌<◌, ◌≤◌, List, [], ◌∷◌, ◌++◌, length, get_or, take, Contains, Option, Some, None, Result, Ok, Err, ⊎_elim, arith}
use Rattle.std.proofs.lemmas.List.{take_more, take_all}
use Rattle.std.proofs.lemmas.List.Elements.{Contains-push_cases}
use Rattle.std.specs.Option.{option_map_or}
use Rattle.std.specs.Prelude.{IfSome, IsErrOf}
use Rattle.std.specs.Result.{IsErrAnd}
use Rattle.names.specs.Key.{Key}
use Rattle.objects.specs.Objects.{value_at}
use Rattle.objects.specs.declared.fault.LookupFault.{LookupFault}
use Rattle.policy.specs.Forms.{Text}
use Rattle.policy.specs.Rules.{Attempt}
use Rattle.policy.specs.Spec.{Binding}
use Rattle.policy.specs.declared.binding.Action.{Action}
use Rattle.policy.specs.declared.binding.Action.TheVariants.{Deny, Warn}
use Rattle.policy.specs.declared.validation.Reason.TheVariants.{Forbidden}
use Rattle.verdict.specs.Told.{Denial}
use Rattle.verdict.specs.DenialSeen.{verdict_seen}
use Rattle.verdict.specs.declared.verdict.Verdict as code_verdict
use Rattle.verdict.specs.Verdict.{Verdict, denied, decision}
use Rattle.expressions.specs.Bindings.{policy_key}
use Rattle.verdict.specs.Objects.{Held}
use Rattle.verdict.specs.Deciding.{on_decision, decide, after_warnings}
use Rattle.verdict.specs.Spoiled.{AsksSpoiled, IsDenied}

-- ---- what is told

-- the fault of a call is passed on
pub passed_on : {A B : Type 0} {result : Result A LookupFault} {cause : Result B LookupFault} {given fault : LookupFault} → IsErrAnd result (λ y. y ≡ given)
    → cause ≡ Err given → IsErrOf cause fault → IsErrOf result fault
passed_on {result = Ok x} passed was told = absurd passed
passed_on {result = Err y} {given = given} {fault = fault} passed was told = let is : ◌≡◌ {A = Result _ LookupFault} (Err given) (Err fault) = sym was ∙ told in cc

-- the policy that is found is the one that is asked
pub found_asked : (all : List (Key × Held)) (w : Attempt) (b : Binding) (h : Held) (asks : AsksSpoiled all w b) → Some h ≡ value_at (policy_key b.policy) all → h ≡ asks.found
found_asked all w b h asks is = let same : Some h ≡ Some asks.found = is ∙ asks.stands in cc

-- ---- a turn that ends the verdict denies

decision_denies : (a : Action) (ws : List Text) (policy name : Text) (d : Denial) (v : Verdict)
    → after_warnings ws (on_decision policy name (decision a policy name d) (denied [] [] Forbidden [])) ≡ v → IsDenied v
decision_denies Deny ws policy name d v is = subst IsDenied is tt
decision_denies Warn ws policy name d v is = subst IsDenied is tt

-- whatever the bindings after it say
pub verdict_denies : (ws : List Text) (name : Text) (b : Binding) (d : Denial) (v : Verdict) → ((rest : Verdict) → after_warnings ws (decide name b (Some d) rest) ≡ v)
    → IsDenied v
verdict_denies ws name b d v says = decision_denies b.action ws b.policy name d v (says (denied [] [] Forbidden []))

pub decided_denies : (o : Option code_verdict.Verdict) (ws more : List Text) (name : Text) (b : Binding) (d : Denial)
    → ((rest : Verdict) → after_warnings ws (decide name b (Some d) rest) ≡ option_map_or verdict_seen o (after_warnings more rest)) → IfSome o (λ v. IsDenied (verdict_seen v))
decided_denies None ws more name b d says = tt
decided_denies (Some v) ws more name b d says = verdict_denies ws name b d (verdict_seen v) says

-- ---- bindings that had their turn

-- none of the bindings asks a policy whose plans are spoiled
abbrev pub NoneAsks : List (Key × Held) → Attempt → List (Text × Binding) → Type 0
NoneAsks all w bs = (b : Text × Binding) → Contains bs b → AsksSpoiled all w b.1 → ⊥

pub none_begun : (all : List (Key × Held)) (w : Attempt) (bs : List (Text × Binding)) → NoneAsks all w (take 0 bs)
none_begun all w bs b has asks = absurd (omega (arith, has.1))

pub none_more : (all : List (Key × Held)) (w : Attempt) (bs : List (Text × Binding)) (i : ℕ) (x : Text × Binding) → i < length bs → x ≡ get_or bs i x → NoneAsks all w (take i bs)
    → (AsksSpoiled all w x.1 → ⊥) → NoneAsks all w (take (i + 1) bs)
none_more all w bs i x inside is none not b has asks =
    let more : take (i + 1) bs ≡ take i bs ++ x ∷ [] = take_more bs i x inside ∙ ap (λ (y : Text × Binding). take i bs ++ y ∷ []) (sym is) in
    let In : List (Text × Binding) → Type 0 = λ cs. Contains cs b in
    let Asks : Text × Binding → Type 0 = λ y. AsksSpoiled all w y.1 in
    ⊎_elim (λ before. none b before asks) (λ same. not (subst Asks (sym same) asks)) (Contains-push_cases (take i bs) x b (subst In more has))

pub none_at_all : (all : List (Key × Held)) (w : Attempt) (bs : List (Text × Binding)) (i : ℕ) → length bs ≤ i → NoneAsks all w (take i bs) → NoneAsks all w bs
none_at_all all w bs i over none = subst (NoneAsks all w) (take_all i bs over) none
