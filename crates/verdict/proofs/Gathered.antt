-- One variable before the others.
use Rattle.std.proofs.Common.{◌≡◌, ℕ, ◌+◌, ◌<◌, List, [], ◌∷◌, ◌++◌, length, drop, get_or, sym, ap, ◌∙◌}
use Rattle.std.proofs.lemmas.List.{at_drop_more, map-append}
use Rattle.celmean.specs.declared.value.Outcome as code
use Rattle.celmean.specs.Seen.{outcome_of, outcomes_seen}
use Rattle.celmean.specs.Value.{Outcome}
use Rattle.instructions.specs.declared.instruction.Name.{Name}
use Rattle.instructions.specs.Machine.{World}
use Rattle.plancode.specs.Plans.{Judged}
use Rattle.verdict.specs.ByPlans.{given_by, outcomes_by}

-- what the plan at a place gives stands after the outcomes so far
pub one_more : (js : List Judged) (i : ℕ) (j : Judged) (names : Name → Outcome) (old new read : List code.Outcome) (o : code.Outcome) → i < length js
    → j ≡ get_or js i j → read ≡ old → outcome_of o ≡ given_by j (record { names = names; variables = outcomes_seen read }) → new ≡ old ++ o ∷ []
    → outcomes_by (drop (i + 1) js) names (outcomes_seen new) ≡ outcomes_by (drop i js) names (outcomes_seen old)
one_more js i j names old new read o less is same gives pushed =
    let world : List code.Outcome → World = λ os. record { names = names; variables = outcomes_seen os } in
    let given : outcome_of o ≡ given_by (get_or js i j) (world old) =
    gives ∙ (ap (λ (os : List code.Outcome). given_by j (world os)) same ∙ ap (λ (x : Judged). given_by x (world old)) is) in
    let seen : outcomes_seen new ≡ outcomes_seen old ++ given_by (get_or js i j) (world old) ∷ [] =
    ap outcomes_seen pushed ∙ (map-append outcome_of old (o ∷ []) ∙ ap (λ (x : Outcome). outcomes_seen old ++ x ∷ []) given) in
    ap (λ (os : List Outcome). outcomes_by (drop (i + 1) js) names os) seen
    ∙ sym (at_drop_more (λ l. outcomes_by l names (outcomes_seen old)) js i j less)
