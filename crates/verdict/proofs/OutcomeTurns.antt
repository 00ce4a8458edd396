-- One validation before the others.
use Rattle.std.proofs.Common.{◌≡◌, List, ◌∷◌, Option, Some, None, option_map, map, string_bytes, sym, ap, ◌∙◌}
use Rattle.std.specs.Option.{option_map_or}
use Rattle.instructions.specs.Machine.{World}
use Rattle.plancode.specs.Plans.{Judged}
use Rattle.policy.specs.declared.validation.Validation as code_validation
use Rattle.policy.specs.Validation.{Validation, validation_seen}
use Rattle.policy.specs.declared.policy.FailurePolicy.{FailurePolicy}
use Rattle.verdict.specs.declared.denials.Denial as code_denial
use Rattle.verdict.specs.DenialSeen.{denial_seen}
use Rattle.verdict.specs.Told.{Denial, told}
use Rattle.verdict.specs.ByPlans.{given_by, message_plan, after_plan, line_by, tests_by}

-- one that says nothing leaves it to the others
pub no_denial : (f : FailurePolicy) (v : Validation) (vs : List Validation) (j : Judged) (js left : List Judged) (w : World) (m : Option Judged)
    → m ≡ message_plan v.message_expression js → left ≡ after_plan v.message_expression js → None ≡ told f v (line_by m w) (given_by j w)
    → tests_by f (v ∷ vs) (j ∷ js) w ≡ tests_by f vs left w
no_denial f v vs j js left w m plan after none =
    let others = tests_by f vs (after_plan v.message_expression js) w in
    let says = ap (λ (x : Option Judged). told f v (line_by x w) (given_by j w)) (sym plan) ∙ sym none in
    ap (λ (o : Option Denial). option_map_or Some o others) says ∙ ap (λ (l : List Judged). tests_by f vs l w) (sym after)

-- the same of the program's validations and its answer
pub turn : (f : FailurePolicy) (all : List code_validation.Validation) (v : code_validation.Validation) (vs : List code_validation.Validation)
    (plans : List Judged) (j : Judged) (js left : List Judged) (w : World) (m : Option Judged) (o : Option code_denial.Denial) → all ≡ v ∷ vs → plans ≡ j ∷ js
    → m ≡ message_plan (option_map string_bytes v.message_expression) js → left ≡ after_plan (option_map string_bytes v.message_expression) js
    → option_map denial_seen o ≡ told f (validation_seen v) (line_by m w) (given_by j w) → o ≡ None
    → tests_by f (map validation_seen vs) left w ≡ tests_by f (map validation_seen all) plans w
turn f all v vs plans j js left w m o first second plan after says none =
    let nothing = sym (ap (option_map denial_seen) none) ∙ says in
    sym (ap (λ (l : List code_validation.Validation). tests_by f (map validation_seen l) plans w) first
    ∙ (ap (λ (l : List Judged). tests_by f (map validation_seen (v ∷ vs)) l w) second
    ∙ no_denial f (validation_seen v) (map validation_seen vs) j js left w m plan after nothing))
