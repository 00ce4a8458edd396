-- What a policy says of a write by its plans: what the plan of an expression gives stands for what the expression means.
use Rattle.std.specs.Prelude.{◌≡◌, ◌∷◌, ◌++◌, ◌==◌, List, [], drop, take, length, if◌then◌else◌, Option, Some, None, option_and_then}
use Rattle.std.specs.Option.{option_map_or}
use Rattle.celmean.specs.Value.{Outcome, Error}
use Rattle.instructions.specs.declared.instruction.Name.{Name}
use Rattle.celmean.specs.Meaning.{Environment, bound}
use Rattle.plan.specs.Correct.{spelled}
use Rattle.instructions.specs.Machine.{World, outcome}
use Rattle.plancode.specs.Plans.{Judged}
use Rattle.policy.specs.Forms.{Text}
use Rattle.policy.specs.Spec.{NamedExpression, Policy}
use Rattle.policy.specs.Validation.{Validation}
use Rattle.policy.specs.declared.policy.FailurePolicy.{FailurePolicy}
use Rattle.verdict.specs.Told.{Denial, line_of, told}
use Rattle.verdict.specs.Denials.{Conditions, met, and_then}

-- the declared names stand for the same
abbrev pub Agree : (Name → Outcome) → Environment → Type 0
Agree names env = (x : Name) → names x ≡ bound (spelled x) env.names

-- the error where a plan is for another number of variables
abbrev pub given_by : Judged → World → Outcome
given_by j w = if length w.variables == j.vars then outcome w j.ops else Error

abbrev pub conditions_by : List NamedExpression → List Judged → World → Conditions
conditions_by [] js w = met
conditions_by (n ∷ ns) [] w = met
conditions_by (n ∷ ns) (j ∷ js) w = and_then n.name (given_by j w) (conditions_by ns js w)

-- the outcomes of variables, after those of earlier ones
abbrev pub outcomes_by : List Judged → (names : Name → Outcome) → (earlier : List Outcome) → List Outcome
outcomes_by [] names os = os
outcomes_by (j ∷ js) names os = outcomes_by js names (os ++ given_by j (record { names = names; variables = os }) ∷ [])

-- the plan of a message expression, and the plans after it
abbrev pub message_plan : (expression : Option Text) → List Judged → Option Judged
message_plan None js = None
message_plan (Some text) [] = None
message_plan (Some text) (j ∷ js) = Some j

abbrev pub after_plan : (expression : Option Text) → List Judged → List Judged
after_plan None js = js
after_plan (Some text) [] = []
after_plan (Some text) (j ∷ js) = js

-- the line that the message expression gives, if there is one
abbrev pub line_by : Option Judged → World → Option Text
line_by m w = option_and_then (λ j. line_of (given_by j w)) m

abbrev pub tests_by : FailurePolicy → List Validation → List Judged → World → Option Denial
tests_by f [] js w = None
tests_by f (v ∷ vs) [] w = None
tests_by f (v ∷ vs) (j ∷ js) w =
    option_map_or Some (told f v (line_by (message_plan v.message_expression js) w) (given_by j w)) (tests_by f vs (after_plan v.message_expression js) w)

-- what variables and validations say by their plans, which stand after those of the conditions
abbrev pub evaluate_by : Policy → List Judged → (names : Name → Outcome) → Option Denial
evaluate_by p js names =
    tests_by p.failure_policy p.validations (drop (length p.variables) js)
    (record { names = names; variables = outcomes_by (take (length p.variables) js) names [] })
