-- What a policy says of a write (Kubernetes, "Validating Admission Policy": match conditions, variables, validations, failure policy).
use Rattle.std.specs.Prelude.{◌∷◌, ◌++◌, List, [], if◌then◌else◌, Option, None, Some, option_and_then}
use Rattle.std.specs.Option.{option_map_or}
use Rattle.celtree.specs.Tree.{Expr}
use Rattle.celmean.specs.Value.{Outcome}
use Rattle.celmean.specs.Meaning.{Environment, mean}
use Rattle.celmean.specs.Macros.{is_true, is_false}
use Rattle.policy.specs.Forms as form
use Rattle.policy.specs.Spec.{Policy}
use Rattle.policy.specs.declared.policy.FailurePolicy.{FailurePolicy}
use Rattle.verdict.specs.Told.{Denial, line_of, told}
use Rattle.verdict.specs.Trees.{NamedTree, Test, variables_of, tests_of}

-- ---- match conditions

pub data Conditions : Type 0 where
  met unmet : Conditions
  -- this one is neither true nor false
  neither : (name : form.Text) → Conditions

abbrev pub or_neither : (name : form.Text) → Conditions → Conditions
or_neither name met = neither name
or_neither name unmet = unmet
or_neither name (neither later) = neither name

-- one that is false counts most, wherever it stands, and then the first that is neither
abbrev pub and_then : (name : form.Text) → Outcome → Conditions → Conditions
and_then name o rest = if is_false o then unmet else (if is_true o then rest else or_neither name rest)

abbrev pub conditions : List NamedTree → Environment → Conditions
conditions [] env = met
conditions (c ∷ cs) env = and_then c.name (mean c.tree env) (conditions cs env)

-- ---- variables

-- each variable is bound to its outcome, in order, an error too
abbrev pub with_variables : List NamedTree → Environment → Environment
with_variables [] env = env
with_variables (v ∷ vs) env = with_variables vs (record { names = env.names; variables = env.variables ++ (v.name, mean v.tree env) ∷ [] })

-- ---- validations

-- what a validation says by its outcome, and by what its message expression gives
abbrev pub on_outcome : FailurePolicy → Test → Environment → Outcome → Option Denial
on_outcome f t env o = told f t.validation (option_and_then (λ e. line_of (mean e env)) t.message) o

abbrev pub first_denial : {A : Type 0} → (A → Option Denial) → List A → Option Denial
first_denial f [] = None
first_denial f (x ∷ xs) = option_map_or Some (f x) (first_denial f xs)

abbrev pub on_tests : FailurePolicy → List Test → Environment → Option Denial
on_tests f ts env = first_denial (λ t. on_outcome f t env (mean t.tree env)) ts

-- the first denial by a validation, after the variables
abbrev pub evaluate : Policy → List Expr → Environment → Option Denial
evaluate p trees env = on_tests p.failure_policy (tests_of p trees) (with_variables (variables_of p trees) env)
