-- What is kept decoded beside a document in the core: what it spells as a policy and as a binding, and the plans of the policy's expressions.
use Rattle.std.specs.Prelude.{List, Option}
use Rattle.serde_json.specs.Data.{Data}
use Rattle.celtree.specs.Tree.{Expr}
use Rattle.policy.specs.Bindings.{binding_of}
use Rattle.policy.specs.Policies.{policy_of}
use Rattle.policy.specs.Spec.{Policy, Binding}
use Rattle.expressions.specs.Specification.{Plans, these, plans_in}

pub record Decoded : Type 0 where
  pub policy : Option Policy
  pub plans : Plans
  pub binding : Option Binding

-- what a document spells, with these plans
abbrev pub spelled : Data → Plans → Decoded
spelled d plans = record { policy = policy_of d; plans = plans; binding = binding_of d }

-- that of a document with the trees of its expressions
abbrev pub decoded_of : Data → List Expr → Decoded
decoded_of d trees = spelled d (these (plans_in d trees))
