-- A policy that is for a write.
use Rattle.std.specs.Prelude.{List, Option, None}
use Rattle.celtree.specs.Tree.{Expr}
use Rattle.policy.specs.Rules.{Attempt}
use Rattle.verdict.specs.Trees.{conditions_of}
use Rattle.verdict.specs.Environment.{seen}
use Rattle.verdict.specs.Told.{Denial}
use Rattle.verdict.specs.Denials.{conditions}
use Rattle.policy.specs.Spec as spec
use Rattle.policy.specs.Spec.{Binding}
use Rattle.verdict.specs.Listed.{Shown}
use Rattle.verdict.specs.OneBinding.{on_conditions}

-- the denial of a write that the policy and the binding are for
abbrev pub asked : Shown → spec.Policy → List Expr → Binding → Attempt → Option Denial
asked objects p trees b w = on_conditions objects p trees b w (conditions (conditions_of p trees) (seen w None))
