-- A policy's expressions with the trees that they spell, by their order: match conditions, variables, validations.
use Rattle.std.specs.Prelude.{◌∷◌, List, [], length, drop, Option, Some, None}
use Rattle.celtree.specs.Tree.{Expr}
use Rattle.policy.specs.Forms.{Text}
use Rattle.policy.specs.Spec.{NamedExpression, Policy}
use Rattle.policy.specs.Validation.{Validation}

-- a match condition or a variable
pub record NamedTree : Type 0 where
  pub name : Text
  pub tree : Expr

-- a validation, and the tree of its message expression if it has one
pub record Test : Type 0 where
  pub validation : Validation
  pub tree : Expr
  pub message : Option Expr

abbrev pub named_trees : List NamedExpression → List Expr → List NamedTree
named_trees [] es = []
named_trees (n ∷ ns) [] = []
named_trees (n ∷ ns) (e ∷ es) = record { name = n.name; tree = e } ∷ named_trees ns es

abbrev pub message_tree : (expression : Option Text) → List Expr → Option Expr
message_tree None es = None
message_tree (Some text) [] = None
message_tree (Some text) (e ∷ es) = Some e

abbrev pub after_message : (expression : Option Text) → List Expr → List Expr
after_message None es = es
after_message (Some text) [] = []
after_message (Some text) (e ∷ es) = es

abbrev pub tests : List Validation → List Expr → List Test
tests [] es = []
tests (v ∷ vs) [] = []
tests (v ∷ vs) (e ∷ es) =
    record { validation = v; tree = e; message = message_tree v.message_expression es } ∷ tests vs (after_message v.message_expression es)

-- ---- of a policy with its trees

abbrev pub conditions_of : Policy → List Expr → List NamedTree
conditions_of p trees = named_trees p.conditions trees

abbrev pub variables_of : Policy → List Expr → List NamedTree
variables_of p trees = named_trees p.variables (drop (length p.conditions) trees)

abbrev pub tests_of : Policy → List Expr → List Test
tests_of p trees = tests p.validations (drop (length p.variables) (drop (length p.conditions) trees))
