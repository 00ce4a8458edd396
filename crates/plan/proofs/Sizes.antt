-- A node of a tree gives two instructions at most.
use Rattle.std.proofs.Common.{ℕ, ◌+◌, ◌≤◌, Bool, true, false, cond, arith}
use Rattle.celtree.specs.declared.tree.Operator.{Operator}
use Rattle.celtree.specs.declared.tree.Operator.TheVariants as operator_of
use Rattle.celtree.specs.Tree as expr
use Rattle.celtree.specs.Tree.{Expr, Exprs, no_items, item, Pairs, no_pairs, pair}
use Rattle.celtree.specs.Size.{nodes, nodes_of_items, nodes_of_pairs}
use Rattle.celtree.specs.Variables.{is_variables}
use Rattle.plan.specs.Tables.{steps_between}
use Rattle.plan.specs.Compilation.{size, size_of_items, size_of_pairs}

few_steps : (o : Operator) → steps_between o ≤ 1
few_steps operator_of.And = omega arith
few_steps operator_of.Or = omega arith
few_steps o = omega arith

field_within : (b : Bool) (n m : ℕ) → n ≤ m + m → cond b 1 (n + 1) ≤ (1 + m) + (1 + m)
field_within true n m h = omega arith
field_within false n m h = omega arith

mutual
  pub size_within : (t : Expr) → size t ≤ nodes t + nodes t
  size_within expr.Null = omega arith
  size_within (expr.Truth b) = omega arith
  size_within (expr.Int z) = omega arith
  size_within (expr.Uint n) = omega arith
  size_within (expr.Text s) = omega arith
  size_within (expr.Name x) = omega arith
  size_within (expr.Field e f) = field_within (is_variables e) (size e) (nodes e) (size_within e)
  size_within (expr.Has e f) = omega (arith, size_within e)
  size_within (expr.Index e i) = omega (arith, size_within e, size_within i)
  size_within (expr.Sequence es) = omega (arith, items_within es)
  size_within (expr.Mapping ps) = omega (arith, pairs_within ps)
  size_within (expr.Unary p e) = omega (arith, size_within e)
  size_within (expr.Infix o a b) = omega (arith, size_within a, size_within b, few_steps o)
  size_within (expr.Conditional c a b) = omega (arith, size_within c, size_within a, size_within b)
  size_within (expr.Call f es) = omega (arith, items_within es)
  size_within (expr.Method e f es) = omega (arith, size_within e, items_within es)
  size_within (expr.Over m e x body) = omega (arith, size_within e, size_within body)

  items_within : (es : Exprs) → size_of_items es ≤ nodes_of_items es + nodes_of_items es
  items_within no_items = omega arith
  items_within (item e es) = omega (arith, size_within e, items_within es)

  pairs_within : (ps : Pairs) → size_of_pairs ps ≤ nodes_of_pairs ps + nodes_of_pairs ps
  pairs_within no_pairs = omega arith
  pairs_within (pair k v ps) = omega (arith, size_within k, size_within v, pairs_within ps)
