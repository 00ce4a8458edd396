-- The code of an expression has as many instructions as its size says.
use Rattle.std.proofs.Common.{◌≡◌, ℕ, ◌+◌, Bool, true, false, cond, List, [], ◌∷◌, ◌++◌, length, refl, arith, length-append}
use Rattle.celtree.specs.declared.tree.Operator.{Operator}
use Rattle.celtree.specs.declared.tree.Operator.TheVariants as operator_of
use Rattle.celtree.specs.Tree as expr
use Rattle.celtree.specs.Tree.{Expr, Exprs, no_items, item, Pairs, no_pairs, pair}
use Rattle.celtree.specs.Variables.{is_variables}
use Rattle.instructions.specs.Op.{Op, PushVariable, TakeField, TakeHas, TakeIndex, TakeItems, TakePairs, TakeUnary, TakeCall, Branch, Jump, Over}
use Rattle.plan.specs.Names.{Names, bind, place_of}
use Rattle.plan.specs.Tables.{infix_op, between, steps_between, function_named, method_named}
use Rattle.plan.specs.Compilation.{count, pair_count, size, size_of_items, size_of_pairs, compiled, compiled_items, compiled_pairs}

pub length-between : (o : Operator) (end : ℕ) → length (between o end) ≡ steps_between o
length-between operator_of.And end = refl
length-between operator_of.Or end = refl
length-between o end = refl

-- one instruction further
one_more : (a : List Op) (op : Op) (m : ℕ) → length a ≡ m → length (a ++ op ∷ []) ≡ m + 1
one_more a op m e = omega (arith, length-append a (op ∷ []))

field_length : (b : Bool) (a : List Op) (op last : Op) (m : ℕ) → length a ≡ m → length (cond b (op ∷ []) (a ++ last ∷ [])) ≡ cond b 1 (m + 1)
field_length true a op last m e = refl
field_length false a op last m e = one_more a last m e

two_and_one : (a b : List Op) (op : Op) (m n : ℕ) → length a ≡ m → length b ≡ n → length (a ++ (b ++ op ∷ [])) ≡ m + n + 1
two_and_one a b op m n e f = omega (arith, length-append a (b ++ op ∷ []), length-append b (op ∷ []))

three_and_one : (a t b : List Op) (op : Op) (m s n : ℕ) → length a ≡ m → length t ≡ s → length b ≡ n → length (a ++ (t ++ (b ++ op ∷ []))) ≡ m + s + n + 1
three_and_one a t b op m s n e f g = omega (arith, length-append a (t ++ (b ++ op ∷ [])), length-append t (b ++ op ∷ []), length-append b (op ∷ []))

over_length : (a b : List Op) (op : Op) (m n : ℕ) → length a ≡ m → length b ≡ n → length (a ++ op ∷ b) ≡ m + 1 + n
over_length a b op m n e f = omega (arith, length-append a (op ∷ b))

branch_length : (c a b : List Op) (op jump : Op) (l m n : ℕ) → length c ≡ l → length a ≡ m → length b ≡ n → length (c ++ op ∷ (a ++ jump ∷ b)) ≡ l + 1 + m + 1 + n
branch_length c a b op jump l m n e f g = omega (arith, length-append c (op ∷ (a ++ jump ∷ b)), length-append a (jump ∷ b))

two_lengths : (a b : List Op) (m n : ℕ) → length a ≡ m → length b ≡ n → length (a ++ b) ≡ m + n
two_lengths a b m n e f = omega (arith, length-append a b)

three_lengths : (a b c : List Op) (l m n : ℕ) → length a ≡ l → length b ≡ m → length c ≡ n → length (a ++ (b ++ c)) ≡ l + m + n
three_lengths a b c l m n e f g = omega (arith, length-append a (b ++ c), length-append b c)

mutual
  pub length-compiled : (t : Expr) (at : ℕ) (d : Names) → length (compiled t at d) ≡ size t
  length-compiled expr.Null at d = refl
  length-compiled (expr.Truth b) at d = refl
  length-compiled (expr.Int z) at d = refl
  length-compiled (expr.Uint n) at d = refl
  length-compiled (expr.Text s) at d = refl
  length-compiled (expr.Name x) at d = refl
  length-compiled (expr.Field e f) at d = field_length (is_variables e) (compiled e at d) (PushVariable (place_of f d.variables)) (TakeField f) (size e) (length-compiled e at d)
  length-compiled (expr.Has e f) at d = one_more (compiled e at d) (TakeHas f) (size e) (length-compiled e at d)
  length-compiled (expr.Index e i) at d =
      two_and_one (compiled e at d) (compiled i (at + size e) d) TakeIndex (size e) (size i) (length-compiled e at d) (length-compiled i (at + size e) d)
  length-compiled (expr.Sequence es) at d = one_more (compiled_items es at d) (TakeItems (count es)) (size_of_items es) (length-compiled_items es at d)
  length-compiled (expr.Mapping ps) at d = one_more (compiled_pairs ps at d) (TakePairs (pair_count ps)) (size_of_pairs ps) (length-compiled_pairs ps at d)
  length-compiled (expr.Unary p e) at d = one_more (compiled e at d) (TakeUnary p) (size e) (length-compiled e at d)
  length-compiled (expr.Infix o a b) at d =
      three_and_one (compiled a at d) (between o (at + size (expr.Infix o a b))) (compiled b (at + size a + steps_between o) d) (infix_op o) (size a) (steps_between o) (size b)
      (length-compiled a at d) (length-between o (at + size (expr.Infix o a b))) (length-compiled b (at + size a + steps_between o) d)
  length-compiled (expr.Conditional c a b) at d =
      branch_length (compiled c at d) (compiled a (at + size c + 1) d) (compiled b (at + size c + 1 + size a + 1) d)
      (Branch (at + size c + 1 + size a + 1) (at + size (expr.Conditional c a b))) (Jump (at + size (expr.Conditional c a b))) (size c) (size a) (size b)
      (length-compiled c at d) (length-compiled a (at + size c + 1) d) (length-compiled b (at + size c + 1 + size a + 1) d)
  length-compiled (expr.Call f es) at d = one_more (compiled_items es at d) (TakeCall (function_named f)) (size_of_items es) (length-compiled_items es at d)
  length-compiled (expr.Method e f es) at d =
      two_and_one (compiled e at d) (compiled_items es (at + size e) d) (TakeCall (method_named f)) (size e) (size_of_items es) (length-compiled e at d) (length-compiled_items es (at + size e) d)
  length-compiled (expr.Over m e x body) at d =
      over_length (compiled e at d) (compiled body (at + size e + 1) (bind x d)) (Over m (at + size (expr.Over m e x body))) (size e) (size body)
      (length-compiled e at d) (length-compiled body (at + size e + 1) (bind x d))

  pub length-compiled_items : (es : Exprs) (at : ℕ) (d : Names) → length (compiled_items es at d) ≡ size_of_items es
  length-compiled_items no_items at d = refl
  length-compiled_items (item e es) at d =
      two_lengths (compiled e at d) (compiled_items es (at + size e) d) (size e) (size_of_items es) (length-compiled e at d) (length-compiled_items es (at + size e) d)

  pub length-compiled_pairs : (ps : Pairs) (at : ℕ) (d : Names) → length (compiled_pairs ps at d) ≡ size_of_pairs ps
  length-compiled_pairs no_pairs at d = refl
  length-compiled_pairs (pair k v ps) at d =
      three_lengths (compiled k at d) (compiled v (at + size k) d) (compiled_pairs ps (at + size k + size v) d) (size k) (size v) (size_of_pairs ps)
      (length-compiled k at d) (length-compiled v (at + size k) d) (length-compiled_pairs ps (at + size k + size v) d)
