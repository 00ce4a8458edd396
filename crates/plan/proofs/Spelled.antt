-- A node of a tree gives code of 16 bytes at most, beside its text.
use Rattle.std.proofs.Common.{◌≡◌, ℕ, ◌+◌, ◌*◌, ◌≤◌, Bool, true, false, cond, Option, Some, None, List, [], ◌∷◌, ◌++◌, length, ap, ◌∙◌, arith, length-append}
use Rattle.std.specs.List.{flat_map}
use Rattle.std.proofs.lemmas.Grind.{flat_map-append}
use Rattle.celtree.specs.declared.tree.Operator.{Operator}
use Rattle.celtree.specs.declared.tree.Operator.TheVariants as operator_of
use Rattle.celtree.specs.Tree as expr
use Rattle.celtree.specs.Tree.{Expr, Exprs, no_items, item, Pairs, no_pairs, pair}
use Rattle.celtree.specs.Size.{nodes, nodes_of_items, nodes_of_pairs, text_bytes, text_bytes_of_items, text_bytes_of_pairs}
use Rattle.celtree.specs.Variables.{is_variables}
use Rattle.instructions.specs.declared.instruction.Name.{Name}
use Rattle.instructions.specs.declared.instruction.Slot.{Slot}
use Rattle.instructions.specs.Op.{Op, PushText, PushVariable, TakeField, TakeHas, TakeIndex, TakeItems, TakePairs, TakeUnary, TakeCall, Branch, Jump, Over}
use Rattle.instructions.specs.Bytes.{short, spelled, code}
use Rattle.plan.specs.Names.{Names, bind, slot_of, slot_or, declared_name, place_of}
use Rattle.plan.specs.Tables.{infix_op, between, steps_between, function_named, method_named}
use Rattle.plan.specs.Compilation.{count, pair_count, size, compiled, compiled_items, compiled_pairs}

-- how many bytes instructions have
abbrev pub bytes : List Op → ℕ
bytes ops = length (flat_map spelled ops)

bytes-append : (a b : List Op) → bytes (a ++ b) ≡ bytes a + bytes b
bytes-append a b = ap length (flat_map-append spelled a b) ∙ length-append (flat_map spelled a) (flat_map spelled b)

bytes-cons : (op : Op) (b : List Op) → bytes (op ∷ b) ≡ length (spelled op) + bytes b
bytes-cons op b = length-append (spelled op) (flat_map spelled b)

bytes-one : (op : Op) → bytes (op ∷ []) ≡ length (spelled op)
bytes-one op = omega (arith, bytes-cons op [])

-- one instruction further
one_more : (a : List Op) (op : Op) (m k : ℕ) → bytes a ≤ m → length (spelled op) ≤ k → bytes (a ++ op ∷ []) ≤ m + k
one_more a op m k e f = omega (arith, bytes-append a (op ∷ []), bytes-one op)

alone_or_after : (b : Bool) (a : List Op) (op last : Op) (m k : ℕ) → bytes a ≤ m → length (spelled op) ≤ k → length (spelled last) ≤ k → bytes (cond b (op ∷ []) (a ++ last ∷ [])) ≤ m + k
alone_or_after true a op last m k e f g = omega (arith, bytes-one op)
alone_or_after false a op last m k e f g = one_more a last m k e g

two_and_one : (a b : List Op) (op : Op) (m n k : ℕ) → bytes a ≤ m → bytes b ≤ n → length (spelled op) ≤ k → bytes (a ++ (b ++ op ∷ [])) ≤ m + n + k
two_and_one a b op m n k e f g = omega (arith, bytes-append a (b ++ op ∷ []), one_more b op n k f g)

three_and_one : (a t b : List Op) (op : Op) (m j n k : ℕ) → bytes a ≤ m → bytes t ≤ j → bytes b ≤ n → length (spelled op) ≤ k → bytes (a ++ (t ++ (b ++ op ∷ []))) ≤ m + j + n + k
three_and_one a t b op m j n k e f g h = omega (arith, bytes-append a (t ++ (b ++ op ∷ [])), two_and_one t b op j n k f g h)

between_two : (a b : List Op) (op : Op) (m n k : ℕ) → bytes a ≤ m → bytes b ≤ n → length (spelled op) ≤ k → bytes (a ++ op ∷ b) ≤ m + k + n
between_two a b op m n k e f g = omega (arith, bytes-append a (op ∷ b), bytes-cons op b)

between_three : (c a b : List Op) (op jump : Op) (l m n j k : ℕ) → bytes c ≤ l → bytes a ≤ m → bytes b ≤ n → length (spelled op) ≤ j → length (spelled jump) ≤ k → bytes (c ++ op ∷ (a ++ jump ∷ b)) ≤ l + j + (m + k + n)
between_three c a b op jump l m n j k e f g h i = between_two c (a ++ jump ∷ b) op l (m + k + n) j e (between_two a b jump m n k f g i) h

two_bytes : (a b : List Op) (m n : ℕ) → bytes a ≤ m → bytes b ≤ n → bytes (a ++ b) ≤ m + n
two_bytes a b m n e f = omega (arith, bytes-append a b)

three_bytes : (a b c : List Op) (l m n : ℕ) → bytes a ≤ l → bytes b ≤ m → bytes c ≤ n → bytes (a ++ (b ++ c)) ≤ l + (m + n)
three_bytes a b c l m n e f g = two_bytes a (b ++ c) l (m + n) e (two_bytes b c m n f g)

name_bytes : (s : Option Slot) (n : Name) → bytes (slot_or s n ∷ []) ≤ 2
name_bytes (Some s) n = omega arith
name_bytes None n = omega arith

between_bytes : (o : Operator) (end : ℕ) → bytes (between o end) ≤ 3
between_bytes operator_of.And end = omega arith
between_bytes operator_of.Or end = omega arith
between_bytes o end = omega arith

infix_bytes : (o : Operator) → length (spelled (infix_op o)) ≤ 2
infix_bytes operator_of.And = omega arith
infix_bytes operator_of.Or = omega arith
infix_bytes o = omega arith

mutual
  pub bytes_within : (t : Expr) (at : ℕ) (d : Names) → bytes (compiled t at d) ≤ 16 * nodes t + text_bytes t
  bytes_within expr.Null at d = omega arith
  bytes_within (expr.Truth b) at d = omega arith
  bytes_within (expr.Int z) at d = omega arith
  bytes_within (expr.Uint n) at d = omega arith
  bytes_within (expr.Text s) at d = omega (arith, bytes-one (PushText s), length-append (short (length s)) s)
  bytes_within (expr.Name x) at d = omega (arith, name_bytes (slot_of x d.locals) (declared_name x))
  bytes_within (expr.Field e f) at d =
      let text = length-append (short (length f)) f in
      let h = alone_or_after (is_variables e) (compiled e at d) (PushVariable (place_of f d.variables)) (TakeField f) (16 * nodes e + text_bytes e) (3 + length f) (bytes_within e at d) (omega arith) (omega (arith, text)) in
      omega (arith, h)
  bytes_within (expr.Has e f) at d =
      let text = length-append (short (length f)) f in
      let h = one_more (compiled e at d) (TakeHas f) (16 * nodes e + text_bytes e) (3 + length f) (bytes_within e at d) (omega (arith, text)) in
      omega (arith, h)
  bytes_within (expr.Index e i) at d =
      let h = two_and_one (compiled e at d) (compiled i (at + size e) d) TakeIndex (16 * nodes e + text_bytes e) (16 * nodes i + text_bytes i) 1 (bytes_within e at d) (bytes_within i (at + size e) d) (omega arith) in
      omega (arith, h)
  bytes_within (expr.Sequence es) at d =
      let h = one_more (compiled_items es at d) (TakeItems (count es)) (16 * nodes_of_items es + text_bytes_of_items es) 3 (items_bytes_within es at d) (omega arith) in
      omega (arith, h)
  bytes_within (expr.Mapping ps) at d =
      let h = one_more (compiled_pairs ps at d) (TakePairs (pair_count ps)) (16 * nodes_of_pairs ps + text_bytes_of_pairs ps) 3 (pairs_bytes_within ps at d) (omega arith) in
      omega (arith, h)
  bytes_within (expr.Unary p e) at d =
      let h = one_more (compiled e at d) (TakeUnary p) (16 * nodes e + text_bytes e) 2 (bytes_within e at d) (omega arith) in
      omega (arith, h)
  bytes_within (expr.Infix o a b) at d =
      let end = at + size (expr.Infix o a b) in
      let h = three_and_one (compiled a at d) (between o end) (compiled b (at + size a + steps_between o) d) (infix_op o) (16 * nodes a + text_bytes a) 3 (16 * nodes b + text_bytes b) 2
      (bytes_within a at d) (between_bytes o end) (bytes_within b (at + size a + steps_between o) d) (infix_bytes o) in
      omega (arith, h)
  bytes_within (expr.Conditional c a b) at d =
      let end = at + size (expr.Conditional c a b) in
      let first = at + size c + 1 in
      let second = at + size c + 1 + size a + 1 in
      let h = between_three (compiled c at d) (compiled a first d) (compiled b second d) (Branch second end) (Jump end) (16 * nodes c + text_bytes c) (16 * nodes a + text_bytes a) (16 * nodes b + text_bytes b) 5 3
      (bytes_within c at d) (bytes_within a first d) (bytes_within b second d) (omega arith) (omega arith) in
      omega (arith, h)
  bytes_within (expr.Call f es) at d =
      let h = one_more (compiled_items es at d) (TakeCall (function_named f)) (16 * nodes_of_items es + text_bytes_of_items es) 2 (items_bytes_within es at d) (omega arith) in
      omega (arith, h)
  bytes_within (expr.Method e f es) at d =
      let h = two_and_one (compiled e at d) (compiled_items es (at + size e) d) (TakeCall (method_named f)) (16 * nodes e + text_bytes e) (16 * nodes_of_items es + text_bytes_of_items es) 2
      (bytes_within e at d) (items_bytes_within es (at + size e) d) (omega arith) in
      omega (arith, h)
  bytes_within (expr.Over m e x body) at d =
      let h = between_two (compiled e at d) (compiled body (at + size e + 1) (bind x d)) (Over m (at + size (expr.Over m e x body))) (16 * nodes e + text_bytes e) (16 * nodes body + text_bytes body) 4
      (bytes_within e at d) (bytes_within body (at + size e + 1) (bind x d)) (omega arith) in
      omega (arith, h)

  items_bytes_within : (es : Exprs) (at : ℕ) (d : Names) → bytes (compiled_items es at d) ≤ 16 * nodes_of_items es + text_bytes_of_items es
  items_bytes_within no_items at d = omega arith
  items_bytes_within (item e es) at d =
      let h = two_bytes (compiled e at d) (compiled_items es (at + size e) d) (16 * nodes e + text_bytes e) (16 * nodes_of_items es + text_bytes_of_items es) (bytes_within e at d) (items_bytes_within es (at + size e) d) in
      omega (arith, h)

  pairs_bytes_within : (ps : Pairs) (at : ℕ) (d : Names) → bytes (compiled_pairs ps at d) ≤ 16 * nodes_of_pairs ps + text_bytes_of_pairs ps
  pairs_bytes_within no_pairs at d = omega arith
  pairs_bytes_within (pair k v ps) at d =
      let h = three_bytes (compiled k at d) (compiled v (at + size k) d) (compiled_pairs ps (at + size k + size v) d) (16 * nodes k + text_bytes k) (16 * nodes v + text_bytes v) (16 * nodes_of_pairs ps + text_bytes_of_pairs ps)
      (bytes_within k at d) (bytes_within v (at + size k) d) (pairs_bytes_within ps (at + size k + size v) d) in
      omega (arith, h)

-- the code with the number of its instructions
pub code_within : (ops : List Op) (t : Expr) (at : ℕ) (d : Names) → ops ≡ compiled t at d → length (code ops) ≤ 2 + 16 * nodes t + text_bytes t
code_within ops t at d e =
    let same : bytes ops ≡ bytes (compiled t at d) = ap bytes e in
    omega (arith, length-append (short (length ops)) (flat_map spelled ops), same, bytes_within t at d)
