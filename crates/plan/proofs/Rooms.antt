-- The code of a small tree has bytes: each operand has room.
use Rattle.std.proofs.Common.{◌≡◌, ℕ, suc, ◌+◌, ◌≤◌, Bool, true, false, cond, Option, Some, None, List, [], ◌∷◌, ◌++◌, length, refl, sym, subst, arith, bytes_eq}
use Rattle.std.specs.List.{AllByRecursion}
use Rattle.celtree.specs.declared.tree.Operator.{Operator}
use Rattle.celtree.specs.declared.tree.Operator.TheVariants as operator_of
use Rattle.celtree.specs.Tree as expr
use Rattle.celtree.specs.Tree.{Expr, Exprs, no_items, item, Pairs, no_pairs, pair}
use Rattle.celtree.specs.Size.{nodes, text_bytes, text_bytes_of_items, text_bytes_of_pairs}
use Rattle.celtree.specs.Variables.{is_variables}
use Rattle.instructions.specs.declared.instruction.Name.{Name}
use Rattle.instructions.specs.declared.instruction.Slot.{Slot}
use Rattle.instructions.specs.Op.{Op, PushVariable, TakeField, TakeHas, TakeIndex, TakeItems, TakePairs, TakeUnary, TakeCall, Branch, Jump, Over}
use Rattle.instructions.specs.Bytes.{Fits, HaveRoom}
use Rattle.plan.specs.Names.{Names, bind, slot_of, slot_or, declared_name, place_of}
use Rattle.plan.specs.Tables.{infix_op, between, steps_between, function_named, method_named}
use Rattle.plan.specs.Compilation.{count, pair_count, size, size_of_items, size_of_pairs, compiled, compiled_items, compiled_pairs}
use Rattle.plan.specs.Values.{HasValues, HaveValues, PairsHaveValues}
use Rattle.plan.proofs.Lengths.{length-compiled}
use Rattle.plan.proofs.Sizes.{size_within}
use Rattle.plan.proofs.Places.{one_at_least}

-- each instruction fits
abbrev pub Fit : List Op → Type 0
Fit ops = AllByRecursion Fits ops

both_fit : (a b : List Op) → Fit a → Fit b → Fit (a ++ b)
both_fit [] b e f = f
both_fit (op ∷ a) b e f = (e.0, both_fit a b e.1 f)

-- one instruction further
one_more : (a : List Op) (op : Op) → Fit a → Fits op → Fit (a ++ op ∷ [])
one_more a op e f = both_fit a (op ∷ []) e (f, tt)

two_and_one : (a b : List Op) (op : Op) → Fit a → Fit b → Fits op → Fit (a ++ (b ++ op ∷ []))
two_and_one a b op e f g = both_fit a (b ++ op ∷ []) e (one_more b op f g)

between_two : (a b : List Op) (op : Op) → Fit a → Fit b → Fits op → Fit (a ++ op ∷ b)
between_two a b op e f g = both_fit a (op ∷ b) e (g, f)

alone_or_after : (b : Bool) (a : List Op) (op last : Op) → (b ≡ false → Fit a) → Fits op → Fits last → Fit (cond b (op ∷ []) (a ++ last ∷ []))
alone_or_after true a op last e f g = (f, tt)
alone_or_after false a op last e f g = one_more a last (e refl) g

-- a part of a tree stays within the bound of the whole
within : (b : Bool) (at n : ℕ) → b ≡ false → at + cond b 1 (n + 1) ≤ 65535 → at + n ≤ 65535
within true at n e h = absurd cc
within false at n e h = omega arith

place_within : (b : Bool) (n m : ℕ) → n ≤ m → cond b 0 (suc n) ≤ suc m
place_within true n m h = omega arith
place_within false n m h = omega arith

-- the place of a variable is their number at most
place_of_within : (x : List ℕ) (vs : List (List ℕ)) → place_of x vs ≤ length vs
place_of_within x [] = omega arith
place_of_within x (v ∷ vs) = place_within (bytes_eq x v) (place_of x vs) (length vs) (place_of_within x vs)

count_within : (es : Exprs) → count es ≤ size_of_items es
count_within no_items = omega arith
count_within (item e es) = omega (arith, count_within es, one_at_least e)

pair_count_within : (ps : Pairs) → pair_count ps ≤ size_of_pairs ps
pair_count_within no_pairs = omega arith
pair_count_within (pair k v ps) = omega (arith, pair_count_within ps, one_at_least k)

name_fits : (s : Option Slot) (n : Name) → Fits (slot_or s n)
name_fits (Some s) n = tt
name_fits None n = tt

between_fits : (o : Operator) (end : ℕ) → end ≤ 65535 → Fit (between o end)
between_fits operator_of.And end h = (omega arith, tt)
between_fits operator_of.Or end h = (omega arith, tt)
between_fits o end h = tt

infix_fits : (o : Operator) → Fits (infix_op o)
infix_fits operator_of.And = tt
infix_fits operator_of.Or = tt
infix_fits o = tt

mutual
  pub compiled_fits : (t : Expr) (at : ℕ) (d : Names) → HasValues t → at + size t ≤ 65535 → text_bytes t ≤ 65535 → length d.variables ≤ 65535 → Fit (compiled t at d)
  compiled_fits expr.Null at d v r s w = (tt, tt)
  compiled_fits (expr.Truth b) at d v r s w = (tt, tt)
  compiled_fits (expr.Int z) at d v r s w = (v, tt)
  compiled_fits (expr.Uint n) at d v r s w = (v, tt)
  compiled_fits (expr.Text x) at d v r s w = ((omega arith, v), tt)
  compiled_fits (expr.Name x) at d v r s w = (name_fits (slot_of x d.locals) (declared_name x), tt)
  compiled_fits (expr.Field e f) at d v r s w =
      alone_or_after (is_variables e) (compiled e at d) (PushVariable (place_of f d.variables)) (TakeField f)
      (λ no. compiled_fits e at d v.0 (within (is_variables e) at (size e) no r) (omega arith) w) (omega (arith, place_of_within f d.variables)) (omega arith, v.1)
  compiled_fits (expr.Has e f) at d v r s w = one_more (compiled e at d) (TakeHas f) (compiled_fits e at d v.0 (omega arith) (omega arith) w) (omega arith, v.1)
  compiled_fits (expr.Index e i) at d v r s w =
      two_and_one (compiled e at d) (compiled i (at + size e) d) TakeIndex (compiled_fits e at d v.0 (omega arith) (omega arith) w) (compiled_fits i (at + size e) d v.1 (omega arith) (omega arith) w) tt
  compiled_fits (expr.Sequence es) at d v r s w =
      one_more (compiled_items es at d) (TakeItems (count es)) (items_fit es at d v (omega arith) (omega arith) w) (omega (arith, count_within es))
  compiled_fits (expr.Mapping ps) at d v r s w =
      one_more (compiled_pairs ps at d) (TakePairs (pair_count ps)) (pairs_fit ps at d v (omega arith) (omega arith) w) (omega (arith, pair_count_within ps))
  compiled_fits (expr.Unary p e) at d v r s w = one_more (compiled e at d) (TakeUnary p) (compiled_fits e at d v (omega arith) (omega arith) w) tt
  compiled_fits (expr.Infix o a b) at d v r s w =
      let end = at + size (expr.Infix o a b) in
      let right = at + size a + steps_between o in
      both_fit (compiled a at d) (between o end ++ (compiled b right d ++ infix_op o ∷ [])) (compiled_fits a at d v.0 (omega arith) (omega arith) w)
      (two_and_one (between o end) (compiled b right d) (infix_op o) (between_fits o end r) (compiled_fits b right d v.1 (omega arith) (omega arith) w) (infix_fits o))
  compiled_fits (expr.Conditional c a b) at d v r s w =
      let end = at + size (expr.Conditional c a b) in
      let first = at + size c + 1 in
      let second = at + size c + 1 + size a + 1 in
      between_two (compiled c at d) (compiled a first d ++ (Jump end ∷ compiled b second d)) (Branch second end) (compiled_fits c at d v.0 (omega arith) (omega arith) w)
      (between_two (compiled a first d) (compiled b second d) (Jump end) (compiled_fits a first d v.1 (omega arith) (omega arith) w) (compiled_fits b second d v.2 (omega arith) (omega arith) w) (omega arith))
      (omega arith, omega arith)
  compiled_fits (expr.Call f es) at d v r s w =
      one_more (compiled_items es at d) (TakeCall (function_named f)) (items_fit es at d v (omega arith) (omega arith) w) tt
  compiled_fits (expr.Method e f es) at d v r s w =
      two_and_one (compiled e at d) (compiled_items es (at + size e) d) (TakeCall (method_named f)) (compiled_fits e at d v.0 (omega arith) (omega arith) w)
      (items_fit es (at + size e) d v.1 (omega arith) (omega arith) w) tt
  compiled_fits (expr.Over m e x body) at d v r s w =
      between_two (compiled e at d) (compiled body (at + size e + 1) (bind x d)) (Over m (at + size (expr.Over m e x body))) (compiled_fits e at d v.0 (omega arith) (omega arith) w)
      (compiled_fits body (at + size e + 1) (bind x d) v.1 (omega arith) (omega arith) w) (omega arith)

  items_fit : (es : Exprs) (at : ℕ) (d : Names) → HaveValues es → at + size_of_items es ≤ 65535 → text_bytes_of_items es ≤ 65535 → length d.variables ≤ 65535 → Fit (compiled_items es at d)
  items_fit no_items at d v r s w = tt
  items_fit (item e es) at d v r s w =
      both_fit (compiled e at d) (compiled_items es (at + size e) d) (compiled_fits e at d v.0 (omega arith) (omega arith) w) (items_fit es (at + size e) d v.1 (omega arith) (omega arith) w)

  pairs_fit : (ps : Pairs) (at : ℕ) (d : Names) → PairsHaveValues ps → at + size_of_pairs ps ≤ 65535 → text_bytes_of_pairs ps ≤ 65535 → length d.variables ≤ 65535 → Fit (compiled_pairs ps at d)
  pairs_fit no_pairs at d v r s w = tt
  pairs_fit (pair k x ps) at d v r s w =
      both_fit (compiled k at d) (compiled x (at + size k) d ++ compiled_pairs ps (at + size k + size x) d) (compiled_fits k at d v.0 (omega arith) (omega arith) w)
      (both_fit (compiled x (at + size k) d) (compiled_pairs ps (at + size k + size x) d) (compiled_fits x (at + size k) d v.1 (omega arith) (omega arith) w)
      (pairs_fit ps (at + size k + size x) d v.2 (omega arith) (omega arith) w))

-- the code of a whole tree
pub has_room : (ops : List Op) (t : Expr) (d : Names) → ops ≡ compiled t 0 d → HasValues t → nodes t + text_bytes t ≤ 4096 → length d.variables ≤ 65535 → HaveRoom ops
has_room ops t d e v small w =
    let few = size_within t in
    let made : HaveRoom (compiled t 0 d) = record {
      count = omega (arith, few, length-compiled t 0 d);
      operands = compiled_fits t 0 d v (omega (arith, few)) (omega arith) w;
    } in
    subst (λ (ops : List Op). HaveRoom ops) (sym e) made
