-- The code of an expression: its operands' code, left to right, and then the instruction that takes them.
use Rattle.std.specs.Prelude.{ℕ, suc, ◌+◌, if◌then◌else◌, List, [], ◌∷◌, ◌++◌}
use Rattle.celtree.specs.Tree.{Expr, Null, Truth, Int, Uint, Text, Name, Field, Has, Index, Sequence, Mapping, Unary, Infix, Conditional, Call, Method, Exprs, no_items, item, Pairs, no_pairs, pair}
use Rattle.celtree.specs.Tree as expr
use Rattle.celtree.specs.Variables.{is_variables}
use Rattle.instructions.specs.Op.{Op, PushInt, PushUint, PushText, PushTruth, PushNull, PushVariable, TakeField, TakeHas, TakeIndex, TakeItems, TakePairs, TakeUnary, TakeCall, Branch, Jump, Over}
use Rattle.plan.specs.Names.{Names, bind, name_op, place_of}
use Rattle.plan.specs.Tables.{infix_op, between, steps_between, function_named, method_named}

-- how many items, and how many pairs
abbrev pub count : Exprs → ℕ
count no_items = 0
count (item e es) = suc (count es)

abbrev pub pair_count : Pairs → ℕ
pair_count no_pairs = 0
pair_count (pair k v ps) = suc (pair_count ps)

-- how many instructions the code has: the same wherever it stands
abbrev mutual
  pub size : Expr → ℕ
  size Null = 1
  size (Truth b) = 1
  size (Int z) = 1
  size (Uint n) = 1
  size (Text s) = 1
  size (Name x) = 1
  size (Field e f) = if is_variables e then 1 else size e + 1
  size (Has e f) = size e + 1
  size (Index e i) = size e + size i + 1
  size (Sequence es) = size_of_items es + 1
  size (Mapping ps) = size_of_pairs ps + 1
  size (Unary p e) = size e + 1
  size (Infix o a b) = size a + steps_between o + size b + 1
  size (Conditional c a b) = size c + 1 + size a + 1 + size b
  size (Call f es) = size_of_items es + 1
  size (Method e f es) = size e + size_of_items es + 1
  size (expr.Over m e x body) = size e + 1 + size body

  pub size_of_items : Exprs → ℕ
  size_of_items no_items = 0
  size_of_items (item e es) = size e + size_of_items es

  pub size_of_pairs : Pairs → ℕ
  size_of_pairs no_pairs = 0
  size_of_pairs (pair k v ps) = size k + size v + size_of_pairs ps

-- The code that stands at the place `at`, where the names are these. `variables.V` is the variable's place among the policy's variables. A
-- macro's end, and where `&&`, `||` and `?:` lead, is the number of an instruction.
abbrev mutual
  pub compiled : Expr → (at : ℕ) → Names → List Op
  compiled Null at d = PushNull ∷ []
  compiled (Truth b) at d = PushTruth b ∷ []
  compiled (Int z) at d = PushInt z ∷ []
  compiled (Uint n) at d = PushUint n ∷ []
  compiled (Text s) at d = PushText s ∷ []
  compiled (Name x) at d = name_op x d ∷ []
  compiled (Field e f) at d = if is_variables e then PushVariable (place_of f d.variables) ∷ [] else compiled e at d ++ TakeField f ∷ []
  compiled (Has e f) at d = compiled e at d ++ TakeHas f ∷ []
  compiled (Index e i) at d = compiled e at d ++ (compiled i (at + size e) d ++ TakeIndex ∷ [])
  compiled (Sequence es) at d = compiled_items es at d ++ TakeItems (count es) ∷ []
  compiled (Mapping ps) at d = compiled_pairs ps at d ++ TakePairs (pair_count ps) ∷ []
  compiled (Unary p e) at d = compiled e at d ++ TakeUnary p ∷ []
  compiled (Infix o a b) at d =
      compiled a at d ++ (between o (at + size (Infix o a b)) ++ (compiled b (at + size a + steps_between o) d ++ infix_op o ∷ []))
  compiled (Conditional c a b) at d =
      compiled c at d ++ (Branch (at + size c + 1 + size a + 1) (at + size (Conditional c a b))
      ∷ (compiled a (at + size c + 1) d ++ (Jump (at + size (Conditional c a b)) ∷ compiled b (at + size c + 1 + size a + 1) d)))
  compiled (Call f es) at d = compiled_items es at d ++ TakeCall (function_named f) ∷ []
  compiled (Method e f es) at d = compiled e at d ++ (compiled_items es (at + size e) d ++ TakeCall (method_named f) ∷ [])
  compiled (expr.Over m e x body) at d =
      compiled e at d ++ (Over m (at + size (expr.Over m e x body)) ∷ compiled body (at + size e + 1) (bind x d))

  pub compiled_items : Exprs → (at : ℕ) → Names → List Op
  compiled_items no_items at d = []
  compiled_items (item e es) at d = compiled e at d ++ compiled_items es (at + size e) d

  -- each key before its value
  pub compiled_pairs : Pairs → (at : ℕ) → Names → List Op
  compiled_pairs no_pairs at d = []
  compiled_pairs (pair k v ps) at d = compiled k at d ++ (compiled v (at + size k) d ++ compiled_pairs ps (at + size k + size v) d)
