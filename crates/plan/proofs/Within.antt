-- The code of an expression with a type names nothing but what is declared.
use Rattle.std.proofs.Common.{◌≡◌, ◌≤◌, ℕ, ◌+◌, Bool, true, false, ◌||◌, ◌&&◌, cond, Option, Some, None, List, [], ◌∷◌, ◌++◌, codes, bytes_eq, map, refl, sym, subst, ◌∙◌, arith}
use Rattle.std.specs.List.{AllByRecursion}
use Rattle.std.proofs.lemmas.Bool.{false≢true}
use Rattle.celtree.specs.Tree.{Expr, Exprs, Pairs, no_pairs, pair}
use Rattle.celtree.specs.Variables.{is_variables}
use Rattle.celtree.specs.declared.tree.Macro.{Macro}
use Rattle.celtree.specs.declared.tree.Operator.{Operator}
use Rattle.celtree.specs.declared.tree.Operator.TheVariants as operator_of
use Rattle.celtypes.specs.Types.{ValueType}
use Rattle.celtypes.specs.Typing.{Scope, is_declared, HasType, null_literal, bool_literal, int_literal, uint_literal, string_literal, macro_variable, declared_name, variable, field, presence, index, sequence, mapping, denial, negation, sum, arithmetic, connective, equality, comparison, membership, conditional, call, size_method, text_test, test_macro, map_macro, filter_macro, HaveTypes, no_types, types, HaveKeyTypes, no_key_types, key_types, HaveValueTypes, no_value_types, value_types}
use Rattle.instructions.specs.declared.instruction.Name.TheVariants as name_of
use Rattle.instructions.specs.declared.instruction.Slot.{Slot}
use Rattle.instructions.specs.Bytes.{name_number}
use Rattle.instructions.specs.Op.{Op}
use Rattle.instructions.specs.Op as op
use Rattle.instructions.specs.Reading.{NamesUpTo}
use Rattle.plan.specs.Compilation.{compiled, compiled_items, compiled_pairs}
use Rattle.plan.specs.Names as names
use Rattle.plan.specs.Names.{Names, slot_of, slot_or}
use Rattle.plan.specs.Tables.{infix_op, between}
use Rattle.plan.specs.Correct.{NamesAreDeclared}
use Rattle.plan.proofs.Typed.{names_in, has_slot}

abbrev Within : List Op → Type 0
Within ops = AllByRecursion (NamesUpTo name_of.Params) ops

both : (xs ys : List Op) → Within xs → Within ys → Within (xs ++ ys)
both [] ys a b = b
both (x ∷ xs) ys a b = (a.0, both xs ys a.1 b)

number_of : (b1 b2 b3 b4 n b5 p : Bool) → n ≡ false → (b1 || (b2 || (b3 || ((p && b4) || (n && b5))))) ≡ true
    → name_number (cond b1 name_of.Object (cond b2 name_of.OldObject (cond b3 name_of.Request (cond b4 name_of.Params name_of.NamespaceObject)))) ≤ 4
number_of true b2 b3 b4 n b5 p none h = omega arith
number_of false true b3 b4 n b5 p none h = omega arith
number_of false false true b4 n b5 p none h = omega arith
number_of false false false true n b5 p none h = omega arith
number_of false false false false true b5 p none h = absurd (false≢true (sym none))
number_of false false false false false b5 true none h = absurd (false≢true h)
number_of false false false false false b5 false none h = absurd (false≢true h)

declared_within : (p n : Bool) (x : List ℕ) → n ≡ false → is_declared p n x ≡ true → name_number (names.declared_name x) ≤ 4
declared_within p n x none h =
    number_of (bytes_eq x (codes "object")) (bytes_eq x (codes "oldObject")) (bytes_eq x (codes "request")) (bytes_eq x (codes "params")) n (bytes_eq x (codes "namespaceObject")) p none h

named_within : (x : List ℕ) (o : Option Slot) → (o ≡ None → name_number (names.declared_name x) ≤ 4) → NamesUpTo name_of.Params (slot_or o (names.declared_name x))
named_within x (Some s) le = tt
named_within x None le = le refl

taken_within : (o : Operator) → NamesUpTo name_of.Params (infix_op o)
taken_within operator_of.Multiply = tt
taken_within operator_of.Divide = tt
taken_within operator_of.Remainder = tt
taken_within operator_of.Add = tt
taken_within operator_of.Subtract = tt
taken_within operator_of.Less = tt
taken_within operator_of.LessEqual = tt
taken_within operator_of.Greater = tt
taken_within operator_of.GreaterEqual = tt
taken_within operator_of.Equal = tt
taken_within operator_of.NotEqual = tt
taken_within operator_of.In = tt
taken_within operator_of.And = tt
taken_within operator_of.Or = tt

between_within : (o : Operator) (end : ℕ) → Within (between o end)
between_within operator_of.And end = (tt, tt)
between_within operator_of.Or end = (tt, tt)
between_within operator_of.Multiply end = tt
between_within operator_of.Divide end = tt
between_within operator_of.Remainder end = tt
between_within operator_of.Add end = tt
between_within operator_of.Subtract end = tt
between_within operator_of.Less end = tt
between_within operator_of.LessEqual end = tt
between_within operator_of.Greater end = tt
between_within operator_of.GreaterEqual end = tt
between_within operator_of.Equal end = tt
between_within operator_of.NotEqual end = tt
between_within operator_of.In end = tt

field_within : (b : Bool) (xs ys : List Op) → Within xs → (b ≡ false → Within ys) → Within (cond b xs ys)
field_within true xs ys a h = a
field_within false xs ys a h = h refl

infix_within : (o : Operator) (end : ℕ) (xs ys : List Op) → Within xs → Within ys → Within (xs ++ (between o end ++ (ys ++ infix_op o ∷ [])))
infix_within o end xs ys a b = both xs _ a (both (between o end) _ (between_within o end) (both ys _ b (taken_within o, tt)))

then_one : (xs : List Op) (op : Op) → Within xs → NamesUpTo name_of.Params op → Within (xs ++ op ∷ [])
then_one xs op a b = both xs (op ∷ []) a (b, tt)

macro_within : (m : Macro) (end : ℕ) (xs body : List Op) → Within xs → Within body → Within (xs ++ (op.Over m end ∷ body))
macro_within m end xs body a b = both xs (op.Over m end ∷ body) a (tt, b)

branch_within : (x y z : ℕ) (cs ts bs : List Op) → Within cs → Within ts → Within bs → Within (cs ++ (op.Branch x y ∷ (ts ++ (op.Jump z ∷ bs))))
branch_within x y z cs ts bs c a b = both cs (op.Branch x y ∷ (ts ++ (op.Jump z ∷ bs))) c (tt, both ts (op.Jump z ∷ bs) a (tt, b))

-- the keys of pairs, their values, and both
abbrev KeysWithin : Names → Pairs → Type 0
KeysWithin d no_pairs = Unit {0}
KeysWithin d (pair k v ps) = ((at : ℕ) → Within (compiled k at d)) × KeysWithin d ps

abbrev ValuesWithin : Names → Pairs → Type 0
ValuesWithin d no_pairs = Unit {0}
ValuesWithin d (pair k v ps) = ((at : ℕ) → Within (compiled v at d)) × ValuesWithin d ps

pairs_within : (d : Names) (ps : Pairs) → KeysWithin d ps → ValuesWithin d ps → (at : ℕ) → Within (compiled_pairs ps at d)
pairs_within d no_pairs ks vs at = tt
pairs_within d (pair k v ps) ks vs at = both _ _ (ks.0 at) (both _ _ (vs.0 _) (pairs_within d ps ks.1 vs.1 _))

mutual
  pub within : {g : Scope} {e : Expr} {t : ValueType} → g.has_namespace ≡ false → HasType g e t → (at : ℕ) → Within (compiled e at (names_in g))
  within none null_literal at = (tt, tt)
  within none bool_literal at = (tt, tt)
  within none int_literal at = (tt, tt)
  within none uint_literal at = (tt, tt)
  within none string_literal at = (tt, tt)
  within none (macro_variable {g = g} {x = x} {t = t} e) at =
      (named_within x (slot_of x (names_in g).locals) (λ f. absurd (has_slot x t g.locals e f)), tt)
  within none (declared_name {g = g} {x = x} e h) at =
      (named_within x (slot_of x (names_in g).locals) (λ f. declared_within g.has_params g.has_namespace x none h), tt)
  within none (variable {g = g} {e = e} {f = f} is h) at =
      field_within (is_variables e) _ _ (tt, tt) (λ no. absurd (false≢true (sym no ∙ is)))
  within none (field {g = g} {e = e} is h of) at =
      field_within (is_variables e) _ _ (tt, tt) (λ no. then_one (compiled e at (names_in g)) _ (within none h at) tt)
  within none (presence h of) at = then_one _ _ (within none h at) tt
  within none (index h i of) at = both _ _ (within none h at) (then_one _ _ (within none i _) tt)
  within none (sequence hs of) at = then_one _ _ (all_within none hs at) tt
  within none (mapping ks vs are k v) at = then_one _ _ (pairs_within _ _ (keys_within none ks) (values_within none vs) at) tt
  within none (denial h f) at = then_one _ _ (within none h at) tt
  within none (negation h f) at = then_one _ _ (within none h at) tt
  within none (sum a b s) at = infix_within operator_of.Add 0 _ _ (within none a at) (within none b _)
  within none (arithmetic {o = o} is a b c) at = infix_within o _ _ _ (within none a at) (within none b _)
  within none (connective {o = o} is a b f h) at = infix_within o _ _ _ (within none a at) (within none b _)
  within none (equality {o = o} is a b) at = infix_within o _ _ _ (within none a at) (within none b _)
  within none (comparison {o = o} is a b f h c) at = infix_within o _ _ _ (within none a at) (within none b _)
  within none (membership a b i) at = infix_within operator_of.In 0 _ _ (within none a at) (within none b _)
  within none (conditional c a b f t) at = branch_within _ _ _ _ _ _ (within none c at) (within none a _) (within none b _)
  within none (call h f) at = then_one _ _ (both _ [] (within none h at) tt) tt
  within none (size_method h f s) at = then_one _ _ (within none h at) tt
  within none (text_test f a b s t) at = both _ _ (within none a at) (then_one _ _ (both _ [] (within none b _) tt) tt)
  within none (test_macro m h i x body b) at = macro_within _ _ _ _ (within none h at) (within none body _)
  within none (map_macro h i x body) at = macro_within _ _ _ _ (within none h at) (within none body _)
  within none (filter_macro h i x body b) at = macro_within _ _ _ _ (within none h at) (within none body _)

  all_within : {g : Scope} {es : Exprs} {ts : List ValueType} → g.has_namespace ≡ false → HaveTypes g es ts → (at : ℕ) → Within (compiled_items es at (names_in g))
  all_within none no_types at = tt
  all_within none (types h hs) at = both _ _ (within none h at) (all_within none hs _)

  keys_within : {g : Scope} {ps : Pairs} {ks : List ValueType} → g.has_namespace ≡ false → HaveKeyTypes g ps ks → KeysWithin (names_in g) ps
  keys_within none no_key_types = tt
  keys_within none (key_types k ks) = (λ at. within none k at, keys_within none ks)

  values_within : {g : Scope} {ps : Pairs} {vs : List ValueType} → g.has_namespace ≡ false → HaveValueTypes g ps vs → ValuesWithin (names_in g) ps
  values_within none no_value_types = tt
  values_within none (value_types v vs) = (λ at. within none v at, values_within none vs)

local_names : (g : Scope) → g.locals ≡ [] → map (λ l. l.0) g.locals ≡ []
local_names g none = (λ i. map (λ l. l.0) (none i))

pub names_are_declared : NamesAreDeclared
names_are_declared g e no_locals none typed =
    subst (λ (d : Names). Within (compiled e 0 d)) (λ i. record { locals = local_names g no_locals i; variables = map (λ v. v.0) g.variables }) (within none typed.1 0)
