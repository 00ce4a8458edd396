-- What a tree of a type means is of the type's kind.
use Rattle.std.proofs.Common.{◌≡◌, ℕ, Bool, true, false, cond, Option, Some, List, [], ◌∷◌, map, bytes_eq, subst, sym}
use Rattle.std.proofs.lemmas.Option.{same_Some}
use Rattle.std.proofs.lemmas.Bool.{false≢true}
use Rattle.celtree.specs.Tree.{Expr, Exprs, Pairs}
use Rattle.celtree.specs.Variables.{is_variables}
use Rattle.celmean.specs.Value.{Value, Outcome, Gives, with_value}
use Rattle.celmean.specs.Collections.{member}
use Rattle.celmean.specs.Meaning as meaning
use Rattle.celmean.specs.Meaning.{Environment, mean, all_means, pair_means}
use Rattle.celtypes.specs.Types.{ValueType, dyn}
use Rattle.celtypes.specs.Tables.{AllAre, none_other, one_more, Element, of_none, of_one_type, of_many_types}
use Rattle.celtypes.specs.Typing.{Scope, bound, bind, HasType, HaveTypes, HaveKeyTypes, HaveValueTypes, null_literal, bool_literal, int_literal, uint_literal, string_literal, macro_variable, declared_name, variable, field, presence, index, sequence, mapping, denial, negation, sum, arithmetic, connective, equality, comparison, membership, conditional, call, size_method, text_test, test_macro, map_macro, filter_macro, no_types, types, no_key_types, key_types, no_value_types, value_types}
use Rattle.cellaws.specs.Kinds.{KindOf, of_int, of_uint, of_bool, of_string, of_null, Meets}
use Rattle.cellaws.proofs.KindLists.{Held, keeps, held, held_dyn, EachHeld, held_list_of, held_map_of}
use Rattle.cellaws.proofs.KindMacros.{test_kind, map_kind, filter_kind}
use Rattle.cellaws.proofs.KindTables.{arithmetic_kind, sum_kind, connective_kind, equality_kind, comparison_kind, membership_kind, presence_kind, denial_kind, negation_kind, index_kind, field_kind, chosen_kind, call_kind, size_method_kind, text_test_kind}

-- each outcome is of its type's kind
abbrev pub AreHeld : List ValueType → List Outcome → Type 0
AreHeld [] [] = Unit {0}
AreHeld (t ∷ ts) (o ∷ os) = Held t o × AreHeld ts os
AreHeld _ _ = ⊥

each_any : (os : List Outcome) → EachHeld dyn os
each_any [] = tt
each_any (o ∷ os) = (held_dyn o, each_any os)

each_alike : {t : ValueType} {ts : List ValueType} → AllAre t ts → (os : List Outcome) → AreHeld ts os → EachHeld t os
each_alike none_other [] h = tt
each_alike none_other (o ∷ os) h = absurd h
each_alike (one_more rest) [] h = absurd h
each_alike (one_more rest) (o ∷ os) h = (h.0, each_alike rest os h.1)

each_element : {t : ValueType} {ts : List ValueType} → Element ts t → (os : List Outcome) → AreHeld ts os → EachHeld t os
each_element of_none os h = each_any os
each_element (of_one_type alike) [] h = absurd h
each_element (of_one_type alike) (o ∷ os) h = (h.0, each_alike alike os h.1)
each_element (of_many_types other) os h = each_any os

-- the variable of a macro, bound in the scope and in the environment

bound_held : (b : Bool) (t u : ValueType) (v : Value) (o : Option ValueType) (p : Outcome)
    → KindOf t v → cond b (Some t) o ≡ Some u → (o ≡ Some u → Held u p) → Held u (cond b (Gives v) p)
bound_held true t u v o p h e rest = subst (λ s. KindOf s v) (same_Some t u e) h
bound_held false t u v o p h e rest = rest e

meets_bind : {g : Scope} {env : Environment} (x : List ℕ) (i : ValueType) (v : Value) → KindOf i v → Meets g env → Meets (bind x i g) (meaning.bind x v env)
meets_bind {g} {env} x i v h meets = record {
  locals = λ y t e. keeps (bound_held (bytes_eq y x) i t v (bound y g.locals) (meaning.bound y env.names) h e
      (λ p. held t (meaning.bound y env.names) (meets.locals y t p)));
  variables = meets.variables;
}

-- a field, or a declared variable

held_true : (t : ValueType) (b : Bool) (x y : Outcome) → b ≡ true → Held t x → Held t (cond b x y)
held_true t true x y e h = h
held_true t false x y e h = absurd (false≢true e)

held_false : (t : ValueType) (b : Bool) (x y : Outcome) → b ≡ false → Held t y → Held t (cond b x y)
held_false t true x y e h = absurd (false≢true (sym e))
held_false t false x y e h = h

variable_held : (t : ValueType) (e : Expr) (f : List ℕ) (env : Environment) (o : Outcome) → is_variables e ≡ true
    → Held t (meaning.bound f env.variables) → Held t (meaning.field e o f env)
variable_held t e f env o is h =
    held_true t (is_variables e) (meaning.bound f env.variables) (with_value (member f) o) is h

field_held : (t : ValueType) (e : Expr) (f : List ℕ) (env : Environment) (o : Outcome) → is_variables e ≡ false
    → Held t (with_value (member f) o) → Held t (meaning.field e o f env)
field_held t e f env o is h =
    held_false t (is_variables e) (meaning.bound f env.variables) (with_value (member f) o) is h

mutual
  pub kind : {g : Scope} {e : Expr} {t : ValueType} → HasType g e t → (env : Environment) → Meets g env → Held t (mean e env)
  kind null_literal env m = of_null
  kind bool_literal env m = of_bool
  kind int_literal env m = of_int
  kind uint_literal env m = of_uint
  kind string_literal env m = of_string
  kind (macro_variable {x = x} {t = t} found) env m = held t (meaning.bound x env.names) (m.locals x t found)
  kind (declared_name {x = x} unbound known) env m = held_dyn (meaning.bound x env.names)
  kind (variable {e = e} {f = f} {t = t} is found) env m = variable_held t e f env (mean e env) is (held t (meaning.bound f env.variables) (m.variables f t found))
  kind (field {e = e} {f = f} {t = t} {u = u} is of got) env m = field_held u e f env (mean e env) is (field_kind t u f got (mean e env) (kind of env m))
  kind (presence {e = e} {f = f} of got) env m = presence_kind f (mean e env)
  kind (index {e = e} {i = i} {t = t} {u = u} {v = v} of at got) env m = index_kind t u v got (mean e env) (mean i env) (kind of env m) (kind at env m)
  kind (sequence {es = es} {t = t} ts common) env m = held_list_of t (all_means es env) (each_element common (all_means es env) (kinds ts env m))
  kind (mapping {ps = ps} {k = k} {v = v} ks vs are key of) env m =
      held_map_of k v (pair_means ps env) (each_element key (map (λ o. o.0) (pair_means ps env)) (key_kinds ks env m))
      (each_element of (map (λ o. o.1) (pair_means ps env)) (value_kinds vs env m))
  kind (denial {e = e} of fits) env m = denial_kind (mean e env)
  kind (negation {e = e} of fits) env m = negation_kind (mean e env)
  kind (sum {a = a} {b = b} {t = t} {u = u} {v = v} left right s) env m = sum_kind t u v s (mean a env) (mean b env) (kind left env m) (kind right env m)
  kind (arithmetic {a = a} {b = b} o left right c) env m = arithmetic_kind o c (mean a env) (mean b env) (kind left env m) (kind right env m)
  kind (connective {a = a} {b = b} o left right first second) env m = connective_kind o (mean a env) (mean b env)
  kind (equality {a = a} {b = b} o left right) env m = equality_kind o (mean a env) (mean b env)
  kind (comparison {a = a} {b = b} o left right first second c) env m = comparison_kind o (mean a env) (mean b env)
  kind (membership {a = a} {b = b} left right of) env m = membership_kind (mean a env) (mean b env)
  kind (conditional {c = c} {a = a} {b = b} test first second fits common) env m =
      chosen_kind common (mean c env) (mean a env) (mean b env) (kind first env m) (kind second env m)
  kind (call {e = e} of c) env m = call_kind c (mean e env)
  kind (size_method {e = e} of fits sized) env m = size_method_kind (mean e env)
  kind (text_test {a = a} {b = b} f left right first second) env m = text_test_kind f (mean a env) (mean b env)
  kind (test_macro {m = kind_of} {e = e} {body = body} {x = x} test of items other inner fits) env m =
      test_kind kind_of test (λ v. mean body (meaning.bind x v env)) (mean e env)
  kind (map_macro {e = e} {body = body} {x = x} {t = t} {i = i} {b = b} of items other inner) env m =
      map_kind t i b items (λ v. mean body (meaning.bind x v env)) (mean e env) (kind of env m) (λ v h. kind inner (meaning.bind x v env) (meets_bind x i v h m))
  kind (filter_macro {e = e} {body = body} {x = x} {t = t} {i = i} of items other inner fits) env m =
      filter_kind t i items (λ v. mean body (meaning.bind x v env)) (mean e env) (kind of env m)

  kinds : {g : Scope} {es : Exprs} {ts : List ValueType} → HaveTypes g es ts → (env : Environment) → Meets g env → AreHeld ts (all_means es env)
  kinds no_types env m = tt
  kinds (types t ts) env m = (kind t env m, kinds ts env m)

  key_kinds : {g : Scope} {ps : Pairs} {ts : List ValueType} → HaveKeyTypes g ps ts → (env : Environment) → Meets g env
      → AreHeld ts (map (λ o. o.0) (pair_means ps env))
  key_kinds no_key_types env m = tt
  key_kinds (key_types t ts) env m = (kind t env m, key_kinds ts env m)

  value_kinds : {g : Scope} {ps : Pairs} {ts : List ValueType} → HaveValueTypes g ps ts → (env : Environment) → Meets g env
      → AreHeld ts (map (λ o. o.1) (pair_means ps env))
  value_kinds no_value_types env m = tt
  value_kinds (value_types t ts) env m = (kind t env m, value_kinds ts env m)
