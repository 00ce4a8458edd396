-- A type that the relation gives is the one that is computed.
use Rattle.std.proofs.Common.{◌≡◌, Some, List, codes, refl, ◌∙◌}
use Rattle.celtree.specs.Tree.{Expr, Exprs, Pairs}
use Rattle.celtypes.specs.Types.{ValueType}
use Rattle.celtypes.specs.Typing.{Scope, HasType, HaveTypes, HaveKeyTypes, HaveValueTypes, null_literal, bool_literal, int_literal, uint_literal, string_literal, macro_variable, declared_name, variable, field, presence, index, sequence, mapping, denial, negation, sum, arithmetic, connective, equality, comparison, membership, conditional, call, size_method, text_test, test_macro, map_macro, filter_macro, no_types, types, no_key_types, key_types, no_value_types, value_types}
use Rattle.celtypes.specs.Computed.{type_of, types_of, key_types_of, value_types_of}
use Rattle.celtypes.proofs.Steps.{unnamed}
use Rattle.celtypes.proofs.Relations.{common_is, element_is, bool_is, int_is, string_is, sized_is, are_keys_is, sum_is, calculates_is, compares_is, item_is, has_items_is, index_is, field_is, arithmetic_is, connective_is, equality_is, comparison_is, call_is, text_test_is, test_is}

mutual
  pub complete : {g : Scope} {e : Expr} {t : ValueType} → HasType g e t → type_of e g ≡ Some t
  complete null_literal = refl
  complete bool_literal = refl
  complete int_literal = refl
  complete uint_literal = refl
  complete string_literal = refl
  complete (macro_variable found) = rw found refl
  complete (declared_name unbound known) = rw (unbound, known) refl
  complete (variable is found) = rw is found
  complete (field is of got) = rw (is, complete of) (field_is got)
  complete (presence of got) = rw (complete of, field_is got) refl
  complete (index of at got) = rw (complete of, complete at) (index_is got)
  complete (sequence of common) = rw (completes of, element_is common) refl
  complete (mapping ks vs are k v) = rw (key_completes ks, value_completes vs, are_keys_is are, element_is k, element_is v) refl
  complete (denial of fits) = rw (complete of, bool_is fits) refl
  complete (negation of fits) = rw (complete of, int_is fits) refl
  complete (sum a b s) = rw (complete a, complete b) (sum_is s)
  complete (arithmetic {t = t} {u = u} o a b s) = rw (complete a, complete b) (arithmetic_is o t u ∙ calculates_is s)
  complete (connective o a b left right) = rw (complete a, complete b) (connective_is o left right)
  complete (equality {t = t} {u = u} o a b) = rw (complete a, complete b) (equality_is o t u)
  complete (comparison {t = t} {u = u} o a b left right s) = rw (complete a, complete b) (comparison_is o t u (compares_is left right s))
  complete (membership a b of) = rw (complete a, complete b, has_items_is of) refl
  complete (conditional c a b fits of) = rw (complete c, complete a, complete b, bool_is fits, common_is of) refl
  complete (call of c) = rw (complete of) (call_is c)
  complete (size_method of fits sized) = rw (complete of, sized_is fits sized) refl
  complete (text_test f a b left right) = rw (complete a, complete b, text_test_is f, string_is left, string_is right) refl
  complete (test_macro {x = x} {i = i} m of items other body fits) = rw (unnamed x (codes "variables") other, complete of, item_is items, complete body) (test_is m i fits)
  complete (map_macro {x = x} of items other body) = rw (unnamed x (codes "variables") other, complete of, item_is items, complete body) refl
  complete (filter_macro {x = x} of items other body fits) = rw (unnamed x (codes "variables") other, complete of, item_is items, complete body, bool_is fits) refl

  pub completes : {g : Scope} {es : Exprs} {ts : List ValueType} → HaveTypes g es ts → types_of es g ≡ Some ts
  completes no_types = refl
  completes (types t ts) = rw (complete t, completes ts) refl

  pub key_completes : {g : Scope} {ps : Pairs} {ts : List ValueType} → HaveKeyTypes g ps ts → key_types_of ps g ≡ Some ts
  key_completes no_key_types = refl
  key_completes (key_types t ts) = rw (complete t, key_completes ts) refl

  pub value_completes : {g : Scope} {ps : Pairs} {ts : List ValueType} → HaveValueTypes g ps ts → value_types_of ps g ≡ Some ts
  value_completes no_value_types = refl
  value_completes (value_types t ts) = rw (complete t, value_completes ts) refl
