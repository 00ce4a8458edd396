-- What operators and functions take and give, one case a row.
use Rattle.std.specs.Prelude.{◌≢◌, ℕ, List, [], ◌∷◌, codes}
use Rattle.celtree.specs.declared.tree.Operator.{Operator}
use Rattle.celtree.specs.declared.tree.Operator.TheVariants as operator_of
use Rattle.celtree.specs.declared.tree.Macro.{Macro}
use Rattle.celtree.specs.declared.tree.Macro.TheVariants as macro_of
use Rattle.celtypes.specs.Types.{ValueType, int, uint, bool, string, dyn, list, map}

-- An operand of the first type is taken where a row asks for the second: it is that type, or dyn.
pub data Fits : ValueType → ValueType → Type 0 where
  itself : {t : ValueType} → Fits t t
  dynamic : {t : ValueType} → Fits dyn t

-- the type that two types have in common: both are that type, or it is dyn
pub data Common : ValueType → ValueType → ValueType → Type 0 where
  alike : {t : ValueType} → Common t t t
  unlike : {t u : ValueType} → t ≢ u → Common t u dyn

-- every type of a list is the first type
pub data AllAre : ValueType → List ValueType → Type 0 where
  none_other : {t : ValueType} → AllAre t []
  one_more : {t : ValueType} {us : List ValueType} → AllAre t us → AllAre t (t ∷ us)

-- the type of the elements of a literal: the type that all have, else dyn; dyn where there is none
pub data Element : List ValueType → ValueType → Type 0 where
  of_none : Element [] dyn
  of_one_type : {t : ValueType} {ts : List ValueType} → AllAre t ts → Element (t ∷ ts) t
  of_many_types : {t : ValueType} {ts : List ValueType} → (AllAre t ts → ⊥) → Element (t ∷ ts) dyn

-- the types of numbers
pub data IsNumber : ValueType → Type 0 where
  signed : IsNumber int
  unsigned : IsNumber uint

-- what a map literal takes as a key
pub data IsKey : ValueType → Type 0 where
  int_key : IsKey int
  uint_key : IsKey uint
  bool_key : IsKey bool
  string_key : IsKey string

-- each type is a key's, or dyn
pub data AreKeys : List ValueType → Type 0 where
  no_keys : AreKeys []
  keys : {t k : ValueType} {ts : List ValueType} → Fits t k → IsKey k → AreKeys ts → AreKeys (t ∷ ts)

-- `a + b`: two numbers of one type, two strings, or two lists; beside dyn the other's type, where a list gives list(dyn)
pub data Sums : ValueType → ValueType → ValueType → Type 0 where
  sum_of_numbers : {t : ValueType} → IsNumber t → Sums t t t
  sum_of_strings : Sums string string string
  sum_of_lists : {t u v : ValueType} → Common t u v → Sums (list t) (list u) (list v)
  number_and_dyn : {t : ValueType} → IsNumber t → Sums t dyn t
  dyn_and_number : {t : ValueType} → IsNumber t → Sums dyn t t
  string_and_dyn : Sums string dyn string
  dyn_and_string : Sums dyn string string
  list_and_dyn : {t : ValueType} → Sums (list t) dyn (list dyn)
  dyn_and_list : {t : ValueType} → Sums dyn (list t) (list dyn)
  dyn_and_dyn : Sums dyn dyn dyn

-- the arithmetic operators but `+`
pub data IsArithmetic : Operator → Type 0 where
  subtraction : IsArithmetic operator_of.Subtract
  multiplication : IsArithmetic operator_of.Multiply
  division : IsArithmetic operator_of.Divide
  remainder : IsArithmetic operator_of.Remainder

-- `- * / %`: two numbers of one type; beside dyn the other's type
pub data Calculates : ValueType → ValueType → ValueType → Type 0 where
  two_numbers : {t : ValueType} → IsNumber t → Calculates t t t
  number_by_dyn : {t : ValueType} → IsNumber t → Calculates t dyn t
  dyn_by_number : {t : ValueType} → IsNumber t → Calculates dyn t t
  dyn_by_dyn : Calculates dyn dyn dyn

-- `&&` and `||`
pub data IsConnective : Operator → Type 0 where
  conjunction : IsConnective operator_of.And
  disjunction : IsConnective operator_of.Or

-- `==` and `!=`
pub data IsEquality : Operator → Type 0 where
  equal : IsEquality operator_of.Equal
  not_equal : IsEquality operator_of.NotEqual

-- `< <= > >=`
pub data IsComparison : Operator → Type 0 where
  less : IsComparison operator_of.Less
  less_or_equal : IsComparison operator_of.LessEqual
  greater : IsComparison operator_of.Greater
  greater_or_equal : IsComparison operator_of.GreaterEqual

-- what these compare: two numbers, int and uint mixed, two strings, or two truth values
pub data Comparable : ValueType → ValueType → Type 0 where
  compare_numbers : {t u : ValueType} → IsNumber t → IsNumber u → Comparable t u
  compare_strings : Comparable string string
  compare_bools : Comparable bool bool

-- what `in` and macros go over: a list's items, a map's keys, or dyn
pub data ItemOf : ValueType → ValueType → Type 0 where
  list_item : {t : ValueType} → ItemOf (list t) t
  map_key : {k v : ValueType} → ItemOf (map k v) k
  dyn_item : ItemOf dyn dyn

-- `e[i]`: a list's item at an int, a map's value at any key, or dyn at any index
pub data IndexOf : ValueType → ValueType → ValueType → Type 0 where
  item_at : {t i : ValueType} → Fits i int → IndexOf (list t) i t
  value_at : {k v i : ValueType} → IndexOf (map k v) i v
  dyn_at : {i : ValueType} → IndexOf dyn i dyn

-- `e.f`: the value of a map with string or dyn keys, or dyn
pub data FieldOf : ValueType → ValueType → Type 0 where
  map_field : {k v : ValueType} → Fits k string → FieldOf (map k v) v
  dyn_field : FieldOf dyn dyn

-- what `size` takes
pub data IsSized : ValueType → Type 0 where
  string_size : IsSized string
  list_size : {t : ValueType} → IsSized (list t)
  map_size : {k v : ValueType} → IsSized (map k v)

-- what `int`, `uint` and `string` take
pub data IsConvertible : ValueType → Type 0 where
  from_int : IsConvertible int
  from_uint : IsConvertible uint
  from_string : IsConvertible string

-- `f(e)`: the function of a name, what it takes and what it gives
pub data Calls : List ℕ → ValueType → ValueType → Type 0 where
  size_of : {t s : ValueType} → Fits t s → IsSized s → Calls (codes "size") t int
  to_int : {t s : ValueType} → Fits t s → IsConvertible s → Calls (codes "int") t int
  to_uint : {t s : ValueType} → Fits t s → IsConvertible s → Calls (codes "uint") t uint
  to_string : {t s : ValueType} → Fits t s → IsConvertible s → Calls (codes "string") t string
  to_dyn : {t : ValueType} → Calls (codes "dyn") t dyn

-- `s.f(t)` for two strings
pub data IsTextTest : List ℕ → Type 0 where
  contains : IsTextTest (codes "contains")
  starts_with : IsTextTest (codes "startsWith")
  ends_with : IsTextTest (codes "endsWith")

-- the macros that test each item
pub data IsTest : Macro → Type 0 where
  all_items : IsTest macro_of.All
  some_item : IsTest macro_of.Exists
  one_item : IsTest macro_of.ExistsOne
