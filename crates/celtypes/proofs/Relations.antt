-- The rows of the table, as relations and as computed.
use Rattle.std.proofs.Common.{◌≡◌, ℕ, Bool, true, false, ◌||◌, cond, Some, List, [], ◌∷◌, codes, bytes_eq, refl, sym, ap, subst, ◌∙◌}
use Rattle.std.proofs.lemmas.Option.{none-some, same_Some, cond_some}
use Rattle.std.proofs.lemmas.Bool.{false≢true, false_from_ne_true, and_parts}
use Rattle.celtree.specs.declared.tree.Operator.{Operator}
use Rattle.celtree.specs.declared.tree.Macro.{Macro}
use Rattle.celtypes.specs.Types.{ValueType, int, uint, bool, string, null, dyn, list, map}
use Rattle.celtypes.specs.Tables.{Fits, itself, dynamic, Common, alike, unlike, AllAre, none_other, one_more, Element, of_none, of_one_type, of_many_types, IsNumber, signed, unsigned, IsKey, int_key, uint_key, bool_key, string_key, AreKeys, no_keys, keys, Sums, sum_of_numbers, sum_of_strings, sum_of_lists, number_and_dyn, dyn_and_number, string_and_dyn, dyn_and_string, list_and_dyn, dyn_and_list, dyn_and_dyn, IsArithmetic, subtraction, multiplication, division, remainder, Calculates, two_numbers, number_by_dyn, dyn_by_number, dyn_by_dyn, IsConnective, conjunction, disjunction, IsEquality, equal, not_equal, IsComparison, less, less_or_equal, greater, greater_or_equal, Comparable, compare_numbers, compare_strings, compare_bools, ItemOf, list_item, map_key, dyn_item, IndexOf, item_at, value_at, dyn_at, FieldOf, map_field, dyn_field, IsSized, string_size, list_size, map_size, IsConvertible, from_int, from_uint, from_string, Calls, size_of, to_int, to_uint, to_string, to_dyn, IsTextTest, contains, starts_with, ends_with, IsTest, all_items, some_item, one_item}
use Rattle.celtypes.specs.Computed.{same, common, all_are, element, given, fits, fits_bool, fits_int, fits_uint, fits_string, fits_number, fits_convertible, fits_key, are_keys, fits_sized, fits_ordered, list_sum, dyn_sum, sum_type, dyn_number, number_type, compares, has_items, item_type, index_type, field_type, infix_type, function_type, is_text_test, macro_type}
use Rattle.celtypes.proofs.Steps.{if_some, named}

pub given_some : (b : Bool) (t u : ValueType) → given b t ≡ Some u → (b ≡ true) × (t ≡ u)
given_some b t u h = cond_some b t u h

-- The same types.

pub same_self : (t : ValueType) → same t t ≡ true
same_self int = refl
same_self uint = refl
same_self bool = refl
same_self string = refl
same_self null = refl
same_self dyn = refl
same_self (list t) = same_self t
same_self (map k v) = rw (same_self k) (same_self v)

pub same_types : (t u : ValueType) → same t u ≡ true → t ≡ u
same_types int int e = refl
same_types uint uint e = refl
same_types bool bool e = refl
same_types string string e = refl
same_types null null e = refl
same_types dyn dyn e = refl
same_types (list t) (list u) e = ap list (same_types t u e)
same_types (map k v) (map l w) e =
    let p = and_parts (same k l) (same v w) e in
    ap (λ m. map m v) (same_types k l p.0) ∙ ap (λ m. map l m) (same_types v w p.1)
same_types t u e = absurd (false≢true e)

pub common_is : {t u v : ValueType} → Common t u v → common t u ≡ v
common_is (alike {t = t}) = rw (same_self t) refl
common_is (unlike {t = t} {u = u} other) = rw (false_from_ne_true (same t u) (λ e. other (same_types t u e))) refl

common_by : (b : Bool) (t u : ValueType) → same t u ≡ b → Common t u (cond b t dyn)
common_by true t u e = subst (λ v. Common t v t) (same_types t u e) alike
common_by false t u e = unlike (λ p. false≢true (sym e ∙ (ap (λ v. same t v) (sym p) ∙ same_self t)))

pub common_of : (t u : ValueType) → Common t u (common t u)
common_of t u = common_by (same t u) t u refl

pub all_are_is : {t : ValueType} {us : List ValueType} → AllAre t us → all_are t us ≡ true
all_are_is none_other = refl
all_are_is (one_more {t = t} rest) = rw (same_self t) (all_are_is rest)

pub all_are_of : (t : ValueType) (us : List ValueType) → all_are t us ≡ true → AllAre t us
all_are_of t [] e = none_other
all_are_of t (u ∷ us) e =
    let p = and_parts (same t u) (all_are t us) e in
    subst (λ v. AllAre t (v ∷ us)) (same_types t u p.0) (one_more (all_are_of t us p.1))

pub element_is : {ts : List ValueType} {t : ValueType} → Element ts t → element ts ≡ t
element_is of_none = refl
element_is (of_one_type all) = rw (all_are_is all) refl
element_is (of_many_types {t = t} {ts = ts} others) = rw (false_from_ne_true (all_are t ts) (λ e. others (all_are_of t ts e))) refl

element_by : (b : Bool) (t : ValueType) (ts : List ValueType) → all_are t ts ≡ b → Element (t ∷ ts) (cond b t dyn)
element_by true t ts e = of_one_type (all_are_of t ts e)
element_by false t ts e = of_many_types (λ all. false≢true (sym e ∙ all_are_is all))

pub element_of : (ts : List ValueType) → Element ts (element ts)
element_of [] = of_none
element_of (t ∷ ts) = element_by (all_are t ts) t ts refl

-- What fits a row.

-- a test that a type and `dyn` pass is passed by what fits the type
fits_is : {t s : ValueType} (test : ValueType → Bool) → test s ≡ true → test dyn ≡ true → Fits t s → test t ≡ true
fits_is test own any itself = own
fits_is test own any dynamic = any

either_fits : (own any : Bool) (asked t : ValueType) → same t asked ≡ own → same t dyn ≡ any → (own || any) ≡ true → Fits t asked
either_fits true any asked t own_is any_is e = subst (λ (u : ValueType). Fits t u) (same_types t asked own_is) itself
either_fits false true asked t own_is any_is e = subst (λ (u : ValueType). Fits u asked) (sym (same_types t dyn any_is)) dynamic
either_fits false false asked t own_is any_is e = absurd (false≢true e)

-- what passes the test of a type fits it
fits_of : (asked t : ValueType) → fits asked t ≡ true → Fits t asked
fits_of asked t e = either_fits (same t asked) (same t dyn) asked t refl refl e

pub bool_is : {t : ValueType} → Fits t bool → fits_bool t ≡ true
bool_is = fits_is fits_bool refl refl

pub bool_of : (t : ValueType) → fits_bool t ≡ true → Fits t bool
bool_of t e = fits_of bool t e

pub int_is : {t : ValueType} → Fits t int → fits_int t ≡ true
int_is = fits_is fits_int refl refl

pub int_of : (t : ValueType) → fits_int t ≡ true → Fits t int
int_of t e = fits_of int t e

pub uint_of : (t : ValueType) → fits_uint t ≡ true → Fits t uint
uint_of t e = fits_of uint t e

pub string_is : {t : ValueType} → Fits t string → fits_string t ≡ true
string_is = fits_is fits_string refl refl

pub string_of : (t : ValueType) → fits_string t ≡ true → Fits t string
string_of t e = fits_of string t e

number_of : (t : ValueType) → fits_number t ≡ true → (n : ValueType) × Fits t n × IsNumber n
number_of int e = (int, itself, signed)
number_of uint e = (uint, itself, unsigned)
number_of dyn e = (int, dynamic, signed)
number_of t e = absurd (false≢true e)

pub convertible_is : {t s : ValueType} → Fits t s → IsConvertible s → fits_convertible t ≡ true
convertible_is f from_int = fits_is fits_convertible refl refl f
convertible_is f s = fits_is fits_convertible refl refl f

from_number : {n : ValueType} → IsNumber n → IsConvertible n
from_number signed = from_int
from_number unsigned = from_uint

pub convertible_of : (t : ValueType) → fits_convertible t ≡ true → (s : ValueType) × Fits t s × IsConvertible s
convertible_of string e = (string, itself, from_string)
convertible_of t e = let n = number_of t e in (n.0, n.1, from_number n.2)

pub sized_is : {t s : ValueType} → Fits t s → IsSized s → fits_sized t ≡ true
sized_is f string_size = fits_is fits_sized refl refl f
sized_is f s = fits_is fits_sized refl refl f

pub sized_of : (t : ValueType) → fits_sized t ≡ true → (s : ValueType) × Fits t s × IsSized s
sized_of string e = (string, itself, string_size)
sized_of (list t) e = (list t, itself, list_size)
sized_of (map k v) e = (map k v, itself, map_size)
sized_of dyn e = (string, dynamic, string_size)
sized_of t e = absurd (false≢true e)

key_is : {t k : ValueType} → Fits t k → IsKey k → fits_key t ≡ true
key_is f int_key = fits_is fits_key refl refl f
key_is f k = fits_is fits_key refl refl f

key_from : {k : ValueType} → IsConvertible k → IsKey k
key_from from_int = int_key
key_from from_uint = uint_key
key_from from_string = string_key

key_of : (t : ValueType) → fits_key t ≡ true → (k : ValueType) × Fits t k × IsKey k
key_of bool e = (bool, itself, bool_key)
key_of t e = let c = convertible_of t e in (c.0, c.1, key_from c.2)

pub are_keys_is : {ts : List ValueType} → AreKeys ts → are_keys ts ≡ true
are_keys_is no_keys = refl
are_keys_is (keys fits key rest) = rw (key_is fits key) (are_keys_is rest)

pub are_keys_of : (ts : List ValueType) → are_keys ts ≡ true → AreKeys ts
are_keys_of [] e = no_keys
are_keys_of (t ∷ ts) e =
    let p = and_parts (fits_key t) (are_keys ts) e in
    let k = key_of t p.0 in
    keys k.1 k.2 (are_keys_of ts p.1)

-- Operators.

pub sum_is : {t u v : ValueType} → Sums t u v → sum_type t u ≡ Some v
sum_is (sum_of_numbers signed) = refl
sum_is (sum_of_numbers unsigned) = refl
sum_is sum_of_strings = refl
sum_is (sum_of_lists c) = ap (λ v. Some (list v)) (common_is c)
sum_is (number_and_dyn signed) = refl
sum_is (number_and_dyn unsigned) = refl
sum_is (dyn_and_number signed) = refl
sum_is (dyn_and_number unsigned) = refl
sum_is string_and_dyn = refl
sum_is dyn_and_string = refl
sum_is list_and_dyn = refl
sum_is dyn_and_list = refl
sum_is dyn_and_dyn = refl

int_sum : {u : ValueType} → Fits u int → Sums int u int
int_sum itself = sum_of_numbers signed
int_sum dynamic = number_and_dyn signed

uint_sum : {u : ValueType} → Fits u uint → Sums uint u uint
uint_sum itself = sum_of_numbers unsigned
uint_sum dynamic = number_and_dyn unsigned

string_sum : {u : ValueType} → Fits u string → Sums string u string
string_sum itself = sum_of_strings
string_sum dynamic = string_and_dyn

list_sum_of : (t u v : ValueType) → list_sum t u ≡ Some v → Sums (list t) u v
list_sum_of t (list u) v h = subst (Sums (list t) (list u)) (same_Some (list (common t u)) v h) (sum_of_lists (common_of t u))
list_sum_of t dyn v h = subst (Sums (list t) dyn) (same_Some (list dyn) v h) list_and_dyn
list_sum_of t u v h = absurd (none-some v h)

dyn_sum_of : (u v : ValueType) → dyn_sum u ≡ Some v → Sums dyn u v
dyn_sum_of int v h = subst (Sums dyn int) (same_Some int v h) (dyn_and_number signed)
dyn_sum_of uint v h = subst (Sums dyn uint) (same_Some uint v h) (dyn_and_number unsigned)
dyn_sum_of string v h = subst (Sums dyn string) (same_Some string v h) dyn_and_string
dyn_sum_of (list t) v h = subst (Sums dyn (list t)) (same_Some (list dyn) v h) dyn_and_list
dyn_sum_of dyn v h = subst (Sums dyn dyn) (same_Some dyn v h) dyn_and_dyn
dyn_sum_of u v h = absurd (none-some v h)

pub sum_of : (t u v : ValueType) → sum_type t u ≡ Some v → Sums t u v
sum_of int u v h = let p = given_some (fits_int u) int v h in subst (Sums int u) p.1 (int_sum (int_of u p.0))
sum_of uint u v h = let p = given_some (fits_uint u) uint v h in subst (Sums uint u) p.1 (uint_sum (uint_of u p.0))
sum_of string u v h = let p = given_some (fits_string u) string v h in subst (Sums string u) p.1 (string_sum (string_of u p.0))
sum_of (list t) u v h = list_sum_of t u v h
sum_of dyn u v h = dyn_sum_of u v h
sum_of t u v h = absurd (none-some v h)

pub calculates_is : {t u v : ValueType} → Calculates t u v → number_type t u ≡ Some v
calculates_is (two_numbers signed) = refl
calculates_is (two_numbers unsigned) = refl
calculates_is (number_by_dyn signed) = refl
calculates_is (number_by_dyn unsigned) = refl
calculates_is (dyn_by_number signed) = refl
calculates_is (dyn_by_number unsigned) = refl
calculates_is dyn_by_dyn = refl

int_by : {u : ValueType} → Fits u int → Calculates int u int
int_by itself = two_numbers signed
int_by dynamic = number_by_dyn signed

uint_by : {u : ValueType} → Fits u uint → Calculates uint u uint
uint_by itself = two_numbers unsigned
uint_by dynamic = number_by_dyn unsigned

dyn_by : (u v : ValueType) → dyn_number u ≡ Some v → Calculates dyn u v
dyn_by int v h = subst (Calculates dyn int) (same_Some int v h) (dyn_by_number signed)
dyn_by uint v h = subst (Calculates dyn uint) (same_Some uint v h) (dyn_by_number unsigned)
dyn_by dyn v h = subst (Calculates dyn dyn) (same_Some dyn v h) dyn_by_dyn
dyn_by u v h = absurd (none-some v h)

pub calculates_of : (t u v : ValueType) → number_type t u ≡ Some v → Calculates t u v
calculates_of int u v h = let p = given_some (fits_int u) int v h in subst (Calculates int u) p.1 (int_by (int_of u p.0))
calculates_of uint u v h = let p = given_some (fits_uint u) uint v h in subst (Calculates uint u) p.1 (uint_by (uint_of u p.0))
calculates_of dyn u v h = dyn_by u v h
calculates_of t u v h = absurd (none-some v h)

pub compares_is : {t u v w : ValueType} → Fits t v → Fits u w → Comparable v w → compares t u ≡ true
compares_is itself itself (compare_numbers signed signed) = refl
compares_is itself itself (compare_numbers signed unsigned) = refl
compares_is itself itself (compare_numbers unsigned signed) = refl
compares_is itself itself (compare_numbers unsigned unsigned) = refl
compares_is itself itself compare_strings = refl
compares_is itself itself compare_bools = refl
compares_is itself dynamic (compare_numbers signed n) = refl
compares_is itself dynamic (compare_numbers unsigned n) = refl
compares_is itself dynamic compare_strings = refl
compares_is itself dynamic compare_bools = refl
compares_is dynamic itself (compare_numbers n signed) = refl
compares_is dynamic itself (compare_numbers n unsigned) = refl
compares_is dynamic itself compare_strings = refl
compares_is dynamic itself compare_bools = refl
compares_is dynamic dynamic c = refl

-- the types as which a comparison takes two operands
abbrev pub Compares : ValueType → ValueType → Type 0
Compares t u = (v w : ValueType) × Fits t v × Fits u w × Comparable v w

dyn_compares : (u : ValueType) → fits_ordered u ≡ true → Compares dyn u
dyn_compares int e = (int, int, dynamic, itself, compare_numbers signed signed)
dyn_compares uint e = (int, uint, dynamic, itself, compare_numbers signed unsigned)
dyn_compares string e = (string, string, dynamic, itself, compare_strings)
dyn_compares bool e = (bool, bool, dynamic, itself, compare_bools)
dyn_compares dyn e = (bool, bool, dynamic, dynamic, compare_bools)
dyn_compares u e = absurd (false≢true e)

pub compares_of : (t u : ValueType) → compares t u ≡ true → Compares t u
compares_of int u e = let n = number_of u e in (int, n.0, itself, n.1, compare_numbers signed n.2)
compares_of uint u e = let n = number_of u e in (uint, n.0, itself, n.1, compare_numbers unsigned n.2)
compares_of string u e = (string, string, itself, string_of u e, compare_strings)
compares_of bool u e = (bool, bool, itself, bool_of u e, compare_bools)
compares_of dyn u e = dyn_compares u e
compares_of t u e = absurd (false≢true e)

pub item_is : {t i : ValueType} → ItemOf t i → item_type t ≡ Some i
item_is list_item = refl
item_is map_key = refl
item_is dyn_item = refl

pub item_of : (t i : ValueType) → item_type t ≡ Some i → ItemOf t i
item_of (list t) i h = subst (ItemOf (list t)) (same_Some t i h) list_item
item_of (map k v) i h = subst (ItemOf (map k v)) (same_Some k i h) map_key
item_of dyn i h = subst (ItemOf dyn) (same_Some dyn i h) dyn_item
item_of t i h = absurd (none-some i h)

pub has_items_is : {t i : ValueType} → ItemOf t i → has_items t ≡ true
has_items_is list_item = refl
has_items_is map_key = refl
has_items_is dyn_item = refl

pub has_items_of : (t : ValueType) → has_items t ≡ true → (i : ValueType) × ItemOf t i
has_items_of (list t) e = (t, list_item)
has_items_of (map k v) e = (k, map_key)
has_items_of dyn e = (dyn, dyn_item)
has_items_of t e = absurd (false≢true e)

pub index_is : {t i v : ValueType} → IndexOf t i v → index_type t i ≡ Some v
index_is (item_at fits) = rw (int_is fits) refl
index_is value_at = refl
index_is dyn_at = refl

pub index_of : (t i v : ValueType) → index_type t i ≡ Some v → IndexOf t i v
index_of (list t) i v h = let p = given_some (fits_int i) t v h in subst (IndexOf (list t) i) p.1 (item_at (int_of i p.0))
index_of (map k u) i v h = subst (IndexOf (map k u) i) (same_Some u v h) value_at
index_of dyn i v h = subst (IndexOf dyn i) (same_Some dyn v h) dyn_at
index_of t i v h = absurd (none-some v h)

pub field_is : {t u : ValueType} → FieldOf t u → field_type t ≡ Some u
field_is (map_field fits) = rw (string_is fits) refl
field_is dyn_field = refl

pub field_of : (t u : ValueType) → field_type t ≡ Some u → FieldOf t u
field_of (map k v) u h = let p = given_some (fits_string k) v u h in subst (FieldOf (map k v)) p.1 (map_field (string_of k p.0))
field_of dyn u h = subst (FieldOf dyn) (same_Some dyn u h) dyn_field
field_of t u h = absurd (none-some u h)

pub arithmetic_is : {o : Operator} → IsArithmetic o → (t u : ValueType) → infix_type o t u ≡ number_type t u
arithmetic_is subtraction t u = refl
arithmetic_is multiplication t u = refl
arithmetic_is division t u = refl
arithmetic_is remainder t u = refl

pub connective_is : {o : Operator} {t u : ValueType} → IsConnective o → Fits t bool → Fits u bool → infix_type o t u ≡ Some bool
connective_is conjunction left right = rw (bool_is left, bool_is right) refl
connective_is disjunction left right = rw (bool_is left, bool_is right) refl

pub equality_is : {o : Operator} → IsEquality o → (t u : ValueType) → infix_type o t u ≡ Some bool
equality_is equal t u = refl
equality_is not_equal t u = refl

pub comparison_is : {o : Operator} → IsComparison o → (t u : ValueType) → compares t u ≡ true → infix_type o t u ≡ Some bool
comparison_is less t u e = rw e refl
comparison_is less_or_equal t u e = rw e refl
comparison_is greater t u e = rw e refl
comparison_is greater_or_equal t u e = rw e refl

-- Calls and macros.

pub call_is : {f : List ℕ} {t u : ValueType} → Calls f t u → function_type f t ≡ Some u
call_is (size_of fits sized) = rw (sized_is fits sized) refl
call_is (to_int fits from) = rw (convertible_is fits from) refl
call_is (to_uint fits from) = rw (convertible_is fits from) refl
call_is (to_string fits from) = rw (convertible_is fits from) refl
call_is to_dyn = refl

convertible_call : (f name : List ℕ) (t u v : ValueType) → bytes_eq f name ≡ true → given (fits_convertible t) u ≡ Some v
    → ((s : ValueType) → Fits t s → IsConvertible s → Calls name t u) → Calls f t v
convertible_call f name t u v e h make =
    let p = given_some (fits_convertible t) u v h in
    let s = convertible_of t p.0 in
    subst (Calls f t) p.1 (subst (λ n. Calls n t u) (sym (named f name e)) (make s.0 s.1 s.2))

size_call : (f : List ℕ) (t v : ValueType) → bytes_eq f (codes "size") ≡ true → given (fits_sized t) int ≡ Some v → Calls f t v
size_call f t v e h =
    let p = given_some (fits_sized t) int v h in
    let s = sized_of t p.0 in
    subst (Calls f t) p.1 (subst (λ n. Calls n t int) (sym (named f (codes "size") e)) (size_of s.1 s.2))

dyn_call : (f : List ℕ) (t v : ValueType) → bytes_eq f (codes "dyn") ≡ true → Some dyn ≡ Some v → Calls f t v
dyn_call f t v e h = subst (Calls f t) (same_Some dyn v h) (subst (λ n. Calls n t dyn) (sym (named f (codes "dyn") e)) to_dyn)

pub call_of : (f : List ℕ) (t u : ValueType) → function_type f t ≡ Some u → Calls f t u
call_of f t u h =
    if_some (bytes_eq f (codes "size")) _ _ u h (λ e p. size_call f t u e p)
    (λ _ p. if_some (bytes_eq f (codes "int")) _ _ u p (λ e q. convertible_call f (codes "int") t int u e q (λ s fits from. to_int fits from))
    (λ _ q. if_some (bytes_eq f (codes "uint")) _ _ u q (λ e r. convertible_call f (codes "uint") t uint u e r (λ s fits from. to_uint fits from))
    (λ _ r. if_some (bytes_eq f (codes "string")) _ _ u r (λ e s. convertible_call f (codes "string") t string u e s (λ s fits from. to_string fits from))
    (λ _ s. if_some (bytes_eq f (codes "dyn")) _ _ u s (λ e x. dyn_call f t u e x) (λ _ x. absurd (none-some u x))))))

pub text_test_is : {f : List ℕ} → IsTextTest f → is_text_test f ≡ true
text_test_is contains = refl
text_test_is starts_with = refl
text_test_is ends_with = refl

text_test_by : (f : List ℕ) (a b c : Bool) → bytes_eq f (codes "contains") ≡ a → bytes_eq f (codes "startsWith") ≡ b → bytes_eq f (codes "endsWith") ≡ c
    → is_text_test f ≡ true → IsTextTest f
text_test_by f true b c p q r e = subst IsTextTest (sym (named f (codes "contains") p)) contains
text_test_by f false true c p q r e = subst IsTextTest (sym (named f (codes "startsWith") q)) starts_with
text_test_by f false false true p q r e = subst IsTextTest (sym (named f (codes "endsWith") r)) ends_with
text_test_by f false false false p q r e = absurd (false≢true (sym (rw (p, q, r) refl) ∙ e))

pub text_test_of : (f : List ℕ) → is_text_test f ≡ true → IsTextTest f
text_test_of f e = text_test_by f (bytes_eq f (codes "contains")) (bytes_eq f (codes "startsWith")) (bytes_eq f (codes "endsWith")) refl refl refl e

pub test_is : {m : Macro} {b : ValueType} → IsTest m → (i : ValueType) → Fits b bool → macro_type m i b ≡ Some bool
test_is all_items i fits = rw (bool_is fits) refl
test_is some_item i fits = rw (bool_is fits) refl
test_is one_item i fits = rw (bool_is fits) refl
