-- The kinds of what operators and functions give.
use Rattle.std.proofs.Common.{ℕ, ℤ, pos, neg_ℤ, ◌+◌, ◌-◌, ◌*◌, ◌/◌, ◌%◌, ◌^◌, ◌+ℤ◌, ◌-ℤ◌, ◌*ℤ◌, int_div, int_rem, Bool, true, false, not, ◌&&◌, ◌||◌, ◌==◌, nat_lt, nat_le, cond, Option, Some, None, option_map, List, [], ◌∷◌, ◌++◌, length, chars, codes}
use Rattle.std.specs.Str.Parse.{digits_value}
use Rattle.celtree.specs.declared.tree.Operator.{Operator}
use Rattle.celtree.specs.declared.tree.Operator.TheVariants as operator_of
use Rattle.celtree.specs.declared.tree.Prefix.TheVariants as prefix_of
use Rattle.celmean.specs.Value.{Value, Truth, Int, Uint, Text, Sequence, Mapping, Values, sequence, items, entries, Outcome, Gives, Error, truth_or_error, with_value, with_values}
use Rattle.celmean.specs.Arithmetic as arithmetic
use Rattle.celmean.specs.Order as order
use Rattle.celmean.specs.Collections as collections
use Rattle.celmean.specs.Macros.{is_true, is_false}
use Rattle.celmean.specs.Operators.{denial, on_values, infixed, prefixed}
use Rattle.celmean.specs.Functions as functions
use Rattle.celmean.specs.Texts as texts
use Rattle.celmean.specs.Meaning.{chosen}
use Rattle.celtypes.specs.Types.{ValueType, int, uint, bool, string, dyn, list}
use Rattle.celtypes.specs.Tables.{Common, alike, unlike, signed, unsigned, Sums, sum_of_numbers, sum_of_strings, sum_of_lists, number_and_dyn, dyn_and_number, string_and_dyn, dyn_and_string, list_and_dyn, dyn_and_list, dyn_and_dyn, IsArithmetic, subtraction, multiplication, division, remainder, Calculates, two_numbers, number_by_dyn, dyn_by_number, dyn_by_dyn, IsConnective, conjunction, disjunction, IsEquality, equal, not_equal, IsComparison, less, less_or_equal, greater, greater_or_equal, IndexOf, item_at, value_at, dyn_at, FieldOf, map_field, dyn_field, Calls, size_of, to_int, to_uint, to_string, to_dyn, IsTextTest, contains, starts_with, ends_with}
use Rattle.cellaws.specs.Kinds.{KindOf, of_dyn, of_int, of_uint, of_bool, of_string, of_list, of_map, ItemsOf}
use Rattle.cellaws.proofs.KindLists.{Held, held_dyn, held_cond, held_list, each_item, each_entry, each_dyn, each_append, held_item, held_lookup}

-- an operation on values, lifted to outcomes

pub with_value_held : (t r : ValueType) (f : Value → Outcome) (o : Outcome) → ((v : Value) → KindOf t v → Held r (f v)) → Held t o → Held r (with_value f o)
with_value_held t r f Error step h = tt
with_value_held t r f (Gives v) step h = step v h

pub with_values_held : (t u r : ValueType) (f : Value → Value → Outcome) (a b : Outcome) → ((v w : Value) → KindOf t v → KindOf u w → Held r (f v w))
    → Held t a → Held u b → Held r (with_values f a b)
with_values_held t u r f Error b step h i = tt
with_values_held t u r f (Gives v) Error step h i = tt
with_values_held t u r f (Gives v) (Gives w) step h i = step v w h i

-- whatever the operands are
pub always : (r : ValueType) (f : Value → Outcome) (o : Outcome) → ((v : Value) → Held r (f v)) → Held r (with_value f o)
always r f Error step = tt
always r f (Gives v) step = step v

pub always_two : (r : ValueType) (f : Value → Value → Outcome) (a b : Outcome) → ((v w : Value) → Held r (f v w)) → Held r (with_values f a b)
always_two r f Error b step = tt
always_two r f (Gives v) Error step = tt
always_two r f (Gives v) (Gives w) step = step v w

-- What arithmetic makes of two values: a number of two numbers of its form, a text of two texts, a list of two lists, or the error.
data Operates : Value → Value → Outcome → Type 0 where
  neither : {v w : Value} → Operates v w Error
  ints : {a b c : ℤ} → Operates (Int a) (Int b) (Gives (Int c))
  uints : {a b c : ℕ} → Operates (Uint a) (Uint b) (Gives (Uint c))
  strings : {a b c : List ℕ} → Operates (Text a) (Text b) (Gives (Text c))
  lists : {a b : Values} → Operates (Sequence a) (Sequence b) (Gives (Sequence (sequence (items a ++ items b))))

operates_cond : {v w : Value} (b : Bool) (x y : Outcome) → Operates v w x → Operates v w y → Operates v w (cond b x y)
operates_cond true x y h k = h
operates_cond false x y h k = k

signed_operates : (a b z : ℤ) → Operates (Int a) (Int b) (arithmetic.signed z)
signed_operates a b z = operates_cond (arithmetic.in_i64 z) (Gives (Int z)) Error ints neither

unsigned_operates : (a b n : ℕ) → Operates (Uint a) (Uint b) (arithmetic.unsigned n)
unsigned_operates a b n = operates_cond (nat_lt n (2 ^ 64)) (Gives (Uint n)) Error uints neither

difference_operates : (v w : Value) → Operates v w (arithmetic.difference v w)
difference_operates (Int a) (Int b) = signed_operates a b (a -ℤ b)
difference_operates (Uint a) (Uint b) = operates_cond (nat_le b a) (Gives (Uint (a - b))) Error uints neither
difference_operates v w = neither

product_operates : (v w : Value) → Operates v w (arithmetic.product v w)
product_operates (Int a) (Int b) = signed_operates a b (a *ℤ b)
product_operates (Uint a) (Uint b) = unsigned_operates a b (a * b)
product_operates v w = neither

quotient_operates : (v w : Value) → Operates v w (arithmetic.quotient v w)
quotient_operates (Int a) (Int b) = operates_cond (arithmetic.is_zero b) Error (arithmetic.signed (int_div a b)) neither (signed_operates a b (int_div a b))
quotient_operates (Uint a) (Uint b) = operates_cond (b == 0) Error (Gives (Uint (a / b))) neither uints
quotient_operates v w = neither

remainder_operates : (v w : Value) → Operates v w (arithmetic.remainder v w)
remainder_operates (Int a) (Int b) =
    operates_cond (arithmetic.is_zero b) Error (cond (arithmetic.in_i64 (int_div a b)) (Gives (Int (int_rem a b))) Error) neither
    (operates_cond (arithmetic.in_i64 (int_div a b)) (Gives (Int (int_rem a b))) Error ints neither)
remainder_operates (Uint a) (Uint b) = operates_cond (b == 0) Error (Gives (Uint (a % b))) neither uints
remainder_operates v w = neither

sum_operates : (v w : Value) → Operates v w (arithmetic.sum v w)
sum_operates (Int a) (Int b) = signed_operates a b (a +ℤ b)
sum_operates (Uint a) (Uint b) = unsigned_operates a b (a + b)
sum_operates (Text s) (Text t) = operates_cond (nat_le (length s + length t) 65536) (Gives (Text (s ++ t))) Error strings neither
sum_operates (Sequence s) (Sequence t) =
    operates_cond (nat_le (length (items s) + length (items t)) 1024) (Gives (Sequence (sequence (items s ++ items t)))) Error lists neither
sum_operates v w = neither

-- one operand shows the form of the result

by_int : {z : ℤ} {w : Value} {o : Outcome} → Operates (Int z) w o → Held int o
by_int neither = tt
by_int ints = of_int

by_second_int : {z : ℤ} {v : Value} {o : Outcome} → Operates v (Int z) o → Held int o
by_second_int neither = tt
by_second_int ints = of_int

by_uint : {n : ℕ} {w : Value} {o : Outcome} → Operates (Uint n) w o → Held uint o
by_uint neither = tt
by_uint uints = of_uint

by_second_uint : {n : ℕ} {v : Value} {o : Outcome} → Operates v (Uint n) o → Held uint o
by_second_uint neither = tt
by_second_uint uints = of_uint

by_string : {s : List ℕ} {w : Value} {o : Outcome} → Operates (Text s) w o → Held string o
by_string neither = tt
by_string strings = of_string

by_second_string : {s : List ℕ} {v : Value} {o : Outcome} → Operates v (Text s) o → Held string o
by_second_string neither = tt
by_second_string strings = of_string

by_list : {a : Values} {w : Value} {o : Outcome} → Operates (Sequence a) w o → Held (list dyn) o
by_list neither = tt
by_list (lists {a = a} {b = b}) = held_list dyn (items a ++ items b) (each_dyn (items a ++ items b))

by_second_list : {a : Values} {v : Value} {o : Outcome} → Operates v (Sequence a) o → Held (list dyn) o
by_second_list neither = tt
by_second_list (lists {a = a} {b = b}) = held_list dyn (items a ++ items b) (each_dyn (items a ++ items b))

by_lists : {t : ValueType} {a b : Values} {o : Outcome} → ItemsOf t a → ItemsOf t b → Operates (Sequence a) (Sequence b) o → Held (list t) o
by_lists h i neither = tt
by_lists {t} h i (lists {a = a} {b = b}) = held_list t (items a ++ items b) (each_append t (items a) (items b) (each_item h) (each_item i))

by_two_lists : {t u r : ValueType} {a b : Values} {o : Outcome} → Common t u r → ItemsOf t a → ItemsOf u b → Operates (Sequence a) (Sequence b) o → Held (list r) o
by_two_lists alike h i p = by_lists h i p
by_two_lists (unlike other) h i p = by_list p

-- `- * / %`

calculated : {t u r : ValueType} {v w : Value} {o : Outcome} → Calculates t u r → KindOf t v → KindOf u w → Operates v w o → Held r o
calculated (two_numbers signed) of_int i p = by_int p
calculated (two_numbers unsigned) of_uint i p = by_uint p
calculated (number_by_dyn signed) of_int i p = by_int p
calculated (number_by_dyn unsigned) of_uint i p = by_uint p
calculated (dyn_by_number signed) h of_int p = by_second_int p
calculated (dyn_by_number unsigned) h of_uint p = by_second_uint p
calculated {o = o} dyn_by_dyn h i p = held_dyn o

pub arithmetic_kind : {o : Operator} {t u r : ValueType} → IsArithmetic o → Calculates t u r → (a b : Outcome) → Held t a → Held u b → Held r (infixed o a b)
arithmetic_kind subtraction c a b h i = with_values_held _ _ _ (on_values operator_of.Subtract) a b (λ v w k l. calculated c k l (difference_operates v w)) h i
arithmetic_kind multiplication c a b h i = with_values_held _ _ _ (on_values operator_of.Multiply) a b (λ v w k l. calculated c k l (product_operates v w)) h i
arithmetic_kind division c a b h i = with_values_held _ _ _ (on_values operator_of.Divide) a b (λ v w k l. calculated c k l (quotient_operates v w)) h i
arithmetic_kind remainder c a b h i = with_values_held _ _ _ (on_values operator_of.Remainder) a b (λ v w k l. calculated c k l (remainder_operates v w)) h i

-- `+`

summed : {t u r : ValueType} {v w : Value} {o : Outcome} → Sums t u r → KindOf t v → KindOf u w → Operates v w o → Held r o
summed (sum_of_numbers signed) of_int i p = by_int p
summed (sum_of_numbers unsigned) of_uint i p = by_uint p
summed sum_of_strings of_string i p = by_string p
summed (sum_of_lists common) (of_list h) (of_list i) p = by_two_lists common h i p
summed (number_and_dyn signed) of_int i p = by_int p
summed (number_and_dyn unsigned) of_uint i p = by_uint p
summed (dyn_and_number signed) h of_int p = by_second_int p
summed (dyn_and_number unsigned) h of_uint p = by_second_uint p
summed string_and_dyn of_string i p = by_string p
summed dyn_and_string h of_string p = by_second_string p
summed list_and_dyn (of_list h) i p = by_list p
summed dyn_and_list h (of_list i) p = by_second_list p
summed {o = o} dyn_and_dyn h i p = held_dyn o

pub sum_kind : (t u r : ValueType) → Sums t u r → (a b : Outcome) → Held t a → Held u b → Held r (infixed operator_of.Add a b)
sum_kind t u r s a b h i = with_values_held t u r (on_values operator_of.Add) a b (λ v w k l. summed s k l (sum_operates v w)) h i

-- truth values

pub connective_kind : {o : Operator} → IsConnective o → (a b : Outcome) → Held bool (infixed o a b)
connective_kind conjunction a b =
    held_cond bool (is_false a || is_false b) (Gives (Truth false)) (cond (is_true a && is_true b) (Gives (Truth true)) Error)
    of_bool (held_cond bool (is_true a && is_true b) (Gives (Truth true)) Error of_bool tt)
connective_kind disjunction a b =
    held_cond bool (is_true a || is_true b) (Gives (Truth true)) (cond (is_false a && is_false b) (Gives (Truth false)) Error)
    of_bool (held_cond bool (is_false a && is_false b) (Gives (Truth false)) Error of_bool tt)

pub equality_kind : {o : Operator} → IsEquality o → (a b : Outcome) → Held bool (infixed o a b)
equality_kind equal a b = always_two bool (on_values operator_of.Equal) a b (λ v w. of_bool)
equality_kind not_equal a b = always_two bool (on_values operator_of.NotEqual) a b (λ v w. of_bool)

truth_held : (o : Option Bool) → Held bool (truth_or_error o)
truth_held None = tt
truth_held (Some b) = of_bool

pub comparison_kind : {o : Operator} → IsComparison o → (a b : Outcome) → Held bool (infixed o a b)
comparison_kind less a b = always_two bool (on_values operator_of.Less) a b (λ v w. truth_held (order.less v w))
comparison_kind less_or_equal a b = always_two bool (on_values operator_of.LessEqual) a b (λ v w. truth_held (option_map not (order.less w v)))
comparison_kind greater a b = always_two bool (on_values operator_of.Greater) a b (λ v w. truth_held (order.less w v))
comparison_kind greater_or_equal a b = always_two bool (on_values operator_of.GreaterEqual) a b (λ v w. truth_held (option_map not (order.less v w)))

contained_held : (v w : Value) → Held bool (collections.contained v w)
contained_held v (Sequence ws) = of_bool
contained_held v (Mapping es) = of_bool
contained_held v w = tt

pub membership_kind : (a b : Outcome) → Held bool (infixed operator_of.In a b)
membership_kind a b = always_two bool (on_values operator_of.In) a b contained_held

has_member_held : (f : List ℕ) (v : Value) → Held bool (collections.has_member f v)
has_member_held f (Mapping es) = of_bool
has_member_held f v = tt

pub presence_kind : (f : List ℕ) (o : Outcome) → Held bool (with_value (collections.has_member f) o)
presence_kind f o = always bool (collections.has_member f) o (has_member_held f)

denial_held : (v : Value) → Held bool (denial v)
denial_held (Truth b) = of_bool
denial_held v = tt

pub denial_kind : (o : Outcome) → Held bool (with_value (prefixed prefix_of.Not) o)
denial_kind o = always bool (prefixed prefix_of.Not) o denial_held

-- numbers

pub signed_held : (z : ℤ) → Held int (arithmetic.signed z)
signed_held z = held_cond int (arithmetic.in_i64 z) (Gives (Int z)) Error of_int tt

unsigned_held : (n : ℕ) → Held uint (arithmetic.unsigned n)
unsigned_held n = held_cond uint (nat_lt n (2 ^ 64)) (Gives (Uint n)) Error of_uint tt

negation_held : (v : Value) → Held int (arithmetic.negation v)
negation_held (Int a) = signed_held (neg_ℤ a)
negation_held v = tt

pub negation_kind : (o : Outcome) → Held int (with_value (prefixed prefix_of.Negate) o)
negation_kind o = always int (prefixed prefix_of.Negate) o negation_held

-- parts of lists and maps

indexed_held : {t i r : ValueType} {v : Value} → IndexOf t i r → KindOf t v → (w : Value) → Held r (collections.indexed v w)
indexed_held (item_at fits) (of_list {t = t} {vs = vs} h) (Int n) = held_item t (items vs) n (each_item h)
indexed_held (item_at fits) (of_list h) w = tt
indexed_held value_at (of_map {k = k} {v = v} {es = es} h) w = held_lookup k v w (entries es) (each_entry h)
indexed_held dyn_at (of_dyn {v = v}) w = held_dyn (collections.indexed v w)

pub index_kind : (t i r : ValueType) → IndexOf t i r → (a b : Outcome) → Held t a → Held i b → Held r (with_values collections.indexed a b)
index_kind t i r of a b h k = with_values_held t i r collections.indexed a b (λ v w l m. indexed_held of l w) h k

member_held : {t r : ValueType} {v : Value} (f : List ℕ) → FieldOf t r → KindOf t v → Held r (collections.member f v)
member_held f (map_field fits) (of_map {k = k} {v = v} {es = es} h) = held_lookup k v (Text f) (entries es) (each_entry h)
member_held f dyn_field (of_dyn {v = v}) = held_dyn (collections.member f v)

pub field_kind : (t r : ValueType) (f : List ℕ) → FieldOf t r → (o : Outcome) → Held t o → Held r (with_value (collections.member f) o)
field_kind t r f of o h = with_value_held t r (collections.member f) o (λ v k. member_held f of k) h

-- `c ? a : b`

pub chosen_kind : {t u r : ValueType} → Common t u r → (c a b : Outcome) → Held t a → Held u b → Held r (chosen c a b)
chosen_kind (alike {t = t}) c a b h i = held_cond t (is_true c) a (cond (is_false c) b Error) h (held_cond t (is_false c) b Error i tt)
chosen_kind (unlike other) c a b h i = held_dyn (chosen c a b)

-- functions

size_held : (v : Value) → Held int (functions.size v)
size_held (Text s) = signed_held (pos (length (chars s)))
size_held (Sequence vs) = signed_held (pos (length (items vs)))
size_held (Mapping es) = signed_held (pos (length (entries es)))
size_held v = tt

signed_of_text_held : (s : List ℕ) → Held int (texts.signed_of_text s)
signed_of_text_held [] = tt
signed_of_text_held (c ∷ s) =
    let minus : Outcome = cond (texts.is_numeral s) (arithmetic.signed (neg_ℤ (pos (digits_value 10 s)))) Error in
    let plus : Outcome = cond (texts.is_numeral (c ∷ s)) (arithmetic.signed (pos (digits_value 10 (c ∷ s)))) Error in
    held_cond int (c == 45) minus plus
    (held_cond int (texts.is_numeral s) (arithmetic.signed (neg_ℤ (pos (digits_value 10 s)))) Error (signed_held (neg_ℤ (pos (digits_value 10 s)))) tt)
    (held_cond int (texts.is_numeral (c ∷ s)) (arithmetic.signed (pos (digits_value 10 (c ∷ s)))) Error (signed_held (pos (digits_value 10 (c ∷ s)))) tt)

to_int_held : (v : Value) → Held int (functions.to_int v)
to_int_held (Int n) = of_int
to_int_held (Uint n) = signed_held (pos n)
to_int_held (Text s) = signed_of_text_held s
to_int_held v = tt

to_uint_held : (v : Value) → Held uint (functions.to_uint v)
to_uint_held (Uint n) = of_uint
to_uint_held (Int (pos n)) = of_uint
to_uint_held (Text s) = held_cond uint (texts.is_numeral s) (arithmetic.unsigned (digits_value 10 s)) Error (unsigned_held (digits_value 10 s)) tt
to_uint_held v = tt

to_string_held : (v : Value) → Held string (functions.to_string v)
to_string_held (Text s) = of_string
to_string_held (Int n) = of_string
to_string_held (Uint n) = of_string
to_string_held v = tt

pub call_kind : {f : List ℕ} {t r : ValueType} → Calls f t r → (o : Outcome) → Held r (functions.called f (o ∷ []))
call_kind (size_of fits sized) o = always int (functions.function (codes "size")) o size_held
call_kind (to_int fits from) o = always int (functions.function (codes "int")) o to_int_held
call_kind (to_uint fits from) o = always uint (functions.function (codes "uint")) o to_uint_held
call_kind (to_string fits from) o = always string (functions.function (codes "string")) o to_string_held
call_kind to_dyn o = held_dyn (functions.called (codes "dyn") (o ∷ []))

pub size_method_kind : (o : Outcome) → Held int (functions.method_called (codes "size") o [])
size_method_kind Error = tt
size_method_kind (Gives v) = size_held v

text_test_held : {f : List ℕ} → IsTextTest f → (s t : List ℕ) → Held bool (functions.text_test f s t)
text_test_held contains s t = of_bool
text_test_held starts_with s t = of_bool
text_test_held ends_with s t = of_bool

test_values_held : {f : List ℕ} → IsTextTest f → (v w : Value) → Held bool (functions.test_values f v w)
test_values_held test (Text s) (Text t) = text_test_held test s t
test_values_held test v w = tt

pub text_test_kind : {f : List ℕ} → IsTextTest f → (a b : Outcome) → Held bool (functions.method_called f a (b ∷ []))
text_test_kind test Error b = tt
text_test_kind test (Gives v) Error = tt
text_test_kind test (Gives v) (Gives w) = test_values_held test v w
