-- The kinds of what macros give.
use Rattle.std.proofs.Common.{Bool, true, false, cond, nat_lt, ◌==◌, Option, Some, None, List, [], ◌∷◌, map, length}
use Rattle.celtree.specs.declared.tree.Macro.{Macro}
use Rattle.celtree.specs.declared.tree.Macro.TheVariants as macro_of
use Rattle.celmean.specs.Value.{Value, Truth, Sequence, sequence, entries, Outcome, Gives, Error}
use Rattle.celmean.specs.Macros.{is_true, is_false, is_truth, some_is, all_are, count_true, kept, filtered, reduced, range_of, over_items}
use Rattle.celtypes.specs.Types.{ValueType, bool, list, dyn}
use Rattle.celtypes.specs.Tables.{ItemOf, list_item, map_key, dyn_item, IsTest, all_items, some_item, one_item}
use Rattle.cellaws.specs.Kinds.{KindOf, of_dyn, of_bool, of_list, of_map}
use Rattle.cellaws.proofs.KindLists.{Held, held_cond, Each, EachEntry, EachHeld, each_item, each_entry, each_dyn, held_list, held_list_of}

abbrev EachOfRange : ValueType → Option (List Value) → Type 0
EachOfRange t None = Unit {0}
EachOfRange t (Some vs) = Each t vs

each_key : (k v : ValueType) (es : List (Value × Value)) → EachEntry k v es → Each k (map (λ e. e.0) es)
each_key k v [] h = tt
each_key k v (e ∷ es) h = (h.0, each_key k v es h.2)

each_of_dyn : (r : Option (List Value)) → EachOfRange dyn r
each_of_dyn None = tt
each_of_dyn (Some vs) = each_dyn vs

each_of_value : {t i : ValueType} {v : Value} → ItemOf t i → KindOf t v → EachOfRange i (range_of (Gives v))
each_of_value list_item (of_list h) = each_item h
each_of_value map_key (of_map {k = k} {v = v} {es = es} h) = each_key k v (entries es) (each_entry h)
each_of_value dyn_item (of_dyn {v = v}) = each_of_dyn (range_of (Gives v))

each_of_range : {t i : ValueType} → ItemOf t i → (o : Outcome) → Held t o → EachOfRange i (range_of o)
each_of_range of Error h = tt
each_of_range of (Gives v) h = each_of_value of h

each_body : (i b : ValueType) (f : Value → Outcome) (vs : List Value) → ((v : Value) → KindOf i v → Held b (f v)) → Each i vs → EachHeld b (map f vs)
each_body i b f [] body h = tt
each_body i b f (v ∷ vs) body h = (body v h.0, each_body i b f vs body h.1)

one_kept : (i : ValueType) (c : Bool) (v : Value) (vs : List Value) → KindOf i v → Each i vs → Each i (cond c (v ∷ vs) vs)
one_kept i true v vs h k = (h, k)
one_kept i false v vs h k = k

each_kept : (i : ValueType) (vs : List Value) (os : List Outcome) → Each i vs → Each i (kept vs os)
each_kept i [] os h = tt
each_kept i (v ∷ vs) [] h = tt
each_kept i (v ∷ vs) (o ∷ os) h = one_kept i (is_true o) v (kept vs os) h.0 (each_kept i vs os h.1)

test_held : (m : Macro) → IsTest m → (vs : List Value) (os : List Outcome) → Held bool (reduced m vs os)
test_held m all_items vs os =
    held_cond bool (some_is is_false os) (Gives (Truth false)) (cond (all_are is_true os) (Gives (Truth true)) Error)
    of_bool (held_cond bool (all_are is_true os) (Gives (Truth true)) Error of_bool tt)
test_held m some_item vs os =
    held_cond bool (some_is is_true os) (Gives (Truth true)) (cond (all_are is_false os) (Gives (Truth false)) Error)
    of_bool (held_cond bool (all_are is_false os) (Gives (Truth false)) Error of_bool tt)
test_held m one_item vs os = held_cond bool (all_are is_truth os) (Gives (Truth (count_true os == 1))) Error of_bool tt

filter_held : (i : ValueType) (vs : List Value) (os : List Outcome) → Each i vs → Held (list i) (filtered vs os)
filter_held i vs os h = held_cond (list i) (all_are is_truth os) (Gives (Sequence (sequence (kept vs os)))) Error (held_list i (kept vs os) (each_kept i vs os h)) tt

within : (m : Macro) (t : ValueType) (f : Value → Outcome) (vs : List Value) → Held t (reduced m vs (map f vs)) → Held t (over_items m f (Some vs))
within m t f vs h = held_cond t (nat_lt 1024 (length vs)) Error (reduced m vs (map f vs)) tt h

test_over : (m : Macro) → IsTest m → (f : Value → Outcome) (r : Option (List Value)) → Held bool (over_items m f r)
test_over m test f None = tt
test_over m test f (Some vs) = within m bool f vs (test_held m test vs (map f vs))

map_over : (i b : ValueType) (f : Value → Outcome) (r : Option (List Value))
    → ((v : Value) → KindOf i v → Held b (f v)) → EachOfRange i r → Held (list b) (over_items macro_of.Map f r)
map_over i b f None body h = tt
map_over i b f (Some vs) body h = within macro_of.Map (list b) f vs (held_list_of b (map f vs) (each_body i b f vs body h))

filter_over : (i : ValueType) (f : Value → Outcome) (r : Option (List Value)) → EachOfRange i r → Held (list i) (over_items macro_of.Filter f r)
filter_over i f None h = tt
filter_over i f (Some vs) h = within macro_of.Filter (list i) f vs (filter_held i vs (map f vs) h)

-- `all`, `exists` and `exists_one` give truth values
pub test_kind : (m : Macro) → IsTest m → (f : Value → Outcome) (o : Outcome) → Held bool (over_items m f (range_of o))
test_kind m test f o = test_over m test f (range_of o)

-- `map` gives a list of what the body gives
pub map_kind : (t i b : ValueType) → ItemOf t i → (f : Value → Outcome) (o : Outcome) → Held t o → ((v : Value) → KindOf i v → Held b (f v))
    → Held (list b) (over_items macro_of.Map f (range_of o))
map_kind t i b of f o h body = map_over i b f (range_of o) body (each_of_range of o h)

-- `filter` gives a list of items
pub filter_kind : (t i : ValueType) → ItemOf t i → (f : Value → Outcome) (o : Outcome) → Held t o → Held (list i) (over_items macro_of.Filter f (range_of o))
filter_kind t i of f o h = filter_over i f (range_of o) (each_of_range of o h)
