-- Outcomes of a kind, and lists of values, entries and outcomes.
use Rattle.std.proofs.Common.{ℕ, ℤ, pos, negsuc, zero, suc, Bool, true, false, not, ◌&&◌, cond, Option, Some, None, is_some, option_map, List, [], ◌∷◌, ◌++◌, map, slice_get, refl, subst}
use Rattle.celmean.specs.Value.{Value, Sequence, Mapping, Values, Entries, sequence, items, mapping, entries, Outcome, Gives, Error, or_error}
use Rattle.celmean.specs.Collections as collections
use Rattle.celmean.specs.Order.{key_rank, key_before}
use Rattle.celmean.specs.Equality.{same}
use Rattle.celtypes.specs.Types.{ValueType, dyn, list}
use Rattle.celtypes.specs.Types as types
use Rattle.cellaws.specs.Kinds.{KindOf, of_dyn, of_list, of_map, ItemsOf, no_item, one_item_more, EntriesOf, no_entry, one_entry_more, KeepsTo}

-- the outcome is a value of the kind, or the error, by cases
abbrev pub Held : ValueType → Outcome → Type 0
Held t Error = Unit {0}
Held t (Gives v) = KindOf t v

pub keeps : {t : ValueType} {o : Outcome} → Held t o → KeepsTo t o
keeps {t} h v e = subst (Held t) e h

pub held : (t : ValueType) (o : Outcome) → KeepsTo t o → Held t o
held t Error h = tt
held t (Gives v) h = h v refl

pub held_dyn : (o : Outcome) → Held dyn o
held_dyn Error = tt
held_dyn (Gives v) = of_dyn

pub held_cond : (t : ValueType) (b : Bool) (x y : Outcome) → Held t x → Held t y → Held t (cond b x y)
held_cond t true x y h k = h
held_cond t false x y h k = k

-- each value of a list is of the kind
abbrev pub Each : ValueType → List Value → Type 0
Each t [] = Unit {0}
Each t (v ∷ vs) = KindOf t v × Each t vs

abbrev pub EachEntry : ValueType → ValueType → List (Value × Value) → Type 0
EachEntry k v [] = Unit {0}
EachEntry k v (e ∷ es) = KindOf k e.0 × KindOf v e.1 × EachEntry k v es

abbrev pub EachHeld : ValueType → List Outcome → Type 0
EachHeld t [] = Unit {0}
EachHeld t (o ∷ os) = Held t o × EachHeld t os

pub each_item : {t : ValueType} {vs : Values} → ItemsOf t vs → Each t (items vs)
each_item no_item = tt
each_item (one_item_more h rest) = (h, each_item rest)

pub of_items : {t : ValueType} (vs : List Value) → Each t vs → ItemsOf t (sequence vs)
of_items [] h = no_item
of_items (v ∷ vs) h = one_item_more h.0 (of_items vs h.1)

pub each_entry : {k v : ValueType} {es : Entries} → EntriesOf k v es → EachEntry k v (entries es)
each_entry no_entry = tt
each_entry (one_entry_more h i rest) = (h, i, each_entry rest)

pub of_entries : {k v : ValueType} (es : List (Value × Value)) → EachEntry k v es → EntriesOf k v (mapping es)
of_entries [] h = no_entry
of_entries (e ∷ es) h = one_entry_more h.0 h.1 (of_entries es h.2)

pub each_dyn : (vs : List Value) → Each dyn vs
each_dyn [] = tt
each_dyn (v ∷ vs) = (of_dyn, each_dyn vs)

pub each_append : (t : ValueType) (vs ws : List Value) → Each t vs → Each t ws → Each t (vs ++ ws)
each_append t [] ws h k = k
each_append t (v ∷ vs) ws h k = (h.0, each_append t vs ws h.1 k)

-- a list's items, and an item of a list
pub held_slice : (t : ValueType) (vs : List Value) (n : ℕ) → Each t vs → Held t (or_error (slice_get vs n))
held_slice t [] n h = tt
held_slice t (v ∷ vs) zero h = h.0
held_slice t (v ∷ vs) (suc n) h = held_slice t vs n h.1

pub held_item : (t : ValueType) (vs : List Value) (i : ℤ) → Each t vs → Held t (or_error (collections.item_at vs i))
held_item t vs (pos n) h = held_slice t vs n h
held_item t vs (negsuc n) h = tt

pub held_list : (t : ValueType) (vs : List Value) → Each t vs → Held (list t) (Gives (Sequence (sequence vs)))
held_list t vs h = of_list (of_items vs h)

list_more : (t : ValueType) (v : Value) (o : Option (List Value)) → KindOf t v → Held (list t) (collections.list_or_error o)
    → Held (list t) (collections.list_or_error (option_map (λ vs. v ∷ vs) o))
list_more t v None h k = tt
list_more t v (Some vs) h (of_list i) = of_list (one_item_more h i)

pub held_list_of : (t : ValueType) (os : List Outcome) → EachHeld t os → Held (list t) (collections.list_of os)
held_list_of t [] h = of_list no_item
held_list_of t (Error ∷ os) h = tt
held_list_of t (Gives v ∷ os) h = list_more t v (collections.values_of os) h.0 (held_list_of t os h.1)

-- the entries of a map

entry_choice : (v : ValueType) (b : Bool) (x : Value) (o : Option Value) → KindOf v x → Held v (or_error o) → Held v (or_error (cond b (Some x) o))
entry_choice v true x o h k = h
entry_choice v false x o h k = k

pub held_lookup : (k v : ValueType) (key : Value) (es : List (Value × Value)) → EachEntry k v es → Held v (or_error (collections.lookup key es))
held_lookup k v key [] h = tt
held_lookup k v key (e ∷ es) h = entry_choice v (same key e.0) e.1 (collections.lookup key es) h.1 (held_lookup k v key es h.2)

insert_choice : (k v : ValueType) (b : Bool) (es fs : List (Value × Value)) → EachEntry k v es → EachEntry k v fs → EachEntry k v (cond b es fs)
insert_choice k v true es fs h i = h
insert_choice k v false es fs h i = i

each_inserted : (k v : ValueType) (a b : Value) (es : List (Value × Value)) → KindOf k a → KindOf v b → EachEntry k v es → EachEntry k v (collections.inserted a b es)
each_inserted k v a b [] h i rest = (h, i, tt)
each_inserted k v a b (e ∷ es) h i rest =
    insert_choice k v (key_before a e.0) ((a, b) ∷ e ∷ es) (e ∷ collections.inserted a b es) (h, i, rest) (rest.0, rest.1, each_inserted k v a b es h i rest.2)

held_with_entry : (k v : ValueType) (a b : Value) (es : List (Value × Value)) → KindOf k a → KindOf v b → EachEntry k v es
    → Held (types.map k v) (collections.with_entry a b es)
held_with_entry k v a b es h i rest =
    held_cond (types.map k v) (is_some (key_rank a) && not (is_some (collections.lookup a es))) (Gives (Mapping (mapping (collections.inserted a b es)))) Error
    (of_map (of_entries (collections.inserted a b es) (each_inserted k v a b es h i rest))) tt

held_put : (k v : ValueType) (a b c : Outcome) → Held k a → Held v b → Held (types.map k v) c → Held (types.map k v) (collections.put_entry a b c)
held_put k v (Gives a) (Gives b) (Gives (Mapping es)) h i (of_map rest) = held_with_entry k v a b (entries es) h i (each_entry rest)
held_put k v a b c h i rest = tt

pub held_map_of : (k v : ValueType) (os : List (Outcome × Outcome)) → EachHeld k (map (λ o. o.0) os) → EachHeld v (map (λ o. o.1) os)
    → Held (types.map k v) (collections.map_of os)
held_map_of k v [] h i = of_map no_entry
held_map_of k v (o ∷ os) h i = held_put k v o.0 o.1 (collections.map_of os) h.0 i.0 (held_map_of k v os h.1 i.1)
