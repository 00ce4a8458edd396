-- What the entries of an object's map stand for after a removal, and the items of a list after a push.
use Rattle.std.proofs.Common.{◌≡◌, ℕ, List, [], ◌∷◌, ◌++◌, cond, Ordering, Less, Equal, Greater, is_eq, nat_cmp, string_bytes, Some, None, Result, Ok, Err, OnErr, refl, sym, ap, ◌∙◌}
use Rattle.std.specs.Cmp.Lexicographic.{slice_cmp}
use Rattle.std.specs.Ordering.{match_ordering}
use Rattle.std.specs.BTreeMap.{is_at}
use Rattle.std.specs.Map.{remove_entry}
use Rattle.serde_json.specs.Data.{Data, null, boolean, number, string, array, object, Items, Members, member, item}
use Rattle.serde_json.specs.Find.{get_member, as_object, as_array}
use Rattle.serde_json.specs.View.{view, items_view, members_view}
use Rattle.serde_json.specs.declared.value.Value.{Value}
use Rattle.serde_json.proofs.Views.{Entry}
use Rattle.jsondoc.specs.Json.{without, with_item_at_end}
use Rattle.jsondoc.proofs.Json.{without-none}

removed : (o : Ordering) (name : List ℕ) (e : Entry) (es rest : List Entry) → slice_cmp nat_cmp name (string_bytes e.0) ≡ o
    → without name (members_view rest) ≡ without name (members_view es)
    → without name (members_view (cond (is_eq o) es (e ∷ rest)))
    ≡ match_ordering o (member (string_bytes e.0) (view e.1) (without name (members_view es))) (without name (members_view es))
    (member (string_bytes e.0) (view e.1) (without name (members_view es)))
removed Less name e es rest is same = rw is (ap (member (string_bytes e.0) (view e.1)) same)
removed Equal name e es rest is same = refl
removed Greater name e es rest is same = rw is (ap (member (string_bytes e.0) (view e.1)) same)

without-remove_entry : (name : List ℕ) (es : List Entry)
    → without name (members_view (remove_entry (is_at (λ k. slice_cmp nat_cmp name (string_bytes k))) es)) ≡ without name (members_view es)
without-remove_entry name [] = refl
without-remove_entry name (e ∷ es) = removed (slice_cmp nat_cmp name (string_bytes e.0)) name e es _ refl (without-remove_entry name es)

-- a removal of a name from the entries, which have it once, removes the member
pub members_view-remove_entry : (name : List ℕ) (es new : List Entry) → new ≡ remove_entry (is_at (λ k. slice_cmp nat_cmp name (string_bytes k))) es
    → get_member name (members_view new) ≡ None → members_view new ≡ without name (members_view es)
members_view-remove_entry name es new is gone =
    sym (without-none name (members_view new) gone) ∙ ap (λ l. without name (members_view l)) is ∙ without-remove_entry name es

-- a push adds the item at the end
pub items_view-push : (vs : List Value) (v : Value) → items_view (vs ++ v ∷ []) ≡ with_item_at_end (view v) (items_view vs)
items_view-push [] v = refl
items_view-push (w ∷ vs) v = ap (item (view w)) (items_view-push vs v)

-- what has members is the object of them
pub as_object-object : (d : Data) (ms : Members) → Some ms ≡ as_object d → d ≡ object ms
as_object-object null ms is = cc
as_object-object (boolean b) ms is = cc
as_object-object (number n) ms is = cc
as_object-object (string s) ms is = cc
as_object-object (array ds) ms is = cc
as_object-object (object ns) ms is = let same : ms ≡ ns = cc in ap object (sym same)

-- what has items is the list of them
pub as_array-array : (d : Data) (ds : Items) → Some ds ≡ as_array d → d ≡ array ds
as_array-array null ds is = cc
as_array-array (boolean b) ds is = cc
as_array-array (number n) ds is = cc
as_array-array (string s) ds is = cc
as_array-array (array es) ds is = let same : ds ≡ es = cc in ap array (sym same)
as_array-array (object ms) ds is = cc

-- a fact holds beside an error
pub on_err : {T E P : Type 0} (r : Result T E) → P → OnErr r P
on_err (Ok x) p = tt
on_err (Err e) p = p
