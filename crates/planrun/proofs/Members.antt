-- The parts of a document's value are the values of its parts.
use Rattle.std.proofs.Common.{◌≡◌, ℕ, ℤ, List, [], ◌∷◌, map, Option, Some, None, Ordering, Less, Equal, Greater, nat_cmp, option_map, option_and_then, is_some, if◌then◌else◌, refl, sym, ap}
use Rattle.std.specs.Ordering.{is_eq, match_ordering}
use Rattle.std.specs.Cmp.Lexicographic.{slice_cmp}
use Rattle.std.proofs.lemmas.Map.Text.{is_eq-slice_cmp}
use Rattle.serde_json.specs.declared.value.Value as Json
use Rattle.serde_json.specs.Data.{Data, null, boolean, number, string, array, object, Items, Members, no_members, member}
use Rattle.serde_json.specs.Find.{get, get_member, as_array, as_object}
use Rattle.serde_json.specs.View.{view, items_view}
use Rattle.celmean.specs.Value.{Value, Text, Int, or_error, truth_or_error}
use Rattle.celmean.specs.Collections as value
use Rattle.celmean.specs.Collections.{lookup, item_at}
use Rattle.celmean.proofs.Lists.{items-sequence, entries-mapping, is_some-option_map}
use Rattle.planrun.specs.Documents.{json_value, item_values, member_values}

picked : (o : Ordering) (d : Data) (x : Option Value) (m : Option Data) → x ≡ option_map json_value m
    → (if is_eq o then Some (json_value d) else x) ≡ option_map json_value (match_ordering o m (Some d) m)
picked Less d x m same = same
picked Equal d x m same = refl
picked Greater d x m same = same

lookup-member_values : (f : List ℕ) (ms : Members) → lookup (Text f) (member_values ms) ≡ option_map json_value (get_member f ms)
lookup-member_values f no_members = refl
lookup-member_values f (member k d ms) =
    rw (sym (is_eq-slice_cmp f k)) (picked (slice_cmp nat_cmp f k) d (lookup (Text f) (member_values ms)) (get_member f ms) (lookup-member_values f ms))

pub member-json_value : (f : List ℕ) (d : Data) → value.member f (json_value d) ≡ or_error (option_map json_value (get f d))
member-json_value f null = refl
member-json_value f (boolean b) = refl
member-json_value f (number n) = refl
member-json_value f (string s) = refl
member-json_value f (array ds) = refl
member-json_value f (object ms) = rw (entries-mapping (member_values ms)) (rw (lookup-member_values f ms) refl)

lookup-Int : (z : ℤ) (ms : Members) → lookup (Int z) (member_values ms) ≡ None
lookup-Int z no_members = refl
lookup-Int z (member k d ms) = lookup-Int z ms

item_values-items_view : (vs : List Json.Value) → item_values (items_view vs) ≡ map (λ v. json_value (view v)) vs
item_values-items_view [] = refl
item_values-items_view (v ∷ vs) = ap (λ ws. json_value (view v) ∷ ws) (item_values-items_view vs)

-- the items of a list that are at hand are those of its value
listed : {X : Type 0} (f : X → List Json.Value) (r : Option X) (ds : Items) (z : ℤ) → option_map (λ x. items_view (f x)) r ≡ Some ds
    → item_at (item_values ds) z ≡ option_and_then (λ x. item_at (map (λ v. json_value (view v)) (f x)) z) r
listed f None ds z same = cc
listed f (Some x) ds z same = let e : items_view (f x) ≡ ds = cc in rw (sym e) (rw (item_values-items_view (f x)) refl)

nothing : {X Y Z : Type 0} (f : X → Y) (g : X → Option Z) (r : Option X) → option_map f r ≡ None → option_and_then g r ≡ None
nothing f g None same = refl
nothing f g (Some x) same = cc

pub indexed-json_value : {X : Type 0} (f : X → List Json.Value) (r : Option X) (d : Data) (z : ℤ) → option_map (λ x. items_view (f x)) r ≡ as_array d
    → value.indexed (json_value d) (Int z) ≡ or_error (option_and_then (λ x. item_at (map (λ v. json_value (view v)) (f x)) z) r)
indexed-json_value f r null z same = rw (nothing (λ x. items_view (f x)) (λ x. item_at (map (λ v. json_value (view v)) (f x)) z) r same) refl
indexed-json_value f r (boolean b) z same = rw (nothing (λ x. items_view (f x)) (λ x. item_at (map (λ v. json_value (view v)) (f x)) z) r same) refl
indexed-json_value f r (number n) z same = rw (nothing (λ x. items_view (f x)) (λ x. item_at (map (λ v. json_value (view v)) (f x)) z) r same) refl
indexed-json_value f r (string s) z same = rw (nothing (λ x. items_view (f x)) (λ x. item_at (map (λ v. json_value (view v)) (f x)) z) r same) refl
indexed-json_value f r (array ds) z same = rw (items-sequence (item_values ds)) (ap or_error (listed f r ds z same))
indexed-json_value f r (object ms) z same =
    rw (entries-mapping (member_values ms)) (rw (lookup-Int z ms) (rw (nothing (λ x. items_view (f x)) (λ x. item_at (map (λ v. json_value (view v)) (f x)) z) r same) refl))

pub has_member-json_value : (f : List ℕ) (d : Data) → value.has_member f (json_value d) ≡ truth_or_error (if is_some (as_object d) then Some (is_some (get f d)) else None)
has_member-json_value f null = refl
has_member-json_value f (boolean b) = refl
has_member-json_value f (number n) = refl
has_member-json_value f (string s) = refl
has_member-json_value f (array ds) = refl
has_member-json_value f (object ms) =
    rw (entries-mapping (member_values ms)) (rw (lookup-member_values f ms) (rw (is_some-option_map json_value (get_member f ms)) refl))

-- a part that is found, as data and as a value
pub seen_of : {X : Type 0} (f : X → Data) (r : Option X) (o : Option Data) → option_map f r ≡ o → option_map (λ x. json_value (f x)) r ≡ option_map json_value o
seen_of f None o same = rw (sym same) refl
seen_of f (Some x) o same = rw (sym same) refl
