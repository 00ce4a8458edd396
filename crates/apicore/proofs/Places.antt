-- Namespaces, and the objects in them.
use Rattle.std.proofs.Common.{◌≡◌, ◌∙◌, sym, ap, refl, ℕ, List, [], ◌∷◌, Bool, true, false, not, ◌&&◌, ◌||◌, nat_eq, Option, Some, None, is_some, option_map, option_and_then, bytes_eq}
use Rattle.std.specs.List.{list_any}
use Rattle.names.specs.declared.format.Format.{Format}
use Rattle.names.specs.declared.format.Rules.{Rules}
use Rattle.names.specs.Format.{has_namespaces, has_resource}
use Rattle.names.specs.Key.{Key, key_of}
use Rattle.names.specs.Resource.{row}
use Rattle.names.specs.declared.resource.Resource.{Resource}
use Rattle.names.specs.declared.resource.Resource.TheVariants.{ConfigMap, Node, Pod, Service, Deployment, ValidatingAdmissionPolicy, ValidatingAdmissionPolicyBinding, Namespace}
use Rattle.names.specs.declared.resource.Scope.{Scope}
use Rattle.names.specs.declared.resource.Scope.TheVariants.{Namespaced, Cluster}
use Rattle.documents.specs.Document.{shown}
use Rattle.objects.specs.Objects.{is_of}
use Rattle.histories.specs.View as seen
use Rattle.histories.specs.View.{stored_at}
use Rattle.decoded.specs.Decoded.{Decoded}
use Rattle.decoded.specs.Shown.{Shows}
use Rattle.decoded.specs.Standing.{View, IsView}
use Rattle.apicore.specs.Namespaces.{shown_at, namespace_key_in, namespace_shown, lacks_namespace, lies_in, stands_in, holds_objects}
use Rattle.apicore.specs.Conditions.{known, first_of, place_conditions}
use Rattle.requests.specs.declared.refusal.Refusal.TheVariants.{NoSuchPath, NamespaceNotFound}
use Rattle.apicore.proofs.Showing.{exists_shown}
use Rattle.decoded.proofs.Staying.{none_among}

none_there : {A : Type 0} (o : Option A) → is_some o ≡ false → o ≡ None
none_there None is = refl
none_there (Some x) is = cc

-- where namespaces are no objects, none is stored
stored_none : (f : Format) (held : seen.View Decoded) (v : View) (k : Key) → has_namespaces f ≡ false → IsView f v → Shows held v → k.resource ≡ Namespace → stored_at held k ≡ None
stored_none f held v k none is shows called =
    let among : stored_at v k ≡ None = none_among f k v.objects none called is.served in
    none_there (stored_at held k) (exists_shown held v k shows ∙ ap is_some among)

namespace_none_in : (f : Format) (held : seen.View Decoded) (v : View) (scope : Scope) (namespace : List ℕ) → has_namespaces f ≡ false → IsView f v → Shows held v
    → option_and_then (λ home. shown_at held home) (namespace_key_in scope namespace) ≡ None
namespace_none_in f held v Namespaced namespace none is shows =
    ap (option_map (λ s. shown s.document s.revision)) (stored_none f held v (key_of Namespace [] namespace) none is shows refl)
namespace_none_in f held v Cluster namespace none is shows = refl

pub namespace_none : (f : Format) (held : seen.View Decoded) (v : View) (k : Key) → has_namespaces f ≡ false → IsView f v → Shows held v → None ≡ namespace_shown held k
namespace_none f held v k none is shows = sym (namespace_none_in f held v (row k.resource).scope k.namespace none is shows)

-- what is not namespaced is cluster-scoped
pub cluster_from : (b : Bool) (s : Scope) → ((s ≡ Namespaced) → b ≡ true) → b ≡ false → s ≡ Cluster
cluster_from b Namespaced from is = (let never : true ≡ false = sym (from refl) ∙ is in cc)
cluster_from b Cluster from is = refl

-- what is cluster-scoped stands in none
pub cluster_none : (held : seen.View Decoded) (k : Key) → (row k.resource).scope ≡ Cluster → None ≡ namespace_shown held k
cluster_none held k is = sym (ap (λ (s : Scope). option_and_then (λ home. shown_at held home) (namespace_key_in s k.namespace)) is)

pub namespaced_shown : (held : seen.View Decoded) (k : Key) → (row k.resource).scope ≡ Namespaced → shown_at held (key_of Namespace [] k.namespace) ≡ namespace_shown held k
namespaced_shown held k is = sym (ap (λ (s : Scope). option_and_then (λ home. shown_at held home) (namespace_key_in s k.namespace)) is)

-- ---- the place of a key

-- the conditions of a place: the resource is served, and its namespace is missing, or nothing is
pub place_missing : (rules : Rules) (held : seen.View Decoded) (k : Key) → has_resource rules.format k.resource ≡ true → lacks_namespace rules held k ≡ true
    → first_of (place_conditions rules held k) ≡ Some (known NamespaceNotFound)
place_missing rules held k served missing = λ i. first_of ((known NoSuchPath, not (served i)) ∷ (known NamespaceNotFound, missing i) ∷ [])

pub place_free : (rules : Rules) (held : seen.View Decoded) (k : Key) → has_resource rules.format k.resource ≡ true → lacks_namespace rules held k ≡ false
    → first_of (place_conditions rules held k) ≡ None
place_free rules held k served missing = λ i. first_of ((known NoSuchPath, not (served i)) ∷ (known NamespaceNotFound, missing i) ∷ [])

-- ---- what stands in a namespace is of one of four resources

is_one : (r : Resource) (k : List ℕ) (name : List ℕ) → lies_in (row r).scope k name
    ≡ ((nat_eq (row r).number 1 && bytes_eq k name) || ((nat_eq (row r).number 3 && bytes_eq k name) || ((nat_eq (row r).number 4 && bytes_eq k name) || (nat_eq (row r).number 5 && bytes_eq k name))))
is_one ConfigMap k name = or_false (bytes_eq k name)
  where
    or_false : (b : Bool) → b ≡ (b || false)
    or_false true = refl
    or_false false = refl
is_one Pod k name = or_false (bytes_eq k name)
  where
    or_false : (b : Bool) → b ≡ (b || false)
    or_false true = refl
    or_false false = refl
is_one Service k name = or_false (bytes_eq k name)
  where
    or_false : (b : Bool) → b ≡ (b || false)
    or_false true = refl
    or_false false = refl
is_one Deployment k name = refl
is_one Node k name = refl
is_one ValidatingAdmissionPolicy k name = refl
is_one ValidatingAdmissionPolicyBinding k name = refl
is_one Namespace k name = refl

module _ {X : Type 0} where
  -- one of some is either of one kind or of another
  any_either : (p q : X → Bool) (xs : List X) → list_any (λ x. p x || q x) xs ≡ (list_any p xs || list_any q xs)
  any_either p q [] = refl
  any_either p q (x ∷ xs) = ap (λ (b : Bool). (p x || q x) || b) (any_either p q xs) ∙ shuffled (p x) (q x) (list_any p xs) (list_any q xs)
    where
      shuffled : (a b c d : Bool) → ((a || b) || (c || d)) ≡ ((a || c) || (b || d))
      shuffled true b c d = refl
      shuffled false true true d = refl
      shuffled false true false d = refl
      shuffled false false c d = refl

  any_same : (p q : X → Bool) → ((x : X) → p x ≡ q x) → (xs : List X) → list_any p xs ≡ list_any q xs
  any_same p q same [] = refl
  any_same p q same (x ∷ xs) = λ i. same x i || any_same p q same xs i

abbrev pub Among : Resource → List ℕ → seen.View Decoded → Bool
Among r name held = list_any (λ o. is_of r (Some name) o.0) held.objects

any_of_four : (held : seen.View Decoded) (name : List ℕ)
    → holds_objects held name ≡ (Among ConfigMap name held || (Among Pod name held || (Among Service name held || Among Deployment name held)))
any_of_four held name =
    any_same (λ o. stands_in name o.0) (λ o. is_of ConfigMap (Some name) o.0 || (is_of Pod (Some name) o.0 || (is_of Service (Some name) o.0 || is_of Deployment (Some name) o.0)))
    (λ o. is_one o.0.resource o.0.namespace name) held.objects
    ∙ any_either (λ o. is_of ConfigMap (Some name) o.0) (λ o. is_of Pod (Some name) o.0 || (is_of Service (Some name) o.0 || is_of Deployment (Some name) o.0)) held.objects
    ∙ ap (λ (b : Bool). Among ConfigMap name held || b)
    (any_either (λ o. is_of Pod (Some name) o.0) (λ o. is_of Service (Some name) o.0 || is_of Deployment (Some name) o.0) held.objects
    ∙ ap (λ (b : Bool). Among Pod name held || b) (any_either (λ o. is_of Service (Some name) o.0) (λ o. is_of Deployment (Some name) o.0) held.objects))

or_twice : (a b c d : Bool) → ((a || b) || (c || d)) ≡ (a || (b || (c || d)))
or_twice true b c d = refl
or_twice false b c d = refl

pub any_of_pairs : (held : seen.View Decoded) (name : List ℕ)
    → ((Among ConfigMap name held || Among Pod name held) || (Among Service name held || Among Deployment name held)) ≡ holds_objects held name
any_of_pairs held name =
    or_twice (Among ConfigMap name held) (Among Pod name held) (Among Service name held) (Among Deployment name held) ∙ sym (any_of_four held name)
