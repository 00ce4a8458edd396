-- What is stored of a body that nothing refuses has the form of its key.
use Rattle.std.proofs.Common.{◌≡◌, ◌≢◌, ◌≤◌, ℕ, suc, max, List, [], ◌∷◌, length, Bool, true, false, not, ◌&&◌, ◌==◌, Option, Some, None, is_some, is_none, IsSome, unwrap_or, option_and_then, refl, sym, ap, subst, ◌∙◌, arith, true≢false, codes, bytes_eq}
use Rattle.std.proofs.Math.Dec.{eqb-suc-zero}
use Rattle.std.proofs.lemmas.Slice.Eq.{bytes_eq-Decides}
use Rattle.std.specs.Option.{option_map_or}
use Rattle.serde_json.specs.Data.{Data, null, boolean, number, string, array, object, depth}
use Rattle.serde_json.specs.Find.{get, as_str, as_object}
use Rattle.jsondoc.specs.Json.{text, reading, document, IsDocument, with_member, without_member}
use Rattle.jsondoc.proofs.Json.{both, get-with_member, get-with_member_other, get-without_member, get-without_member_other}
use Rattle.names.specs.declared.resource.Resource.{Resource}
use Rattle.names.specs.declared.resource.Scope.{Scope}
use Rattle.names.specs.declared.resource.Scope.TheVariants.{Namespaced, Cluster}
use Rattle.names.specs.Key.{Key, fits_scope, is_key, is_name_of}
use Rattle.names.specs.Name.{is_namespace}
use Rattle.names.specs.Resource.{row, api_version}
use Rattle.documents.specs.Document.{Document, metadata_of, metadata_text, is_metadata, is_metadata_of, is_metadata_member, is_object_of, is_text_that, has_kind, has_text}
use Rattle.documents.proofs.MemberLemmas.{each_member-get_member, each_member-put, each_member-without, depth-with_member, depth-without_member, depth-get}
use Rattle.requests.specs.declared.refusal.Refusal.TheVariants.{WrongKind, BadMetadata, WrongName, VersionOnCreate}
use Rattle.requests.specs.Manifest.{Target, is_target, fits_path, asks_for_version, document_conditions, stored_document, with_namespace, key_at, manifest_of, Manifest, sound}
use Rattle.documents.specs.Form.{namespace_at, HasForm}
use Rattle.requests.specs.Refusal.{first_of}

abbrev pub ManifestIs : Key → Document → Option (List ℕ) → Manifest → Type 0
ManifestIs k stored v m = record { key = k; body = sound stored; version = v } ≡ m

-- ---- objects

-- what has a text is an object
IsSome-has_text : (name text : List ℕ) (d : Data) → has_text name text d ≡ true → IsSome (as_object d)
IsSome-has_text name text null has = absurd (true≢false (sym has))
IsSome-has_text name text (boolean b) has = absurd (true≢false (sym has))
IsSome-has_text name text (number n) has = absurd (true≢false (sym has))
IsSome-has_text name text (string s) has = absurd (true≢false (sym has))
IsSome-has_text name text (array ds) has = absurd (true≢false (sym has))
IsSome-has_text name text (object ms) has = refl

-- what has members that pass is an object
IsSome-is_object_of : (p : List ℕ → Data → Bool) (d : Data) → is_object_of p d ≡ true → IsSome (as_object d)
IsSome-is_object_of p null has = absurd (true≢false (sym has))
IsSome-is_object_of p (boolean b) has = absurd (true≢false (sym has))
IsSome-is_object_of p (number n) has = absurd (true≢false (sym has))
IsSome-is_object_of p (string s) has = absurd (true≢false (sym has))
IsSome-is_object_of p (array ds) has = absurd (true≢false (sym has))
IsSome-is_object_of p (object ms) has = refl

IsSome-without_member : (name : List ℕ) (d : Data) → IsSome (as_object d) → IsSome (as_object (without_member name d))
IsSome-without_member name null is = is
IsSome-without_member name (boolean b) is = is
IsSome-without_member name (number n) is = is
IsSome-without_member name (string s) is = is
IsSome-without_member name (array ds) is = is
IsSome-without_member name (object ms) is = refl

pub is_object_of-get : (p : List ℕ → Data → Bool) (name : List ℕ) (d e : Data) → is_object_of p d ≡ true → get name d ≡ Some e → p name e ≡ true
is_object_of-get p name null e has found = absurd (true≢false (sym has))
is_object_of-get p name (boolean b) e has found = absurd (true≢false (sym has))
is_object_of-get p name (number n) e has found = absurd (true≢false (sym has))
is_object_of-get p name (string s) e has found = absurd (true≢false (sym has))
is_object_of-get p name (array ds) e has found = absurd (true≢false (sym has))
is_object_of-get p name (object ms) e has found = each_member-get_member p name ms e has found

is_object_of-with_member : (p : List ℕ → Data → Bool) (name : List ℕ) (d e : Data) → p name d ≡ true → is_object_of p e ≡ true → is_object_of p (with_member name d e) ≡ true
is_object_of-with_member p name d null new has = has
is_object_of-with_member p name d (boolean b) new has = has
is_object_of-with_member p name d (number n) new has = has
is_object_of-with_member p name d (string s) new has = has
is_object_of-with_member p name d (array ds) new has = has
is_object_of-with_member p name d (object ms) new has = each_member-put p name d ms new has

is_object_of-without_member : (p : List ℕ → Data → Bool) (name : List ℕ) (d : Data) → is_object_of p d ≡ true → is_object_of p (without_member name d) ≡ true
is_object_of-without_member p name null has = has
is_object_of-without_member p name (boolean b) has = has
is_object_of-without_member p name (number n) has = has
is_object_of-without_member p name (string s) has = has
is_object_of-without_member p name (array ds) has = has
is_object_of-without_member p name (object ms) has = each_member-without p name ms has

-- ---- names of members are apart

differ : (a b : List ℕ) → bytes_eq a b ≡ false → a ≢ b
differ a b e same = true≢false (sym ((bytes_eq-Decides a b).1 same) ∙ e)

-- ---- the table of a body's refusals

pub record IsSound (t : Target) (d : Data) : Type 0 where
  pub kind : has_kind t.resource d ≡ true
  pub metadata : is_metadata (metadata_of d) ≡ true
  pub named : option_map_or (is_name_of t.resource) (metadata_text (codes "name") d) false ≡ true
  pub path : fits_path t.namespace t.name d ≡ true

sound_by_tests : (kind metadata path : Bool) (asks : Bool)
    → first_of ((WrongKind, not kind) ∷ (BadMetadata, not metadata) ∷ (WrongName, not path) ∷ (VersionOnCreate, asks) ∷ []) ≡ None
    → (kind ≡ true) × (metadata ≡ true) × (path ≡ true)
sound_by_tests false metadata path asks none = cc
sound_by_tests true false path asks none = cc
sound_by_tests true true false asks none = cc
sound_by_tests true true true asks none = (refl, refl, refl)

pub IsSound-none : (t : Target) (d : Data) → first_of (document_conditions t d) ≡ None → IsSound t d
IsSound-none t d none =
    let parts = sound_by_tests (has_kind t.resource d) (is_metadata_of t.resource (metadata_of d)) (fits_path t.namespace t.name d) (is_none t.name && asks_for_version d) none in
    let metadata = both (is_metadata (metadata_of d)) (option_map_or (is_name_of t.resource) (metadata_text (codes "name") d) false) parts.1 in
    record { kind = parts.0; metadata = metadata.0; named = metadata.1; path = parts.2 }

-- ---- the stored metadata

-- a member that neither the namespace nor the revision is stays
get-stored_metadata : (scope : Scope) (text : List ℕ) (m : Data) (name : List ℕ) → name ≢ codes "namespace" → name ≢ codes "resourceVersion"
    → get name (with_namespace scope text (without_member (codes "resourceVersion") m)) ≡ get name m
get-stored_metadata Namespaced text m name a b =
    get-with_member_other name (codes "namespace") (string text) (without_member (codes "resourceVersion") m) a
    ∙ get-without_member_other name (codes "resourceVersion") m b
get-stored_metadata Cluster text m name a b = get-without_member_other name (codes "resourceVersion") m b

stored_members_pass : (scope : Scope) (text : List ℕ) (m : Data) → fits_scope scope text ≡ true → is_object_of is_metadata_member m ≡ true
    → is_object_of is_metadata_member (with_namespace scope text (without_member (codes "resourceVersion") m)) ≡ true
stored_members_pass Namespaced text m fits has =
    is_object_of-with_member is_metadata_member (codes "namespace") (string text) (without_member (codes "resourceVersion") m) fits
    (is_object_of-without_member is_metadata_member (codes "resourceVersion") m has)
stored_members_pass Cluster text m fits has = is_object_of-without_member is_metadata_member (codes "resourceVersion") m has

name_is_not_namespace : codes "name" ≢ codes "namespace"
name_is_not_namespace = differ (codes "name") (codes "namespace") refl

name_is_not_version : codes "name" ≢ codes "resourceVersion"
name_is_not_version = differ (codes "name") (codes "resourceVersion") refl

is_metadata-stored : (scope : Scope) (text : List ℕ) (m : Data) → fits_scope scope text ≡ true → is_metadata m ≡ true
    → is_metadata (with_namespace scope text (without_member (codes "resourceVersion") m)) ≡ true
is_metadata-stored scope text m fits has =
    let parts = both (is_object_of is_metadata_member m) (is_some (get (codes "name") m)) has in
    rw (stored_members_pass scope text m fits parts.0, get-stored_metadata scope text m (codes "name") name_is_not_namespace name_is_not_version) parts.1

not_empty : (n : ℕ) → (suc n == 0) ≡ true → ⊥
not_empty n e = true≢false (sym e ∙ eqb-suc-zero n)

no_namespace : (v : Data) (text : List ℕ) → (length text == 0) ≡ true → is_text_that is_namespace v ≡ true → option_map_or (bytes_eq text) (as_str v) true ≡ true
    → as_str v ≡ None
no_namespace null text empty good same = refl
no_namespace (boolean b) text empty good same = refl
no_namespace (number n) text empty good same = refl
no_namespace (array ds) text empty good same = refl
no_namespace (object ms) text empty good same = refl
no_namespace (string []) text empty good same = absurd (true≢false (sym good))
no_namespace (string (x ∷ xs)) [] empty good same = absurd (true≢false (sym same))
no_namespace (string (x ∷ xs)) (y ∷ ys) empty good same = absurd (not_empty (length ys) empty)

no_namespace_found : (text : List ℕ) (o : Option Data) → (length text == 0) ≡ true → ((v : Data) → o ≡ Some v → is_text_that is_namespace v ≡ true)
    → option_map_or (bytes_eq text) (option_and_then as_str o) true ≡ true → option_and_then as_str o ≡ None
no_namespace_found text None empty good same = refl
no_namespace_found text (Some v) empty good same = no_namespace v text empty (good v refl) same

namespace-stored : (scope : Scope) (text : List ℕ) (m : Data) → fits_scope scope text ≡ true → is_object_of is_metadata_member m ≡ true
    → option_map_or (bytes_eq text) (option_and_then as_str (get (codes "namespace") m)) true ≡ true
    → option_and_then as_str (get (codes "namespace") (with_namespace scope text (without_member (codes "resourceVersion") m))) ≡ namespace_at scope text
namespace-stored Namespaced text m fits has same =
    ap (option_and_then as_str)
    (get-with_member (codes "namespace") (string text) (without_member (codes "resourceVersion") m)
    (IsSome-without_member (codes "resourceVersion") m (IsSome-is_object_of is_metadata_member m has)))
namespace-stored Cluster text m fits has same =
    ap (option_and_then as_str)
    (get-without_member_other (codes "namespace") (codes "resourceVersion") m (differ (codes "namespace") (codes "resourceVersion") refl))
    ∙ no_namespace_found text (get (codes "namespace") m) fits (λ v found. is_object_of-get is_metadata_member (codes "namespace") m v has found) same

version-stored : (scope : Scope) (text : List ℕ) (m : Data)
    → option_and_then as_str (get (codes "resourceVersion") (with_namespace scope text (without_member (codes "resourceVersion") m))) ≡ None
version-stored Namespaced text m =
    ap (option_and_then as_str)
    (get-with_member_other (codes "resourceVersion") (codes "namespace") (string text) (without_member (codes "resourceVersion") m)
    (differ (codes "resourceVersion") (codes "namespace") refl) ∙ get-without_member (codes "resourceVersion") m)
version-stored Cluster text m = ap (option_and_then as_str) (get-without_member (codes "resourceVersion") m)

record Named (r : Resource) (o : Option (List ℕ)) : Type 0 where
  there : o ≡ Some (unwrap_or o [])
  good : is_name_of r (unwrap_or o []) ≡ true

-- a text that is there and passes
named : (r : Resource) (o : Option (List ℕ)) → option_map_or (is_name_of r) o false ≡ true → Named r o
named r None has = absurd (true≢false (sym has))
named r (Some s) has = record { there = refl; good = has }

-- ---- the stored document

is_object : (r : Resource) (d : Data) → has_kind r d ≡ true → IsSome (as_object d)
is_object r d has =
    let parts = both (has_text (codes "apiVersion") (api_version r) d) (has_text (codes "kind") (row r).kind d) has in
    IsSome-has_text (codes "apiVersion") (api_version r) d parts.0

has_kind-with_metadata : (r : Resource) (m d : Data) → has_kind r (with_member (codes "metadata") m d) ≡ has_kind r d
has_kind-with_metadata r m d =
    rw (
      get-with_member_other (codes "apiVersion") (codes "metadata") m d (differ (codes "apiVersion") (codes "metadata") refl),
      get-with_member_other (codes "kind") (codes "metadata") m d (differ (codes "kind") (codes "metadata") refl),
    )

metadata_of-with_metadata : (m d : Data) → IsSome (as_object d) → metadata_of (with_member (codes "metadata") m d) ≡ m
metadata_of-with_metadata m d is = ap (λ o. unwrap_or o null) (get-with_member (codes "metadata") m d is)

-- what is stored of a sound body has the form of its key, if its text reads back to it
pub HasForm-stored : (t : Target) (d : Data) → is_target t ≡ true → first_of (document_conditions t d) ≡ None → IsDocument (stored_document t d).json
    → HasForm (manifest_of t d).key (stored_document t d)
HasForm-stored t d at none reads_back =
    let fine = IsSound-none t d none in
    let m : Data = metadata_of d in
    let scope : Scope = (row t.resource).scope in
    let stored : Data = with_namespace scope t.namespace (without_member (codes "resourceVersion") m) in
    let place = both (fits_scope scope t.namespace) (option_map_or (is_name_of t.resource) t.name true) at in
    let name = named t.resource (metadata_text (codes "name") d) fine.named in
    let members = both (is_object_of is_metadata_member m) (is_some (get (codes "name") m)) fine.metadata in
    let path =
    both (option_map_or (λ n. option_map_or (bytes_eq n) (metadata_text (codes "name") d) false) t.name true)
    (option_map_or (bytes_eq t.namespace) (metadata_text (codes "namespace") d) true) fine.path in
    let seen : metadata_of (stored_document t d).json ≡ stored = metadata_of-with_metadata stored d (is_object t.resource d fine.kind) in
    record {
      key = rw (place.0, name.good);
      reads_back = reads_back;
      kind = has_kind-with_metadata t.resource stored d ∙ fine.kind;
      metadata = ap is_metadata seen ∙ is_metadata-stored scope t.namespace m place.0 fine.metadata;
      name =
          ap (λ x. option_and_then as_str (get (codes "name") x)) seen
          ∙ ap (option_and_then as_str) (get-stored_metadata scope t.namespace m (codes "name") name_is_not_namespace name_is_not_version)
          ∙ name.there;
      namespace =
          ap (λ x. option_and_then as_str (get (codes "namespace") x)) seen ∙ namespace-stored scope t.namespace m place.0 members.0 path.1;
      no_version = ap (λ x. option_and_then as_str (get (codes "resourceVersion") x)) seen ∙ version-stored scope t.namespace m;
    }

-- the key of a sound body's object is well-formed
pub is_key-key_at : (t : Target) (d : Data) → is_target t ≡ true → first_of (document_conditions t d) ≡ None → is_key (key_at t.resource t.namespace d) ≡ true
is_key-key_at t d at none =
    let fine = IsSound-none t d none in
    let place = both (fits_scope (row t.resource).scope t.namespace) (option_map_or (is_name_of t.resource) t.name true) at in
    let name = named t.resource (metadata_text (codes "name") d) fine.named in
    rw (place.0, name.good)

-- ---- what is made of a body

pub made : (t : Target) (d : Data) (k : Key) (stored : Document) (v : Option (List ℕ)) → k ≡ key_at t.resource t.namespace d → stored ≡ stored_document t d
    → v ≡ metadata_text (codes "resourceVersion") d → ManifestIs k stored v (manifest_of t d)
made t d k stored v key_is stored_is version_is =
    λ i. record { key = key_is i; body = sound (stored_is i); version = version_is i }

pub HasForm-made : (t : Target) (d : Data) (k : Key) (stored : Document) → k ≡ key_at t.resource t.namespace d → stored ≡ stored_document t d
    → is_target t ≡ true → first_of (document_conditions t d) ≡ None → IsDocument stored.json → HasForm k stored
HasForm-made t d k stored key_is stored_is at none reads_back =
    let form : HasForm (key_at t.resource t.namespace d) (stored_document t d) =
    HasForm-stored t d at none (subst (λ (x : Document). IsDocument x.json) stored_is reads_back) in
    let P : Key → Type 0 = λ x. HasForm x stored in
    let Q : Document → Type 0 = λ x. HasForm (key_at t.resource t.namespace d) x in
    subst P (sym key_is) (subst Q (sym stored_is) form)

-- ---- depth

depth-metadata_of : (o : Option Data) (n : ℕ) → ((e : Data) → o ≡ Some e → suc (depth e) ≤ n) → suc (depth (unwrap_or o null)) ≤ max n 1
depth-metadata_of None n less = omega arith
depth-metadata_of (Some e) n less = let h = less e refl in omega (arith, h)

depth-with_namespace : (scope : Scope) (text : List ℕ) (m : Data) → depth (with_namespace scope text m) ≤ max 1 (depth m)
depth-with_namespace Namespaced text m = depth-with_member (codes "namespace") (string text) m
depth-with_namespace Cluster text m = omega arith

-- what is stored of a body nests at most as deep as it, or 2 deep
pub depth-stored : (t : Target) (d : Data) (n : ℕ) → 2 ≤ n → depth d ≤ n → depth (stored_document t d).json ≤ n
depth-stored t d n two shallow =
    let m : Data = metadata_of d in
    let left : Data = without_member (codes "resourceVersion") m in
    let scope : Scope = (row t.resource).scope in
    let a = depth-metadata_of (get (codes "metadata") d) (depth d) (λ e found. depth-get (codes "metadata") d e found) in
    let b = depth-without_member (codes "resourceVersion") m in
    let c = depth-with_namespace scope t.namespace left in
    let e = depth-with_member (codes "metadata") (with_namespace scope t.namespace left) d in
    omega (arith, a, b, c, e)

-- a shallow document whose text was read back is one that reads back
pub IsDocument-text : (d e : Data) (s : List ℕ) → e ≡ d → s ≡ text e → (depth e ≤ 127 → reading s ≡ document e) → depth d ≤ 127 → IsDocument d
IsDocument-text d e s same is read shallow =
    let P : Data → Type 0 = λ x. depth x ≤ 127 → IsDocument x in subst P same (λ h. ap reading (sym is) ∙ read h) shallow

pub depth-made : (t : Target) (d : Data) (stored : Document) → stored ≡ stored_document t d → depth d ≤ 127 → depth stored.json ≤ 127
depth-made t d stored is shallow = rw is (depth-stored t d 127 (omega arith) shallow)
