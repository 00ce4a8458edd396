-- A stored document is its own manifest.
use Rattle.std.proofs.Common.{◌≡◌, ℕ, List, [], ◌∷◌, Bool, true, false, not, ◌&&◌, Option, Some, None, is_some, unwrap_or, option_and_then, refl, sym, ap, ◌∙◌, true≢false, codes, bytes_eq}
use Rattle.std.proofs.lemmas.Slice.Eq.{bytes_eq-Decides}
use Rattle.serde_json.specs.Data.{Data, null, boolean, number, string, array, object}
use Rattle.serde_json.specs.Find.{get, as_str}
use Rattle.jsondoc.specs.Json.{text, reading, document, with_member, without_member}
use Rattle.jsondoc.proofs.Json.{both, without_member-none}
use Rattle.names.specs.declared.resource.Scope.{Scope}
use Rattle.names.specs.declared.resource.Scope.TheVariants.{Namespaced, Cluster}
use Rattle.names.specs.Key.{Key, is_key, is_name_of, fits_scope}
use Rattle.names.specs.Resource.{row}
use Rattle.documents.specs.Document.{Document, metadata_of, metadata_text, is_metadata, is_metadata_of, has_kind, is_metadata_member, is_object_of, is_text}
use Rattle.requests.specs.declared.refusal.Refusal.TheVariants.{WrongKind, BadMetadata, WrongName, VersionOnCreate}
use Rattle.requests.specs.Manifest.{Target, item, is_target, fits_path, asks_for_version, document_conditions, body_refusal, stored_document, with_namespace, sound, IsManifestOf}
use Rattle.documents.specs.Form.{namespace_at, HasForm}
use Rattle.requests.specs.Refusal.{first_of}
use Rattle.requests.proofs.Forms.{is_object_of-get}
use Rattle.requests.proofs.Ordered.{is_ordered, is_ordered-reading, is_ordered-get, with_member-same}

-- a text that a member has is that member
member_of_text : (o : Option Data) (s : List ℕ) → option_and_then as_str o ≡ Some s → o ≡ Some (string s)
member_of_text None s is = absurd (let none : None ≡ Some s = is in cc)
member_of_text (Some null) s is = absurd (let none : None ≡ Some s = is in cc)
member_of_text (Some (boolean b)) s is = absurd (let none : None ≡ Some s = is in cc)
member_of_text (Some (number n)) s is = absurd (let none : None ≡ Some s = is in cc)
member_of_text (Some (string t)) s is = let same : t ≡ s = cc in ap (λ x. Some (string x)) same
member_of_text (Some (array ds)) s is = absurd (let none : None ≡ Some s = is in cc)
member_of_text (Some (object ms)) s is = absurd (let none : None ≡ Some s = is in cc)

text_value : (v : Data) → is_text v ≡ true → as_str v ≡ None → ⊥
text_value v good none = true≢false (sym good ∙ ap is_some none)

no_member : (o : Option Data) → ((v : Data) → o ≡ Some v → is_text v ≡ true) → option_and_then as_str o ≡ None → o ≡ None
no_member None good none = refl
no_member (Some v) good none = absurd (text_value v (good v refl) none)

same_text : (s : List ℕ) → bytes_eq s s ≡ true
same_text s = (bytes_eq-Decides s s).1 refl

-- ---- nothing refuses it

fits_own_path : (namespace name : List ℕ) (scope : Scope) (d : Data) → metadata_text (codes "name") d ≡ Some name
    → metadata_text (codes "namespace") d ≡ namespace_at scope namespace → fits_path namespace (Some name) d ≡ true
fits_own_path namespace name Namespaced d name_is namespace_is = rw (name_is, namespace_is, same_text name, same_text namespace)
fits_own_path namespace name Cluster d name_is namespace_is = rw (name_is, namespace_is, same_text name)

is_target-item : (k : Key) → is_key k ≡ true → is_target (item k) ≡ true
is_target-item k is = is

nothing_refuses : (kind metadata path asks : Bool) → kind ≡ true → metadata ≡ true → path ≡ true
    → first_of ((WrongKind, not kind) ∷ (BadMetadata, not metadata) ∷ (WrongName, not path) ∷ (VersionOnCreate, false && asks) ∷ []) ≡ None
nothing_refuses kind metadata path asks a b c = rw (a, b, c)

body_is_sound : (t : Target) (d : Data) (body : List ℕ) → is_target t ≡ true → reading body ≡ document d → first_of (document_conditions t d) ≡ None
    → body_refusal t body ≡ None
body_is_sound t d body at read none = rw (at, read) none

-- ---- it is stored as it is

namespace_stays : (scope : Scope) (namespace : List ℕ) (m : Data) → is_ordered m ≡ true
    → option_and_then as_str (get (codes "namespace") m) ≡ namespace_at scope namespace → with_namespace scope namespace m ≡ m
namespace_stays Namespaced namespace m all is = with_member-same (codes "namespace") (string namespace) m all (member_of_text (get (codes "namespace") m) namespace is)
namespace_stays Cluster namespace m all is = refl

-- metadata that passes is there
metadata_is_there : (o : Option Data) → is_metadata (unwrap_or o null) ≡ true → o ≡ Some (unwrap_or o null)
metadata_is_there None good = absurd (true≢false (sym good))
metadata_is_there (Some m) good = refl

version_is_text : (v : Data) → is_metadata_member (codes "resourceVersion") v ≡ true → is_text v ≡ true
version_is_text v good = good

stored-HasForm : (k : Key) (d : Document) → HasForm k d → stored_document (item k) d.json ≡ d
stored-HasForm k d form =
    let m : Data = metadata_of d.json in
    let ordered = is_ordered-reading (text d.json) d.json form.reads_back in
    let there : get (codes "metadata") d.json ≡ Some m = metadata_is_there (get (codes "metadata") d.json) form.metadata in
    let m_ordered = is_ordered-get (codes "metadata") d.json m ordered there in
    let members = both (is_object_of is_metadata_member m) (is_some (get (codes "name") m)) form.metadata in
    let no_version : get (codes "resourceVersion") m ≡ None =
    no_member (get (codes "resourceVersion") m)
    (λ v found. version_is_text v (is_object_of-get is_metadata_member (codes "resourceVersion") m v members.0 found)) form.no_version in
    let kept : without_member (codes "resourceVersion") m ≡ m = without_member-none (codes "resourceVersion") m no_version in
    let filled : with_namespace (row k.resource).scope k.namespace m ≡ m = namespace_stays (row k.resource).scope k.namespace m m_ordered form.namespace in
    let metadata_is : with_namespace (row k.resource).scope k.namespace (without_member (codes "resourceVersion") m) ≡ m =
    ap (with_namespace (row k.resource).scope k.namespace) kept ∙ filled in
    let json_is : (stored_document (item k) d.json).json ≡ d.json =
    ap (λ x. with_member (codes "metadata") x d.json) metadata_is ∙ with_member-same (codes "metadata") m d.json ordered there in
    λ i. record { json = json_is i }

pub IsManifestOf-stored : (k : Key) (d : Document) → HasForm k d → IsManifestOf (item k) (text d.json) (record { key = k; body = sound d; version = None })
IsManifestOf-stored k d form =
    let path = fits_own_path k.namespace k.name (row k.resource).scope d.json form.name form.namespace in
    let good = (both (fits_scope (row k.resource).scope k.namespace) (is_name_of k.resource k.name) form.key).1 in
    let of_resource : is_metadata_of k.resource (metadata_of d.json) ≡ true = rw (form.metadata, form.name) good in
    let none =
    nothing_refuses (has_kind k.resource d.json) (is_metadata_of k.resource (metadata_of d.json)) (fits_path k.namespace (Some k.name) d.json) (asks_for_version d.json)
    form.kind of_resource path in
    let name_is : unwrap_or (metadata_text (codes "name") d.json) [] ≡ k.name = ap (λ o. unwrap_or o []) form.name in
    let stored_is = stored-HasForm k d form in
    record {
      json = d.json;
      read = form.reads_back;
      accepted = body_is_sound (item k) d.json (text d.json) form.key form.reads_back none;
      manifest = λ i. record {
        key = record { resource = k.resource; namespace = k.namespace; name = sym name_is i };
        body = sound (sym stored_is i);
        version = sym form.no_version i;
      };
    }
