-- Bodies that are served have nothing that is left out, and of what is added they lack the label of a Namespace at most.
use Rattle.std.proofs.Common.{◌≡◌, ℕ, List, [], ◌∷◌, Bool, true, false, not, ◌&&◌, ◌||◌, cond, codes, Option, Some, None, refl, sym, ap, ◌∙◌, true≢false}
use Rattle.std.proofs.lemmas.Bool.{cond-false}
use Rattle.std.specs.Prelude.{is_some, is_none, option_and_then, unwrap_or}
use Rattle.std.specs.Option.{option_map_or}
use Rattle.std.specs.Str.{bytes_eq}
use Rattle.serde_json.specs.Data.{Data, null, boolean, number, string, array, object, Members, no_members, member}
use Rattle.serde_json.specs.Find.{get, get_member, as_str, as_object}
use Rattle.jsondoc.specs.Json.{Reading, not_json, not_whole, document, reading, text}
use Rattle.jsondoc.proofs.Json.{both}
use Rattle.names.specs.declared.resource.Resource.{Resource}
use Rattle.names.specs.Resource.{row, api_version}
use Rattle.names.specs.Key.{is_name_of}
use Rattle.documents.specs.Document.{metadata_of, has_text, has_kind, is_metadata_member, is_metadata, is_metadata_of, is_object_of, each_member}
use Rattle.documents.proofs.MemberLemmas.{each_member-get_member}
use Rattle.requests.specs.declared.refusal.Refusal.{Refusal}
use Rattle.requests.specs.declared.refusal.Refusal.TheVariants.{WrongKind, BadMetadata, WrongName, VersionOnCreate, BadDeleteOptions}
use Rattle.requests.specs.DeleteOptions.{is_option, are_delete_options, options_conditions, delete_body_conditions}
use Rattle.requests.specs.Manifest.{Target, fits_path, asks_for_version, document_conditions, reading_conditions}
use Rattle.requests.specs.Refusal.{Condition, first_of}
use Rattle.dialect.specs.Labels.{labelled, labelled_object, lacks_its_label}
use Rattle.dialect.specs.Objects.{is_null, has_null, has_null_metadata, without_null_metadata, lacks, with_text, with_kind, restated_object}
use Rattle.dialect.specs.Options.{has_other_version, has_idle_option, restated_options}

-- ---- conditions

-- where no condition holds, the first does not, and no other
pub first_fails : (r : Refusal) (b : Bool) (rest : List Condition) → first_of ((r, b) ∷ rest) ≡ None → (b ≡ false) × (first_of rest ≡ None)
first_fails r true rest none = absurd (let bad : Some r ≡ None = none in cc)
first_fails r false rest none = (refl, none)

pub not_false : (b : Bool) → not b ≡ false → b ≡ true
not_false true is = refl
not_false false is = absurd (true≢false is)

-- ---- the options of a DELETE

-- a member that no option may be is not there
no_option : (name : List ℕ) (d : Data) → ((e : Data) → is_option name e ≡ false) → are_delete_options d ≡ true → is_some (get name d) ≡ false
no_option name null none are = refl
no_option name (boolean b) none are = refl
no_option name (number n) none are = refl
no_option name (string s) none are = refl
no_option name (array ds) none are = refl
no_option name (object ms) none are = go (get_member name ms) refl
  where
    go : (found : Option Data) → get_member name ms ≡ found → is_some found ≡ false
    go None is = refl
    go (Some e) is = absurd (true≢false (sym (each_member-get_member is_option name ms e are is) ∙ none e))

version_fits : (found : Option (List ℕ)) → option_map_or (bytes_eq (codes "v1")) found false ≡ true → option_map_or (λ v. not (bytes_eq (codes "v1") v)) found false ≡ false
version_fits None is = refl
version_fits (Some v) is = rw is refl

no_other_version : (d : Data) → are_delete_options d ≡ true → has_other_version d ≡ false
no_other_version null are = refl
no_other_version (boolean b) are = refl
no_other_version (number n) are = refl
no_other_version (string s) are = refl
no_other_version (array ds) are = refl
no_other_version (object ms) are = go (get_member (codes "apiVersion") ms) refl
  where
    go : (found : Option Data) → get_member (codes "apiVersion") ms ≡ found → option_map_or (λ v. not (bytes_eq (codes "v1") v)) (option_and_then as_str found) false ≡ false
    go None is = refl
    go (Some e) is = version_fits (as_str e) (each_member-get_member is_option (codes "apiVersion") ms e are is)

none_of : (a b c d : Bool) → a ≡ false → b ≡ false → c ≡ false → d ≡ false → (a || (b || (c || d))) ≡ false
none_of a b c d p q r s = rw (p, q, r, s) refl

no_idle_option : (d : Data) → are_delete_options d ≡ true → has_idle_option d ≡ false
no_idle_option d are = none_of _ _ _ _
    (no_option (codes "propagationPolicy") d (λ e. refl) are)
    (no_option (codes "gracePeriodSeconds") d (λ e. refl) are)
    (no_option (codes "orphanDependents") d (λ e. refl) are)
    (no_other_version d are)

options_stay : (body : List ℕ) (r : Reading) → reading body ≡ r → first_of (options_conditions r) ≡ None → (b : ℕ) (bs : List ℕ) → body ≡ b ∷ bs → restated_options body ≡ body
options_stay body not_json is none b bs same = absurd (let bad : Some _ ≡ None = none in cc)
options_stay body not_whole is none b bs same = absurd (let bad : Some _ ≡ None = none in cc)
options_stay body (document d) is none b bs same =
    let are = not_false (are_delete_options d) (first_fails BadDeleteOptions (not (are_delete_options d)) [] none).0 in
    let idle = no_idle_option d are in
    let here : reading (b ∷ bs) ≡ document d = ap reading (sym same) ∙ is in
    rw (same, here, idle) refl

pub options_are_kept : (body : List ℕ) → first_of (delete_body_conditions body) ≡ None → restated_options body ≡ body
options_are_kept [] none = refl
options_are_kept (b ∷ bs) none = options_stay (b ∷ bs) (reading (b ∷ bs)) refl none b bs refl

-- ---- objects

no_null_member : (a b c d e : Bool) → cond a false (cond b false (cond (c || d) false (e && false))) ≡ false
no_null_member true b c d e = refl
no_null_member false true c d e = refl
no_null_member false false true d e = refl
no_null_member false false false true e = refl
no_null_member false false false false true = refl
no_null_member false false false false false = refl

null_fails : (name : List ℕ) → is_metadata_member name null ≡ false
null_fails name =
    no_null_member (bytes_eq name (codes "name")) (bytes_eq name (codes "namespace")) (bytes_eq name (codes "labels")) (bytes_eq name (codes "annotations")) (bytes_eq name (codes "resourceVersion"))

not_null : (name : List ℕ) (d : Data) → is_metadata_member name d ≡ true → is_null d ≡ false
not_null name null is = absurd (true≢false (sym is ∙ null_fails name))
not_null name (boolean b) is = refl
not_null name (number n) is = refl
not_null name (string s) is = refl
not_null name (array ds) is = refl
not_null name (object ms) is = refl

no_null : (ms : Members) → each_member is_metadata_member ms ≡ true → has_null ms ≡ false
no_null no_members all = refl
no_null (member name d ms) all =
    let parts = both (is_metadata_member name d) (each_member is_metadata_member ms) all in
    rw (not_null name d parts.0, no_null ms parts.1) refl

no_null_in : (found : Option Members) → option_map_or (each_member is_metadata_member) found false ≡ true → option_map_or has_null found false ≡ false
no_null_in None all = refl
no_null_in (Some ms) all = no_null ms all

no_null_found : (found : Option Data) → is_object_of is_metadata_member (unwrap_or found null) ≡ true → option_map_or has_null (option_and_then as_object found) false ≡ false
no_null_found None all = refl
no_null_found (Some d) all = no_null_in (as_object d) all

found_text : (text : List ℕ) (found : Option Data) → option_map_or (bytes_eq text) (option_and_then as_str found) false ≡ true → is_none found ≡ false
found_text text None is = absurd (true≢false (sym is))
found_text text (Some d) is = refl

and_false : (a b : Bool) → b ≡ false → (a && b) ≡ false
and_false true b is = is
and_false false b is = refl

has_it : (name text : List ℕ) (d : Data) → has_text name text d ≡ true → lacks name d ≡ false
has_it name text d is = and_false (is_some (as_object d)) (is_none (get name d)) (found_text text (get name d) is)

whole : (t : Target) (d : Data) → first_of (document_conditions t d) ≡ None
    → (has_null_metadata d ≡ false) × (lacks (codes "apiVersion") d ≡ false) × (lacks (codes "kind") d ≡ false)
whole t d none =
    let named : List Condition = (WrongName, not (fits_path t.namespace t.name d)) ∷ (VersionOnCreate, is_none t.name && asks_for_version d) ∷ [] in
    let kinds = first_fails WrongKind (not (has_kind t.resource d)) ((BadMetadata, not (is_metadata_of t.resource (metadata_of d))) ∷ named) none in
    let metas = first_fails BadMetadata (not (is_metadata_of t.resource (metadata_of d))) named kinds.1 in
    let kind = both (has_text (codes "apiVersion") (api_version t.resource) d) (has_text (codes "kind") (row t.resource).kind d) (not_false (has_kind t.resource d) kinds.0) in
    let fit = both (is_metadata (metadata_of d)) (option_map_or (is_name_of t.resource) (option_and_then as_str (get (codes "name") (metadata_of d))) false) (not_false (is_metadata_of t.resource (metadata_of d)) metas.0) in
    let members = both (is_object_of is_metadata_member (metadata_of d)) (is_some (get (codes "name") (metadata_of d))) fit.0 in
    (no_null_found (get (codes "metadata") d) members.0, has_it (codes "apiVersion") (api_version t.resource) d kind.0, has_it (codes "kind") (row t.resource).kind d kind.1)

-- the label alone is added to what is whole
label_alone : (r : Resource) (d made : Data) (body : List ℕ) (n v k : Bool) → n ≡ false → v ≡ false → k ≡ false → made ≡ d
    → cond (n || (v || (k || lacks_its_label r d))) (text (labelled r made)) body ≡ cond (lacks_its_label r d) (text (labelled r d)) body
label_alone r d made body n v k p q s same = rw (p, q, s, same) refl

no_nulls : (d : Data) → has_null_metadata d ≡ false → without_null_metadata d ≡ d
no_nulls d none = cond-false _ _ _ none

no_text : (name text : List ℕ) (d : Data) → lacks name d ≡ false → with_text name text d ≡ d
no_text name text d none = cond-false _ _ _ none

kinds_stay : (r : Resource) (d : Data) → lacks (codes "apiVersion") d ≡ false → lacks (codes "kind") d ≡ false → with_kind r d ≡ d
kinds_stay r d version kind = ap (with_text (codes "kind") (row r).kind) (no_text (codes "apiVersion") (api_version r) d version) ∙ no_text (codes "kind") (row r).kind d kind

object_stays : (t : Target) (r : Resource) (body : List ℕ) (read : Reading) → reading body ≡ read → first_of (reading_conditions t read) ≡ None → restated_object r body ≡ labelled_object r body
object_stays t r body not_json is none = absurd (let bad : Some _ ≡ None = none in cc)
object_stays t r body not_whole is none = absurd (let bad : Some _ ≡ None = none in cc)
object_stays t r body (document d) is none =
    let facts = whole t d none in
    let nulls = no_nulls d facts.0 in
    let kinds = ap (with_kind r) nulls ∙ kinds_stay r d facts.1 facts.2 in
    rw is
    (label_alone r d (with_kind r (without_null_metadata d)) body (has_null_metadata d) (lacks (codes "apiVersion") d) (lacks (codes "kind") d) facts.0 facts.1 facts.2 kinds)

pub object_is_kept : (t : Target) (r : Resource) (body : List ℕ) → first_of (reading_conditions t (reading body)) ≡ None → restated_object r body ≡ labelled_object r body
object_is_kept t r body none = object_stays t r body (reading body) refl none
