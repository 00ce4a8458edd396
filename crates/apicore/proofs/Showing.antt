-- What a core says of the view that it shows.
use Rattle.std.proofs.Common.{◌≡◌, ◌∙◌, sym, ap, refl, ℕ, List, [], ◌∷◌, map, length, Bool, true, false, cond, not, ◌&&◌, ◌||◌, ◌==◌, nat_le, option_map, option_and_then, Option, Some, None, decimal, bytes_eq}
use Rattle.std.proofs.lemmas.List.{length-map}
use Rattle.std.specs.List.{filter, list_any}
use Rattle.std.specs.Option.{option_map_or}
use Rattle.serde_json.specs.Data.{Data, null, array}
use Rattle.serde_json.specs.View.{items_of}
use Rattle.jsondoc.specs.Json.{text}
use Rattle.names.specs.declared.format.Rules.{Rules}
use Rattle.names.specs.Format.{has_namespaces, has_resource}
use Rattle.names.specs.declared.resource.Resource.{Resource}
use Rattle.names.specs.declared.resource.Resource.TheVariants.{Namespace}
use Rattle.names.specs.Key.{Key}
use Rattle.objects.specs.Objects.{value_at}
use Rattle.documents.specs.Document.{Document, shown}
use Rattle.requests.specs.Collection.{Collection, has_key}
use Rattle.requests.specs.Refusal as table
use Rattle.documents.specs.Requirement.{Requirement}
use Rattle.requests.specs.Selector.{selects}
use Rattle.requests.specs.declared.refusal.Refusal.TheVariants.{NoSuchPath, NamespaceNotFound, NotFound, VersionNotCurrent, NamespaceNotEmpty, ObjectTooLarge, TooManyObjects, RevisionExhausted}
use Rattle.histories.specs.declared.stored.Stored.{Stored}
use Rattle.requests.specs.Listing.{shown_items, list_of, served, listing, watching, watch_conditions}
use Rattle.histories.specs.Mapped.{each, one, mapped}
use Rattle.requests.specs.Reply.{Reply, showing, status}
use Rattle.histories.specs.View as seen
use Rattle.histories.specs.View.{exists, stored_at, document_at, is_too_large, is_full, is_exhausted}
use Rattle.histories.proofs.Mapping.{value_each, there_mapped}
use Rattle.decoded.specs.Decoded.{Decoded}
use Rattle.decoded.specs.Shown.{plans_held, Shows}
use Rattle.decoded.specs.Standing.{View, plans_beside}
use Rattle.apicore.specs.Namespaces.{shown_at, namespace_key, namespace_shown, lacks_namespace, stands_in, holds_objects, is_kept}
use Rattle.apicore.specs.Conditions.{known, is_current, update_conflicts, deletion_conflicts, place_conditions, replace_conditions, delete_conditions, create_limits, replace_limits}

abbrev Held : Type 0
Held = seen.View Decoded

abbrev Planned : Type 0
Planned = seen.View Decoded

pub revision_shown : (core : Held) (v : View) → Shows core v → core.revision ≡ v.revision
revision_shown core v shows = ap (λ (u : Planned). u.revision) shows

pub exists_shown : (core : Held) (v : View) (k : Key) → Shows core v → exists core k ≡ exists v k
exists_shown core v k shows = sym (there_mapped plans_held core k) ∙ ap (λ (u : Planned). exists u k) shows ∙ there_mapped plans_beside v k

module _ {A B C : Type 0} (f : Document → A → B) (first : Stored A → C) (second : Stored B → C) (same : (s : Stored A) → second (one f s) ≡ first s) where
  still : (o : Option (Stored A)) (x : C) → option_map_or second (option_map (one f) o) x ≡ option_map_or first o x
  still None x = refl
  still (Some s) x = same s

  -- what an object says stays, whatever stands beside it
  pub said_mapped : (v : seen.View A) (k : Key) (x : C) → option_map_or second (stored_at (mapped f v) k) x ≡ option_map_or first (stored_at v k) x
  said_mapped v k x = ap (λ (o : Option (Stored B)). option_map_or second o x) (value_each f k v.objects) ∙ still (value_at k v.objects) x

  still_there : (o : Option (Stored A)) → option_map second (option_map (one f) o) ≡ option_map first o
  still_there None = refl
  still_there (Some s) = ap (λ (x : C). Some x) (same s)

  pub told_mapped : (v : seen.View A) (k : Key) → option_map second (stored_at (mapped f v) k) ≡ option_map first (stored_at v k)
  told_mapped v k = ap (λ (o : Option (Stored B)). option_map second o) (value_each f k v.objects) ∙ still_there (value_at k v.objects)

pub document_shown : (core : Held) (v : View) (k : Key) → Shows core v → document_at core k ≡ document_at v k
document_shown core v k shows =
    sym (said_mapped plans_held (λ s. s.document) (λ s. s.document) (λ s. refl) core k (record { json = null }))
    ∙ ap (λ (u : Planned). document_at u k) shows
    ∙ said_mapped plans_beside (λ s. s.document) (λ s. s.document) (λ s. refl) v k (record { json = null })

pub current_shown : (core : Held) (v : View) (k : Key) (text : List ℕ) → Shows core v → is_current core k text ≡ is_current v k text
current_shown core v k text shows =
    sym (said_mapped plans_held (λ s. bytes_eq text (decimal s.revision)) (λ s. bytes_eq text (decimal s.revision)) (λ s. refl) core k false)
    ∙ ap (λ (u : Planned). is_current u k text) shows
    ∙ said_mapped plans_beside (λ s. bytes_eq text (decimal s.revision)) (λ s. bytes_eq text (decimal s.revision)) (λ s. refl) v k false

-- the object at a key, as it is shown
pub shown_at_shown : (core : Held) (v : View) (k : Key) → Shows core v → shown_at core k ≡ shown_at v k
shown_at_shown core v k shows =
    sym (told_mapped plans_held (λ s. shown s.document s.revision) (λ s. shown s.document s.revision) (λ s. refl) core k)
    ∙ ap (λ (u : Planned). shown_at u k) shows
    ∙ told_mapped plans_beside (λ s. shown s.document s.revision) (λ s. shown s.document s.revision) (λ s. refl) v k

-- ---- namespaces

namespace_at : (core : Held) (v : View) (o : Option Key) → Shows core v → option_and_then (λ home. shown_at core home) o ≡ option_and_then (λ home. shown_at v home) o
namespace_at core v None shows = refl
namespace_at core v (Some home) shows = shown_at_shown core v home shows

pub namespace_shown_shown : (core : Held) (v : View) (k : Key) → Shows core v → namespace_shown core k ≡ namespace_shown v k
namespace_shown_shown core v k shows = namespace_at core v (namespace_key k) shows

lacking_at : (core : Held) (v : View) (o : Option Key) → Shows core v → option_map_or (λ home. not (exists core home)) o false ≡ option_map_or (λ home. not (exists v home)) o false
lacking_at core v None shows = refl
lacking_at core v (Some home) shows = ap not (exists_shown core v home shows)

lacking_shown : (rules : Rules) (core : Held) (v : View) (k : Key) → Shows core v → lacks_namespace rules core k ≡ lacks_namespace rules v k
lacking_shown rules core v k shows = ap (λ (b : Bool). has_namespaces rules.format && b) (lacking_at core v (namespace_key k) shows)

module _ {A B : Type 0} (f : Document → A → B) where
  any_each : (p : Key → Bool) (os : List (Key × Stored A)) → list_any (λ o. p o.0) (each f os) ≡ list_any (λ o. p o.0) os
  any_each p [] = refl
  any_each p (o ∷ os) = ap (λ (b : Bool). p o.0 || b) (any_each p os)

pub holds_shown : (core : Held) (v : View) (name : List ℕ) → Shows core v → holds_objects core name ≡ holds_objects v name
holds_shown core v name shows =
    sym (any_each plans_held (stands_in name) core.objects) ∙ ap (λ (u : Planned). holds_objects u name) shows ∙ any_each plans_beside (stands_in name) v.objects

kept_shown : (core : Held) (v : View) (r : Resource) (name : List ℕ) → Shows core v → is_kept core r name ≡ is_kept v r name
kept_shown core v Namespace name shows = holds_shown core v name shows
kept_shown core v r name shows = refl

-- the reply to a GET
abbrev pub getting : {P : Type 0} → seen.View P → Key → Reply
getting v k = option_map_or (λ s. showing 200 [] s.document s.revision) (stored_at v k) (status NotFound)

pub getting_shown : (core : Held) (v : View) (k : Key) → Shows core v → getting core k ≡ getting v k
getting_shown core v k shows =
    sym (said_mapped plans_held (λ s. showing 200 [] s.document s.revision) (λ s. showing 200 [] s.document s.revision) (λ s. refl) core k (status NotFound))
    ∙ ap (λ (u : Planned). getting u k) shows
    ∙ said_mapped plans_beside (λ s. showing 200 [] s.document s.revision) (λ s. showing 200 [] s.document s.revision) (λ s. refl) v k (status NotFound)

pub count_shown : (core : Held) (v : View) → Shows core v → length core.objects ≡ length v.objects
count_shown core v shows =
    sym (length-map {B = Key × Stored Decoded} core.objects (λ o. (o.0, one plans_held o.1)))
    ∙ ap (λ (u : Planned). length u.objects) shows
    ∙ length-map {B = Key × Stored Decoded} v.objects (λ o. (o.0, one plans_beside o.1))

full_shown : (rules : Rules) (core : Held) (v : View) → Shows core v → is_full rules core ≡ is_full rules v
full_shown rules core v shows = ap (λ (n : ℕ). nat_le rules.object_limit n) (count_shown core v shows)

exhausted_shown : (rules : Rules) (core : Held) (v : View) → Shows core v → is_exhausted rules core ≡ is_exhausted rules v
exhausted_shown rules core v shows = ap (λ (n : ℕ). nat_le rules.greatest_revision n) (revision_shown core v shows)

update_shown : (core : Held) (v : View) (k : Key) (asked : Option (List ℕ)) → Shows core v → update_conflicts core k asked ≡ update_conflicts v k asked
update_shown core v k None shows = refl
update_shown core v k (Some text) shows = ap (λ (b : Bool). not (length text == 0) && not b) (current_shown core v k text shows)

deletion_shown : (core : Held) (v : View) (k : Key) (asked : Option (List ℕ)) → Shows core v → deletion_conflicts core k asked ≡ deletion_conflicts v k asked
deletion_shown core v k None shows = refl
deletion_shown core v k (Some text) shows = ap not (current_shown core v k text shows)

-- ---- what refuses a write

pub replace_shown : (core : Held) (v : View) (k : Key) (asked : Option (List ℕ)) → Shows core v → replace_conditions core k asked ≡ replace_conditions v k asked
replace_shown core v k asked shows = λ i.
    (known NotFound, not (exists_shown core v k shows i)) ∷ (known VersionNotCurrent, update_shown core v k asked shows i) ∷ []

pub place_shown : (rules : Rules) (core : Held) (v : View) (k : Key) → Shows core v → place_conditions rules core k ≡ place_conditions rules v k
place_shown rules core v k shows = λ i.
    (known NoSuchPath, not (has_resource rules.format k.resource)) ∷ (known NamespaceNotFound, lacking_shown rules core v k shows i) ∷ []

pub delete_shown : (rules : Rules) (core : Held) (v : View) (k : Key) (asked : Option (List ℕ)) → Shows core v → delete_conditions rules core k asked ≡ delete_conditions rules v k asked
delete_shown rules core v k asked shows = λ i.
    (known NotFound, not (exists_shown core v k shows i))
    ∷ (known VersionNotCurrent, deletion_shown core v k asked shows i)
    ∷ (known NamespaceNotEmpty, kept_shown core v k.resource k.name shows i)
    ∷ (known RevisionExhausted, exhausted_shown rules core v shows i)
    ∷ []

pub create_limits_shown : (rules : Rules) (core : Held) (v : View) (d : Document) → Shows core v → create_limits rules core d ≡ create_limits rules v d
create_limits_shown rules core v d shows = λ i.
    (known ObjectTooLarge, is_too_large rules d)
    ∷ (known TooManyObjects, full_shown rules core v shows i)
    ∷ (known RevisionExhausted, exhausted_shown rules core v shows i)
    ∷ []

pub replace_limits_shown : (rules : Rules) (core : Held) (v : View) (d : Document) → Shows core v → replace_limits rules core d ≡ replace_limits rules v d
replace_limits_shown rules core v d shows = λ i.
    (known ObjectTooLarge, is_too_large rules d) ∷ (known RevisionExhausted, exhausted_shown rules core v shows i) ∷ []

-- ---- lists and watches

module _ {A B : Type 0} (f : Document → A → B) where
  abbrev In : {P : Type 0} → Collection → List (Key × Stored P) → List (Key × Stored P)
  In c os = filter (λ o. has_key c o.0) os

  in_each : (c : Collection) (os : List (Key × Stored A)) → In c (each f os) ≡ each f (In c os)
  in_each c [] = refl
  in_each c (o ∷ os) =
      elim (has_key c o.0) as (λ b. cond b ((o.0, one f o.1) ∷ In c (each f os)) (In c (each f os)) ≡ each f (cond b (o ∷ In c os) (In c os))) [
        | true ↦ ap (λ (rest : List (Key × Stored B)). (o.0, one f o.1) ∷ rest) (in_each c os)
        | false ↦ in_each c os
      ]

  abbrev Chosen : {P : Type 0} → List Requirement → List (Key × Stored P) → List (Key × Stored P)
  Chosen s os = filter (λ o. selects s o.1.document) os

  abbrev Told : {P : Type 0} → List (Key × Stored P) → List Data
  Told os = map (λ o. shown o.1.document o.1.revision) os

  items_each : (s : List Requirement) (os : List (Key × Stored A)) → shown_items s (each f os) ≡ shown_items s os
  items_each s [] = refl
  items_each s (o ∷ os) =
      elim (selects s o.1.document) as (λ b. Told (cond b ((o.0, one f o.1) ∷ Chosen s (each f os)) (Chosen s (each f os))) ≡ Told (cond b (o ∷ Chosen s os) (Chosen s os))) [
        | true ↦ ap (λ (rest : List Data). shown o.1.document o.1.revision ∷ rest) (items_each s os)
        | false ↦ items_each s os
      ]

  listing_mapped : (v : seen.View A) (c : Collection) (s : List Requirement) → listing (mapped f v) c s ≡ listing v c s
  listing_mapped v c s =
      ap (λ (ds : List Data). served (text (list_of c.resource v.revision (array (items_of ds)))))
      (ap (λ (os : List (Key × Stored B)). shown_items s os) (in_each c v.objects) ∙ items_each s (In c v.objects))

pub listing_shown : (core : Held) (v : View) (c : Collection) (s : List Requirement) → Shows core v → listing core c s ≡ listing v c s
listing_shown core v c s shows =
    sym (listing_mapped plans_held core c s) ∙ ap (λ (u : Planned). listing u c s) shows ∙ listing_mapped plans_beside v c s

-- the reply to a watch
abbrev pub telling : {P : Type 0} → Rules → seen.View P → Collection → (revision : ℕ) → Reply
telling rules v c n = option_map_or status (table.first_of (watch_conditions rules v n)) (watching v c n)

pub telling_shown : (rules : Rules) (core : Held) (v : View) (c : Collection) (n : ℕ) → Shows core v → telling rules core c n ≡ telling rules v c n
telling_shown rules core v c n shows = ap (λ (u : Planned). telling rules u c n) shows
