-- What refuses a request before the policies are asked, and the write that it asks for.
use Rattle.std.specs.Prelude.{ℕ, List, [], ◌∷◌, ◌++◌, length, map, Bool, true, false, not, ◌&&◌, ◌==◌, if◌then◌else◌, Option, Some, None}
use Rattle.std.specs.Option.{option_map_or}
use Rattle.celtree.specs.Tree.{Expr}
use Rattle.names.specs.Format.{has_resource}
use Rattle.names.specs.declared.format.Rules.{Rules}
use Rattle.names.specs.Key.{Key}
use Rattle.documents.specs.Document.{Document}
use Rattle.requests.specs.Codes.{document_in}
use Rattle.requests.specs.Manifest.{Manifest}
use Rattle.requests.specs.declared.refusal.Refusal as told
use Rattle.requests.specs.declared.refusal.Refusal.TheVariants.{NoSuchPath, NamespaceNotFound, AlreadyExists, NotFound, VersionNotCurrent, NamespaceNotEmpty, BadSpec, ObjectTooLarge, TooManyObjects, RevisionExhausted}
use Rattle.requests.specs.Refusal as table
use Rattle.requests.specs.Request.{Request, get, list, watch, create, replace, delete, refused}
use Rattle.histories.specs.History as write
use Rattle.requests.specs.Listing.{watch_conditions}
use Rattle.histories.specs.View as seen
use Rattle.histories.specs.View.{stored_at, exists, is_too_large, is_full, is_exhausted}
use Rattle.policy.specs.declared.validation.Reason.{Reason}
use Rattle.expressions.specs.Specification.{Specification, sound, bad_spec, bad_expression}
use Rattle.requests.specs.Version.{is_text_of}
use Rattle.apicore.specs.Namespaces.{lacks_namespace, is_in_use}
use Rattle.decoded.specs.Standing.{Write, View}

pub data Refusal : Type 0 where
  -- one of the table
  known : told.Refusal → Refusal
  -- an expression of a policy is bad
  with_bad_expression : (text : List ℕ) → Refusal
  -- a policy denies the write
  denied_by : (policy binding : List ℕ) → (reason : Reason) → (message : List ℕ) → Refusal

-- a refusal, and whether its condition holds
abbrev pub Condition : Type 0
Condition = Refusal × Bool

-- the first refusal whose condition holds
abbrev pub first_of : List Condition → Option Refusal
first_of [] = None
first_of (c ∷ cs) = if c.1 then Some c.0 else first_of cs

abbrev pub of_table : List table.Condition → List Condition
of_table cs = map (λ c. (known c.0, c.1)) cs

-- what stands in the document is not what must
abbrev pub form_conditions : Specification Expr → List Condition
form_conditions (sound trees) = []
form_conditions bad_spec = (known BadSpec, true) ∷ []
form_conditions (bad_expression text) = (with_bad_expression text, true) ∷ []

-- an update asks for another revision than this one: an empty text asks for none, and what asks for none is unconditional
abbrev pub update_conflicts_at : (revision : ℕ) → (asked : Option (List ℕ)) → Bool
update_conflicts_at revision asked = option_map_or (λ text. not (length text == 0) && not (is_text_of revision text)) asked false

-- a deletion's precondition is another revision than this one
abbrev pub deletion_conflicts_at : (revision : ℕ) → (asked : Option (List ℕ)) → Bool
deletion_conflicts_at revision asked = option_map_or (λ text. not (is_text_of revision text)) asked false

-- the text is that of the revision of the object at the key
abbrev pub is_current : {P : Type 0} → seen.View P → Key → (text : List ℕ) → Bool
is_current v k text = option_map_or (λ s. is_text_of s.revision text) (stored_at v k) false

-- an update asks for another revision than the object's
abbrev pub update_conflicts : {P : Type 0} → seen.View P → Key → (asked : Option (List ℕ)) → Bool
update_conflicts v k asked = option_map_or (λ text. not (length text == 0) && not (is_current v k text)) asked false

-- so does a deletion
abbrev pub deletion_conflicts : {P : Type 0} → seen.View P → Key → (asked : Option (List ℕ)) → Bool
deletion_conflicts v k asked = option_map_or (λ text. not (is_current v k text)) asked false

-- what refuses a put for the place of its key: no path leads to the resource in this format, or the namespace is not there
abbrev pub place_conditions : {P : Type 0} → Rules → seen.View P → Key → List Condition
place_conditions rules v k =
    (known NoSuchPath, not (has_resource rules.format k.resource)) ∷ (known NamespaceNotFound, lacks_namespace rules v k) ∷ []

-- what refuses a creation, a replacement and a deletion for the object that stands at its key
abbrev pub create_conditions : {P : Type 0} → seen.View P → Key → List Condition
create_conditions v k = (known AlreadyExists, exists v k) ∷ []

abbrev pub replace_conditions : {P : Type 0} → seen.View P → Key → (asked : Option (List ℕ)) → List Condition
replace_conditions v k asked = (known NotFound, not (exists v k)) ∷ (known VersionNotCurrent, update_conflicts v k asked) ∷ []

abbrev pub delete_conditions : {P : Type 0} → Rules → seen.View P → Key → (asked : Option (List ℕ)) → List Condition
delete_conditions rules v k asked =
    (known NotFound, not (exists v k))
    ∷ (known VersionNotCurrent, deletion_conflicts v k asked)
    ∷ (known NamespaceNotEmpty, is_in_use v k)
    ∷ (known RevisionExhausted, is_exhausted rules v)
    ∷ []

-- what refuses a document that is to be a new object, and one that is to stand in place of an object, for the limits of the store
abbrev pub create_limits : {P : Type 0} → Rules → seen.View P → Document → List Condition
create_limits rules v d =
    (known ObjectTooLarge, is_too_large rules d)
    ∷ (known TooManyObjects, is_full rules v)
    ∷ (known RevisionExhausted, is_exhausted rules v)
    ∷ []

abbrev pub replace_limits : {P : Type 0} → Rules → seen.View P → Document → List Condition
replace_limits rules v d = (known ObjectTooLarge, is_too_large rules d) ∷ (known RevisionExhausted, is_exhausted rules v) ∷ []

-- what refuses a request, in order, before the policies are asked, and whether its condition holds
abbrev pub own_conditions : Rules → View → Request → Specification Expr → List Condition
own_conditions rules v (refused r) s = (known r, true) ∷ []
own_conditions rules v (get k) s = (known NotFound, not (exists v k)) ∷ []
own_conditions rules v (list c selector) s = []
own_conditions rules v (watch c revision) s = of_table (watch_conditions rules v revision)
own_conditions rules v (create m) s =
    place_conditions rules v m.key ++ (create_conditions v m.key ++ (form_conditions s ++ create_limits rules v (document_in m.body)))
own_conditions rules v (replace m) s =
    place_conditions rules v m.key ++ (replace_conditions v m.key m.version ++ (form_conditions s ++ replace_limits rules v (document_in m.body)))
own_conditions rules v (delete k asked) s = delete_conditions rules v k asked

-- ---- writes

abbrev pub trees_of : Specification Expr → List Expr
trees_of (sound trees) = trees
trees_of bad_spec = []
trees_of (bad_expression text) = []

-- the put that a manifest asks for
abbrev pub put_of : Manifest → Specification Expr → Write
put_of m s = write.put m.key (document_in m.body) (trees_of s)

-- the write that a request asks for, if any
abbrev pub asks_for : Request → Specification Expr → List Write
asks_for (refused r) s = []
asks_for (get k) s = []
asks_for (list c selector) s = []
asks_for (watch c revision) s = []
asks_for (create m) s = put_of m s ∷ []
asks_for (replace m) s = put_of m s ∷ []
asks_for (delete k asked) s = write.delete k ∷ []
