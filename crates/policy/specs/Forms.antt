-- What parts of a document spell: each answers None where the part has not the form.
use Rattle.std.specs.Prelude.{ℕ, List, [], ◌∷◌, ◌++◌, Bool, true, false, not, ◌&&◌, ◌==◌, length, codes, if◌then◌else◌, Option, Some, None, option_map}
use Rattle.std.specs.Option.{option_map_or}
use Rattle.std.specs.Str.{bytes_eq}
use Rattle.serde_json.specs.Data.{Data, Items, no_items, item, Members, no_members, member}
use Rattle.serde_json.specs.Find.{get, as_str, as_array, as_object}
use Rattle.documents.specs.Selecting.{is_among}

-- a text, as its bytes in UTF-8
abbrev pub Text : Type 0
Text = List ℕ

abbrev pub given : {A B : Type 0} → Option A → (A → Option B) → Option B
given None f = None
given (Some x) f = f x

abbrev pub provided : {A : Type 0} → Bool → Option A → Option A
provided true o = o
provided false o = None

abbrev pub all_among : List Text → Members → Bool
all_among names no_members = true
all_among names (member k d ms) = is_among names k && all_among names ms

-- an object with no members but these
abbrev pub has_only : List Text → Data → Bool
has_only names d = option_map_or (all_among names) (as_object d) false

-- what passes the test
abbrev pub passing : {A : Type 0} → (A → Bool) → Option A → Option A
passing test o = given o (λ x. provided (test x) (Some x))

-- a member that must be there
abbrev pub field : {A : Type 0} → Text → (Data → Option A) → Data → Option A
field name f d = given (get name d) f

abbrev pub read_or : {A : Type 0} → (Data → Option A) → A → Option Data → Option A
read_or f default None = Some default
read_or f default (Some d) = f d

-- a member that may be absent, and what then stands for it
abbrev pub perhaps : {A : Type 0} → Text → (Data → Option A) → A → Data → Option A
perhaps name f default d = read_or f default (get name d)

-- a member that may be absent, of which nothing stands for it then
abbrev pub optional : {A : Type 0} → Text → (Data → Option A) → Data → Option (Option A)
optional name f d = perhaps name (λ e. option_map Some (f e)) None d

abbrev pub each : {A : Type 0} → (Data → Option A) → Items → Option (List A)
each f no_items = Some []
each f (item d ds) = given (f d) (λ x. option_map (λ xs. x ∷ xs) (each f ds))

abbrev pub list_of : {A : Type 0} → (Data → Option A) → Data → Option (List A)
list_of f d = given (as_array d) (each f)

-- one of these texts, and what it stands for
abbrev pub row_of : {A : Type 0} → List (Text × A) → Text → Option A
row_of [] text = None
row_of (r ∷ rs) text = if bytes_eq text r.0 then Some r.1 else row_of rs text

abbrev pub choice : {A : Type 0} → List (Text × A) → Data → Option A
choice rows d = given (as_str d) (row_of rows)

abbrev pub are_distinct : List Text → Bool
are_distinct [] = true
are_distinct (name ∷ names) = not (is_among names name) && are_distinct names

-- a list of at least one item
abbrev pub filled_list_of : {A : Type 0} → (Data → Option A) → Data → Option (List A)
filled_list_of f d = given (list_of f d) (λ xs. provided (not (length xs == 0)) (Some xs))

-- the members of an object
abbrev pub top_members : List Text
top_members = codes "apiVersion" ∷ codes "kind" ∷ codes "metadata" ∷ codes "spec" ∷ []

-- the spec of an object: the object has no members but these
abbrev pub spec_of : {A : Type 0} → (Data → Option A) → Data → Option A
spec_of f d = provided (has_only top_members d) (field (codes "spec") f d)

-- the only item
abbrev pub only : {A : Type 0} → List A → Option A
only [] = None
only (x ∷ []) = Some x
only (x ∷ y ∷ ys) = None

-- these items, and then the others
abbrev pub after : {A : Type 0} → List A → Option (List A) → Option (List A)
after xs None = None
after xs (Some ys) = Some (xs ++ ys)
