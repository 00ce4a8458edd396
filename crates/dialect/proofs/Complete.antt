-- An object that was completed is complete, and options from which what asks for nothing was taken have none of it.
use Rattle.std.proofs.Common.{◌≡◌, ◌≢◌, ◌≤◌, ℕ, suc, max, List, [], ◌∷◌, Bool, true, false, not, ◌&&◌, ◌||◌, codes, Option, Some, None, IsSome, Ordering, Less, Equal, Greater, nat_cmp, is_eq, refl, sym, ap, ◌∙◌, subst, true≢false, arith}
use Rattle.std.proofs.lemmas.Bool.{cond_both, and_parts}
use Rattle.std.specs.Prelude.{is_some, is_none, option_and_then, unwrap_or}
use Rattle.std.specs.Option.{option_map_or}
use Rattle.std.specs.Ordering.{match_ordering}
use Rattle.std.specs.Cmp.Lexicographic.{slice_cmp}
use Rattle.std.specs.Str.{bytes_eq}
use Rattle.std.proofs.lemmas.Slice.Eq.{bytes_eq-Decides}
use Rattle.std.proofs.lemmas.Map.Text.{is_eq-slice_cmp}
use Rattle.serde_json.specs.Data.{Data, null, boolean, number, string, array, object, Members, no_members, member, put, depth}
use Rattle.serde_json.specs.Find.{get, as_str, as_object}
use Rattle.jsondoc.specs.Json.{document, reading, text, with_member, without, without_member}
use Rattle.jsondoc.proofs.Json.{get-with_member, get-with_member_other, get-without_member, get-without_member_other}
use Rattle.names.specs.declared.resource.Resource.{Resource}
use Rattle.names.specs.declared.resource.Resource.TheVariants.{ConfigMap, Node, Pod, Service, Deployment, ValidatingAdmissionPolicy, ValidatingAdmissionPolicyBinding, Namespace}
use Rattle.names.specs.Resource.{row, api_version}
use Rattle.documents.specs.Document.{metadata_of, metadata_text, has_text, each_member}
use Rattle.documents.proofs.MemberLemmas.{depth-with_member, depth-without_member, depth-get}
use Rattle.dialect.specs.Labels.{name_label, labels_in, lacks_label, with_label, labelled_by, labelled, lacks_its_label}
use Rattle.dialect.specs.Objects.{is_null, has_null, without_each, without_nulls, has_null_metadata, without_null_metadata, lacks, with_text, with_kind, is_short, completed, restated_object}
use Rattle.dialect.specs.Options.{has_other_version, without_other_version, has_idle_option, kept_options, restated_options}

-- ---- members that are null

abbrev is_null_in : (name : List ℕ) → Members → Bool
is_null_in name no_members = false
is_null_in name (member k d ms) = (bytes_eq k name && is_null d) || is_null_in name ms

-- each member that is null has the name of one of these
abbrev NullsAre : (names ms : Members) → Type 0
NullsAre names ms = each_member (λ k d. not (is_null d) || is_null_in k names) ms ≡ true

weaker : (p q : List ℕ → Data → Bool) (ms : Members) → ((k : List ℕ) (d : Data) → p k d ≡ true → q k d ≡ true) → each_member p ms ≡ true → each_member q ms ≡ true
weaker p q no_members less all = refl
weaker p q (member k d ms) less all =
    let parts = and_parts (p k d) (each_member p ms) all in
    let here : q k d ≡ true = less k d parts.0 in
    rw (here, weaker p q ms less parts.1) refl

or_right : (a b c : Bool) → (a || c) ≡ true → (a || (b || c)) ≡ true
or_right true b c is = refl
or_right false true c is = refl
or_right false false c is = is

same_bytes : (name : List ℕ) → bytes_eq name name ≡ true
same_bytes name = (bytes_eq-Decides name name).1 refl

first_null : (null_here : Bool) (same rest : Bool) → same ≡ true → (not null_here || ((same && null_here) || rest)) ≡ true
first_null true same rest is = rw is refl
first_null false same rest is = refl

-- those of an object have names of its own
own_nulls : (ms : Members) → NullsAre ms ms
own_nulls no_members = refl
own_nulls (member k d ms) =
    let here = first_null (is_null d) (bytes_eq k k) (is_null_in k ms) (same_bytes k) in
    let later = weaker (λ l e. not (is_null e) || is_null_in l ms) (λ l e. not (is_null e) || is_null_in l (member k d ms)) ms
    (λ l e is. or_right (not (is_null e)) (bytes_eq k l && is_null d) (is_null_in l ms) is) (own_nulls ms) in
    rw (here, later) refl

no_null_left : (ms : Members) → NullsAre no_members ms → has_null ms ≡ false
no_null_left no_members none = refl
no_null_left (member k d ms) none = go (is_null d) refl (and_parts _ _ none) (λ rest. no_null_left ms rest)
  where
    go : (b : Bool) → is_null d ≡ b → ((not b || false) ≡ true) × NullsAre no_members ms → (NullsAre no_members ms → has_null ms ≡ false) → (b || has_null ms) ≡ false
    go true is parts rest = absurd (true≢false (sym parts.0))
    go false is parts rest = rest parts.1

-- after a removal of the first of these names, each has one of the others
or_drop : (a b c d : Bool) → b ≡ false → (a || ((b && c) || d)) ≡ true → (a || d) ≡ true
or_drop a true c d is all = absurd (true≢false is)
or_drop a false c d is all = all

or_none : (a b c d : Bool) → c ≡ false → (a || ((b && c) || d)) ≡ true → (a || d) ≡ true
or_none a true c d is all = subst (λ (x : Bool). (a || (x || d)) ≡ true) is all
or_none a false c d is all = all

removed_at : (o : Ordering) (name k : List ℕ) (e d : Data) (names ns : Members) → slice_cmp nat_cmp name k ≡ o
    → (not (is_null d) || ((bytes_eq name k && is_null e) || is_null_in k names)) ≡ true → NullsAre names ns
    → NullsAre names (match_ordering o (member k d ns) ns (member k d ns))
removed_at Less name k e d names ns is here rest =
    let apart : bytes_eq name k ≡ false = sym (is_eq-slice_cmp name k) ∙ ap is_eq is in
    let passes = or_drop (not (is_null d)) (bytes_eq name k) (is_null e) (is_null_in k names) apart here in
    rw (passes, rest) refl
removed_at Equal name k e d names ns is here rest = rest
removed_at Greater name k e d names ns is here rest =
    let apart : bytes_eq name k ≡ false = sym (is_eq-slice_cmp name k) ∙ ap is_eq is in
    let passes = or_drop (not (is_null d)) (bytes_eq name k) (is_null e) (is_null_in k names) apart here in
    rw (passes, rest) refl

removed : (name : List ℕ) (e : Data) (names ms : Members) → NullsAre (member name e names) ms → NullsAre names (without name ms)
removed name e names no_members are = refl
removed name e names (member k d ms) are =
    let parts = and_parts _ _ are in
    removed_at (slice_cmp nat_cmp name k) name k e d names (without name ms) refl parts.0 (removed name e names ms parts.1)

-- one of these that is not null names none
not_needed : (name : List ℕ) (e : Data) (names ms : Members) → is_null e ≡ false → NullsAre (member name e names) ms → NullsAre names ms
not_needed name e names ms is are =
    weaker (λ k d. not (is_null d) || is_null_in k (member name e names)) (λ k d. not (is_null d) || is_null_in k names) ms
    (λ k d here. or_none (not (is_null d)) (bytes_eq name k) (is_null e) (is_null_in k names) is here) are

-- the value has no member that is null
abbrev HasNone : Data → Type 0
HasNone d = option_map_or has_null (as_object d) false ≡ false

dropped : (names kept : Members) → NullsAre names kept → HasNone (without_each (object kept) names)
dropped no_members kept are = no_null_left kept are
dropped (member name e names) kept are =
    cond_both (is_null e) (without_member name (object kept)) (object kept) (λ (x : Data). HasNone (without_each x names))
    (λ _. dropped names (without name kept) (removed name e names kept are)) (λ is. dropped names kept (not_needed name e names kept is are))

none_left : (d : Data) → HasNone (without_nulls d)
none_left null = refl
none_left (boolean b) = refl
none_left (number n) = refl
none_left (string s) = refl
none_left (array ds) = refl
none_left (object ms) = dropped ms ms (own_nulls ms)

put_at : (o : Ordering) (k l : List ℕ) (d e : Data) (ms ns : Members) → is_null d ≡ false → is_null e ≡ false → has_null ms ≡ false → has_null ns ≡ false
    → has_null (match_ordering o (member k d (member l e ms)) (member l d ms) (member l e ns)) ≡ false
put_at Less k l d e ms ns new here rest later = rw (new, here, rest) refl
put_at Equal k l d e ms ns new here rest later = rw (new, rest) refl
put_at Greater k l d e ms ns new here rest later = rw (here, later) refl

either_none : (a b : Bool) → (a || b) ≡ false → (a ≡ false) × (b ≡ false)
either_none true b none = absurd (true≢false none)
either_none false b none = (refl, none)

put_no_null : (k : List ℕ) (d : Data) (ms : Members) → is_null d ≡ false → has_null ms ≡ false → has_null (put k d ms) ≡ false
put_no_null k d no_members new none = rw new refl
put_no_null k d (member l e ms) new none =
    let parts = either_none (is_null e) (has_null ms) none in
    put_at (slice_cmp nat_cmp k l) k l d e ms (put k d ms) new parts.0 parts.1 (put_no_null k d ms new parts.1)

none_with : (name : List ℕ) (d e : Data) → is_null d ≡ false → HasNone e → HasNone (with_member name d e)
none_with name d null new none = refl
none_with name d (boolean b) new none = refl
none_with name d (number n) new none = refl
none_with name d (string s) new none = refl
none_with name d (array ds) new none = refl
none_with name d (object ms) new none = put_no_null name d ms new none

-- ---- the steps

differ : (a b : List ℕ) → bytes_eq a b ≡ false → a ≢ b
differ a b is same = true≢false (sym ((bytes_eq-Decides a b).1 same) ∙ is)

and_false : (a b : Bool) → b ≡ false → (a && b) ≡ false
and_false true b is = is
and_false false b is = refl

found_none : (found : Option Data) → option_map_or has_null (option_and_then as_object found) false ≡ false → HasNone (unwrap_or found null)
found_none None none = refl
found_none (Some d) none = none

nulls_object : (d : Data) → has_null_metadata d ≡ true → IsSome (as_object d)
nulls_object null is = absurd (true≢false (sym is))
nulls_object (boolean b) is = absurd (true≢false (sym is))
nulls_object (number n) is = absurd (true≢false (sym is))
nulls_object (string s) is = absurd (true≢false (sym is))
nulls_object (array ds) is = absurd (true≢false (sym is))
nulls_object (object ms) is = refl

put_metadata : (d e : Data) → IsSome (as_object e) → HasNone d → has_null_metadata (with_member (codes "metadata") d e) ≡ false
put_metadata d e is none =
    ap (λ found. option_map_or has_null (option_and_then as_object found) false) (get-with_member (codes "metadata") d e is) ∙ none

first_step : (d : Data) → has_null_metadata (without_null_metadata d) ≡ false
first_step d =
    cond_both (has_null_metadata d) (with_member (codes "metadata") (without_nulls (metadata_of d)) d) d (λ (x : Data). has_null_metadata x ≡ false)
    (λ is. put_metadata (without_nulls (metadata_of d)) d (nulls_object d is) (none_left (metadata_of d))) (λ none. none)

still_object : (name : List ℕ) (d e : Data) → is_some (as_object (with_member name d e)) ≡ is_some (as_object e)
still_object name d null = refl
still_object name d (boolean b) = refl
still_object name d (number n) = refl
still_object name d (string s) = refl
still_object name d (array ds) = refl
still_object name d (object ms) = refl

lacks_after : (other name : List ℕ) (d e : Data) → other ≢ name → lacks other (with_member name d e) ≡ lacks other e
lacks_after other name d e apart = λ i. still_object name d e i && is_none (get-with_member_other other name d e apart i)

has_text_now : (name text : List ℕ) (d : Data) → lacks name (with_text name text d) ≡ false
has_text_now name text d =
    cond_both (lacks name d) (with_member name (string text) d) d (λ (x : Data). lacks name x ≡ false)
    (λ is. and_false _ _ (ap is_none (get-with_member name (string text) d (and_parts (is_some (as_object d)) (is_none (get name d)) is).0))) (λ none. none)

has_still : (other name text : List ℕ) (d : Data) → other ≢ name → lacks other d ≡ false → lacks other (with_text name text d) ≡ false
has_still other name text d apart none =
    cond_both (lacks name d) (with_member name (string text) d) d (λ (x : Data). lacks other x ≡ false)
    (λ _. lacks_after other name (string text) d apart ∙ none) (λ _. none)

no_null_still : (name text : List ℕ) (d : Data) → codes "metadata" ≢ name → has_null_metadata d ≡ false → has_null_metadata (with_text name text d) ≡ false
no_null_still name text d apart none =
    cond_both (lacks name d) (with_member name (string text) d) d (λ (x : Data). has_null_metadata x ≡ false)
    (λ _. ap (λ found. option_map_or has_null (option_and_then as_object found) false) (get-with_member_other (codes "metadata") name (string text) d apart) ∙ none) (λ _. none)

-- nothing but a label is to be added
abbrev IsFull : Data → Type 0
IsFull d = (has_null_metadata d ≡ false) × (lacks (codes "apiVersion") d ≡ false) × (lacks (codes "kind") d ≡ false)

second_step : (r : Resource) (d : Data) → has_null_metadata d ≡ false → IsFull (with_kind r d)
second_step r d none =
    let versioned = with_text (codes "apiVersion") (api_version r) d in (
      no_null_still (codes "kind") (row r).kind versioned (differ (codes "metadata") (codes "kind") refl)
          (no_null_still (codes "apiVersion") (api_version r) d (differ (codes "metadata") (codes "apiVersion") refl) none),
      has_still (codes "apiVersion") (codes "kind") (row r).kind versioned (differ (codes "apiVersion") (codes "kind") refl)
          (has_text_now (codes "apiVersion") (api_version r) d),
      has_text_now (codes "kind") (row r).kind versioned,
    )

-- ---- the label

named_object : (name n : List ℕ) (d : Data) → option_and_then as_str (get name d) ≡ Some n → IsSome (as_object d)
named_object name n null is = absurd (let none : None ≡ Some n = is in cc)
named_object name n (boolean b) is = absurd (let none : None ≡ Some n = is in cc)
named_object name n (number x) is = absurd (let none : None ≡ Some n = is in cc)
named_object name n (string s) is = absurd (let none : None ≡ Some n = is in cc)
named_object name n (array ds) is = absurd (let none : None ≡ Some n = is in cc)
named_object name n (object ms) is = refl

named_document : (name n : List ℕ) (d : Data) → metadata_text name d ≡ Some n → IsSome (as_object d)
named_document name n null is = absurd (let none : None ≡ Some n = is in cc)
named_document name n (boolean b) is = absurd (let none : None ≡ Some n = is in cc)
named_document name n (number x) is = absurd (let none : None ≡ Some n = is in cc)
named_document name n (string s) is = absurd (let none : None ≡ Some n = is in cc)
named_document name n (array ds) is = absurd (let none : None ≡ Some n = is in cc)
named_document name n (object ms) is = refl

not_null_with : (name : List ℕ) (d e : Data) → IsSome (as_object e) → is_null (with_member name d e) ≡ false
not_null_with name d null is = absurd (true≢false (sym is))
not_null_with name d (boolean b) is = refl
not_null_with name d (number x) is = refl
not_null_with name d (string s) is = refl
not_null_with name d (array ds) is = refl
not_null_with name d (object ms) is = refl

-- a document with the label of a name in its metadata
abbrev with_label_of : (name : List ℕ) → Data → Data
with_label_of name d = with_member (codes "metadata") (with_label name (metadata_of d)) d

-- what holds of an object, and of it with the label where it lacks it, holds of it once it is labelled
by_name : (P : Data → Type 0) (d : Data) (found : Option (List ℕ)) → metadata_text (codes "name") d ≡ found → P d
    → ((name : List ℕ) → metadata_text (codes "name") d ≡ Some name → lacks_label name (metadata_of d) ≡ true → P (with_label_of name d))
    → P (option_map_or (λ name. labelled_by name d) found d)
by_name P d None is here there = here
by_name P d (Some name) is here there = cond_both (lacks_label name (metadata_of d)) (with_label_of name d) d P (λ lack. there name is lack) (λ _. here)

by_label : (P : Data → Type 0) (r : Resource) (d : Data) → P d
    → ((name : List ℕ) → metadata_text (codes "name") d ≡ Some name → lacks_label name (metadata_of d) ≡ true → P (with_label_of name d))
    → P (labelled r d)
by_label P ConfigMap d here there = here
by_label P Node d here there = here
by_label P Pod d here there = here
by_label P Service d here there = here
by_label P Deployment d here there = here
by_label P ValidatingAdmissionPolicy d here there = here
by_label P ValidatingAdmissionPolicyBinding d here there = here
by_label P Namespace d here there = by_name P d (metadata_text (codes "name") d) refl here there

third_step : (r : Resource) (d : Data) → IsFull d → IsFull (labelled r d)
third_step r d full = by_label IsFull r d full
    (λ name is lack.
    let md = metadata_of d in
    let labels = and_parts (is_some (as_object (labels_in md))) (not (has_text name_label name (labels_in md))) lack in
    let new = not_null_with name_label (string name) (labels_in md) labels.0 in (
      put_metadata (with_label name md) d (named_document (codes "name") name d is)
          (none_with (codes "labels") (with_member name_label (string name) (labels_in md)) md new (found_none (get (codes "metadata") d) full.0)),
      lacks_after (codes "apiVersion") (codes "metadata") (with_label name md) d (differ (codes "apiVersion") (codes "metadata") refl) ∙ full.1,
      lacks_after (codes "kind") (codes "metadata") (with_label name md) d (differ (codes "kind") (codes "metadata") refl) ∙ full.2,
    ))

-- a label that was put is there
label_is_there : (name : List ℕ) (md : Data) → IsSome (as_object md) → IsSome (as_object (labels_in md)) → lacks_label name (with_label name md) ≡ false
label_is_there name md is labels =
    let put_labels = with_member name_label (string name) (labels_in md) in
    let now : labels_in (with_label name md) ≡ put_labels = ap (λ found. unwrap_or found (object no_members)) (get-with_member (codes "labels") put_labels md is) in
    let value : has_text name_label name put_labels ≡ true =
    ap (λ found. option_map_or (bytes_eq name) (option_and_then as_str found) false) (get-with_member name_label (string name) (labels_in md) labels) ∙ same_bytes name in
    and_false _ _ (ap not (ap (has_text name_label name) now ∙ value))

lacks_named : (name : List ℕ) (d : Data) → metadata_text (codes "name") d ≡ Some name → lacks_label name (metadata_of d) ≡ false → lacks_its_label Namespace d ≡ false
lacks_named name d is has = ap (λ found. option_map_or (λ n. lacks_label n (metadata_of d)) found false) is ∙ has

label_put : (name : List ℕ) (d : Data) → metadata_text (codes "name") d ≡ Some name → lacks_label name (metadata_of d) ≡ true → lacks_its_label Namespace (with_label_of name d) ≡ false
label_put name d is lack =
    let md = metadata_of d in
    let labels = and_parts (is_some (as_object (labels_in md))) (not (has_text name_label name (labels_in md))) lack in
    let inside = named_object (codes "name") name md is in
    let now : metadata_of (with_label_of name d) ≡ with_label name md =
    ap (λ found. unwrap_or found null) (get-with_member (codes "metadata") (with_label name md) d (named_document (codes "name") name d is)) in
    let still : metadata_text (codes "name") (with_label_of name d) ≡ Some name =
    ap (λ (x : Data). option_and_then as_str (get (codes "name") x)) now
    ∙ ap (option_and_then as_str) (get-with_member_other (codes "name") (codes "labels") (with_member name_label (string name) (labels_in md)) md (differ (codes "name") (codes "labels") refl)) ∙ is in
    lacks_named name (with_label_of name d) still (ap (lacks_label name) now ∙ label_is_there name md inside labels.0)

label_of_found : (d : Data) (found : Option (List ℕ)) → metadata_text (codes "name") d ≡ found → lacks_its_label Namespace (option_map_or (λ name. labelled_by name d) found d) ≡ false
label_of_found d None is = ap (λ found. option_map_or (λ n. lacks_label n (metadata_of d)) found false) is
label_of_found d (Some name) is =
    cond_both (lacks_label name (metadata_of d)) (with_label_of name d) d (λ (x : Data). lacks_its_label Namespace x ≡ false) (λ lack. label_put name d is lack) (λ has. lacks_named name d is has)

last_step : (r : Resource) (d : Data) → lacks_its_label r (labelled r d) ≡ false
last_step ConfigMap d = refl
last_step Node d = refl
last_step Pod d = refl
last_step Service d = refl
last_step Deployment d = refl
last_step ValidatingAdmissionPolicy d = refl
last_step ValidatingAdmissionPolicyBinding d = refl
last_step Namespace d = label_of_found d (metadata_text (codes "name") d) refl

none_short : (a b c e : Bool) → a ≡ false → b ≡ false → c ≡ false → e ≡ false → (a || (b || (c || e))) ≡ false
none_short a b c e p q r s = rw (p, q, r, s) refl

complete : (r : Resource) (d : Data) → is_short r (completed r d) ≡ false
complete r d =
    let full = third_step r (with_kind r (without_null_metadata d)) (second_step r (without_null_metadata d) (first_step d)) in
    none_short _ _ _ _ full.0 full.1 full.2 (last_step r (with_kind r (without_null_metadata d)))

-- ---- how deep it nests

depth-without_each : (kept : Data) (ms : Members) → depth (without_each kept ms) ≤ depth kept
depth-without_each kept no_members = omega arith
depth-without_each kept (member name d ms) =
    cond_both (is_null d) (without_member name kept) kept (λ (x : Data). depth (without_each x ms) ≤ depth kept)
    (λ _. let a = depth-without_each (without_member name kept) ms in let b = depth-without_member name kept in omega (arith, a, b))
    (λ _. depth-without_each kept ms)

depth-without_nulls : (d : Data) → depth (without_nulls d) ≤ depth d
depth-without_nulls null = omega arith
depth-without_nulls (boolean b) = omega arith
depth-without_nulls (number n) = omega arith
depth-without_nulls (string s) = omega arith
depth-without_nulls (array ds) = omega arith
depth-without_nulls (object ms) = depth-without_each (object ms) ms

depth-found : (found : Option Data) (other : Data) (n : ℕ) → ((e : Data) → found ≡ Some e → suc (depth e) ≤ n) → suc (depth (unwrap_or found other)) ≤ max (suc (depth other)) n
depth-found None other n less = omega arith
depth-found (Some e) other n less = let h = less e refl in omega (arith, h)

depth-metadata : (d : Data) → suc (depth (metadata_of d)) ≤ max 1 (depth d)
depth-metadata d = depth-found (get (codes "metadata") d) null (depth d) (λ e found. depth-get (codes "metadata") d e found)

depth-labels : (d : Data) → suc (depth (labels_in d)) ≤ max 2 (depth d)
depth-labels d = depth-found (get (codes "labels") d) (object no_members) (depth d) (λ e found. depth-get (codes "labels") d e found)

depth-first : (d : Data) → depth (without_null_metadata d) ≤ max 1 (depth d)
depth-first d =
    cond_both (has_null_metadata d) (with_member (codes "metadata") (without_nulls (metadata_of d)) d) d (λ (x : Data). depth x ≤ max 1 (depth d))
    (λ _.
    let a = depth-with_member (codes "metadata") (without_nulls (metadata_of d)) d in
    let b = depth-without_nulls (metadata_of d) in
    let c = depth-metadata d in
    omega (arith, a, b, c))
    (λ _. omega arith)

depth-text : (name text : List ℕ) (d : Data) → depth (with_text name text d) ≤ max 1 (depth d)
depth-text name text d =
    cond_both (lacks name d) (with_member name (string text) d) d (λ (x : Data). depth x ≤ max 1 (depth d)) (λ _. depth-with_member name (string text) d) (λ _. omega arith)

depth-label : (name : List ℕ) (d : Data) → depth (with_label_of name d) ≤ max 3 (depth d)
depth-label name d =
    let md = metadata_of d in
    let put_labels = with_member name_label (string name) (labels_in md) in
    let a = depth-with_member (codes "metadata") (with_label name md) d in
    let b = depth-with_member (codes "labels") put_labels md in
    let c = depth-with_member name_label (string name) (labels_in md) in
    let e = depth-labels md in
    let g = depth-metadata d in
    omega (arith, a, b, c, e, g)

depth-labelled : (r : Resource) (d : Data) → depth (labelled r d) ≤ max 3 (depth d)
depth-labelled r d = by_label (λ (x : Data). depth x ≤ max 3 (depth d)) r d (omega arith) (λ name is lack. depth-label name d)

depth-completed : (r : Resource) (d : Data) → depth d ≤ 127 → depth (completed r d) ≤ 127
depth-completed r d shallow =
    let first = without_null_metadata d in
    let versioned = with_text (codes "apiVersion") (api_version r) first in
    let a = depth-first d in
    let b = depth-text (codes "apiVersion") (api_version r) first in
    let c = depth-text (codes "kind") (row r).kind versioned in
    let e = depth-labelled r (with_kind r first) in
    omega (arith, a, b, c, e, shallow)

-- ---- objects again

-- the text of what was completed stays
pub object_again : (r : Resource) (body : List ℕ) (d : Data) → reading body ≡ document d → depth d ≤ 127 → is_short r d ≡ true
    → (depth (completed r d) ≤ 127 → reading (text (completed r d)) ≡ document (completed r d))
    → restated_object r (restated_object r body) ≡ restated_object r body
object_again r body d is shallow short back =
    let made : restated_object r body ≡ text (completed r d) = rw (is, short) refl in
    let read = back (depth-completed r d shallow) in
    let full = complete r d in
    let stays : restated_object r (text (completed r d)) ≡ text (completed r d) = rw (read, full) refl in
    ap (restated_object r) made ∙ stays ∙ sym made

-- ---- options again

no_version : (d : Data) → has_other_version (without_other_version d) ≡ false
no_version d =
    cond_both (has_other_version d) (without_member (codes "apiVersion") d) d (λ (x : Data). has_other_version x ≡ false)
    (λ _. ap (λ found. option_map_or (λ version. not (bytes_eq (codes "v1") version)) (option_and_then as_str found) false) (get-without_member (codes "apiVersion") d))
    (λ none. none)

none_idle : (d : Data) → has_idle_option (kept_options d) ≡ false
none_idle d =
    let first = without_other_version d in
    let second = without_member (codes "orphanDependents") first in
    let third = without_member (codes "gracePeriodSeconds") second in
    let policy : is_some (get (codes "propagationPolicy") (kept_options d)) ≡ false = ap is_some (get-without_member (codes "propagationPolicy") third) in
    let seconds : is_some (get (codes "gracePeriodSeconds") (kept_options d)) ≡ false =
    ap is_some
    (get-without_member_other (codes "gracePeriodSeconds") (codes "propagationPolicy") third (differ (codes "gracePeriodSeconds") (codes "propagationPolicy") refl)
    ∙ get-without_member (codes "gracePeriodSeconds") second) in
    let orphans : is_some (get (codes "orphanDependents") (kept_options d)) ≡ false =
    ap is_some
    (get-without_member_other (codes "orphanDependents") (codes "propagationPolicy") third (differ (codes "orphanDependents") (codes "propagationPolicy") refl)
    ∙ get-without_member_other (codes "orphanDependents") (codes "gracePeriodSeconds") second (differ (codes "orphanDependents") (codes "gracePeriodSeconds") refl)
    ∙ get-without_member (codes "orphanDependents") first) in
    let version : get (codes "apiVersion") (kept_options d) ≡ get (codes "apiVersion") first =
    get-without_member_other (codes "apiVersion") (codes "propagationPolicy") third (differ (codes "apiVersion") (codes "propagationPolicy") refl)
    ∙ get-without_member_other (codes "apiVersion") (codes "gracePeriodSeconds") second (differ (codes "apiVersion") (codes "gracePeriodSeconds") refl)
    ∙ get-without_member_other (codes "apiVersion") (codes "orphanDependents") first (differ (codes "apiVersion") (codes "orphanDependents") refl) in
    let versions : has_other_version (kept_options d) ≡ false =
    ap (λ found. option_map_or (λ text. not (bytes_eq (codes "v1") text)) (option_and_then as_str found) false) version ∙ no_version d in
    none_short _ _ _ _ policy seconds orphans versions

depth-kept : (d : Data) → depth (kept_options d) ≤ depth d
depth-kept d =
    let first = without_other_version d in
    let second = without_member (codes "orphanDependents") first in
    let third = without_member (codes "gracePeriodSeconds") second in
    let a = cond_both (has_other_version d) (without_member (codes "apiVersion") d) d (λ (x : Data). depth x ≤ depth d) (λ _. depth-without_member (codes "apiVersion") d) (λ _. omega arith) in
    let b = depth-without_member (codes "orphanDependents") first in
    let c = depth-without_member (codes "gracePeriodSeconds") second in
    let e = depth-without_member (codes "propagationPolicy") third in
    omega (arith, a, b, c, e)

-- options that are read as a document with nothing idle stay, also where there are no bytes
idle_stay : (body : List ℕ) (d : Data) → reading body ≡ document d → has_idle_option d ≡ false → restated_options body ≡ body
idle_stay [] d is none = refl
idle_stay (b ∷ bs) d is none = rw (is, none) refl

made_options : (body : List ℕ) (d : Data) → reading body ≡ document d → has_idle_option d ≡ true → (b : ℕ) (bs : List ℕ) → body ≡ b ∷ bs → restated_options body ≡ text (kept_options d)
made_options body d is idle b bs same =
    let here : reading (b ∷ bs) ≡ document d = ap reading (sym same) ∙ is in
    rw (same, here, idle) refl

pub options_again : (body : List ℕ) (d : Data) → reading body ≡ document d → depth d ≤ 127 → has_idle_option d ≡ true
    → (depth (kept_options d) ≤ 127 → reading (text (kept_options d)) ≡ document (kept_options d))
    → restated_options (restated_options body) ≡ restated_options body
options_again [] d is shallow idle back = refl
options_again (b ∷ bs) d is shallow idle back =
    let made = made_options (b ∷ bs) d is idle b bs refl in
    let less = depth-kept d in
    let read = back (omega (arith, less, shallow)) in
    ap restated_options made ∙ idle_stay (text (kept_options d)) (kept_options d) read (none_idle d) ∙ sym made
