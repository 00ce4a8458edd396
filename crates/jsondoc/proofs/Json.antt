-- Which values are documents, and what their texts are read as.
use Rattle.std.proofs.Common.{◌≡◌, List, ℕ, Bool, true, false, cond, ◌&&◌, ◌||◌, Option, Some, None, option_map, IsTrue, IfSome, Ordering, Less, Equal, Greater, nat_cmp, Bor, String, Global, string_bytes, Result, Ok, Err, OnOk, OnErr, IsSome, ◌≢◌, is_eq, refl, sym, ap, subst, ◌∙◌, true≢false}
use Rattle.std.specs.Cmp.Lexicographic.{slice_cmp}
use Rattle.std.specs.Ordering.{match_ordering}
use Rattle.std.specs.Str.{is_utf8}
use Rattle.std.specs.Prelude.{IsUtf8}
use Rattle.std.proofs.lemmas.Str.{IsUtf8-from_is_utf8, is_utf8-from_IsUtf8, IsUtf8-string_bytes}
use Rattle.serde_json.specs.Data.{unsigned, negative, float, Data, null, boolean, number, string, array, object, Items, no_items, item, Members, no_members, member, put}
use Rattle.std.proofs.lemmas.Map.Text.{is_eq-slice_cmp}
use Rattle.std.proofs.lemmas.Slice.Eq.{bytes_eq-Decides}
use Rattle.serde_json.specs.Find.{get, get_member, as_object}
use Rattle.serde_json.proofs.Views.{get_member-put, get_member-put_other}
use Rattle.serde_json.specs.Read.{read}
use Rattle.serde_json.specs.Written.{has_float, items_have_float, members_have_float}
use Rattle.serde_json.specs.View.{view}
use Rattle.serde_json.specs.declared.value.Value.{Value}
use Rattle.jsondoc.specs.Json.{is_whole, items_are_whole, members_are_whole, reading, reading_of, not_json, not_whole, document, with_member, without, without_member, with_item_at_end, with_item}

-- both sides of a test that passes
pub both : (a b : Bool) → (a && b) ≡ true → (a ≡ true) × (b ≡ true)
both true b e = (refl, e)
both false b e = absurd (true≢false (sym e))

and_true : (a b : Bool) → a ≡ true → b ≡ true → (a && b) ≡ true
and_true a b p q = rw (p, q)

neither : (a b : Bool) → a ≡ false → b ≡ false → (a || b) ≡ false
neither a b p q = rw (p, q)

-- what is whole has no float
mutual
  pub has_float-is_whole : (d : Data) → is_whole d ≡ true → has_float d ≡ false
  has_float-is_whole null w = refl
  has_float-is_whole (boolean b) w = refl
  has_float-is_whole (number (unsigned n)) w = refl
  has_float-is_whole (number (negative z)) w = refl
  has_float-is_whole (number (float x)) w = absurd (true≢false (sym w))
  has_float-is_whole (string s) w = refl
  has_float-is_whole (array ds) w = items_have_float-are_whole ds w
  has_float-is_whole (object ms) w = members_have_float-are_whole ms w

  items_have_float-are_whole : (ds : Items) → items_are_whole ds ≡ true → items_have_float ds ≡ false
  items_have_float-are_whole no_items w = refl
  items_have_float-are_whole (item d ds) w =
      let parts = both (is_whole d) (items_are_whole ds) w in neither _ _ (has_float-is_whole d parts.0) (items_have_float-are_whole ds parts.1)

  members_have_float-are_whole : (ms : Members) → members_are_whole ms ≡ true → members_have_float ms ≡ false
  members_have_float-are_whole no_members w = refl
  members_have_float-are_whole (member k d ms) w =
      let parts = both (is_whole d) (members_are_whole ms) w in neither _ _ (has_float-is_whole d parts.0) (members_have_float-are_whole ms parts.1)

-- ---- reading

-- UTF-8 bytes are read as their JSON value is
pub reading-IsUtf8 : (bytes : List ℕ) → IsUtf8 bytes → reading bytes ≡ reading_of (read bytes)
reading-IsUtf8 bytes utf8 = rw (is_utf8-from_IsUtf8 bytes utf8)

pub reads_none : (bytes : List ℕ) → (IsUtf8 bytes → read bytes ≡ None) → reading bytes ≡ not_json
reads_none bytes none =
    elim (is_utf8 bytes) as (λ b. is_utf8 bytes ≡ b → reading_of (cond b (read bytes) None) ≡ not_json) [
      | true ↦ λ e. rw (none (IsUtf8-from_is_utf8 bytes e))
      | false ↦ λ e. refl
    ] refl

pub reading-whole : (bytes : List ℕ) (d : Data) → IsUtf8 bytes → read bytes ≡ Some d → is_whole d ≡ true → reading bytes ≡ document d
reading-whole bytes d utf8 is whole = reading-IsUtf8 bytes utf8 ∙ rw (is, whole)

pub reading-not_whole : (bytes : List ℕ) (d : Data) → IsUtf8 bytes → read bytes ≡ Some d → is_whole d ≡ false → reading bytes ≡ not_whole
reading-not_whole bytes d utf8 is whole = reading-IsUtf8 bytes utf8 ∙ rw (is, whole)

-- the text of a document is read as it
pub text_reads_back : (s : String Global) (d : Data) → read (string_bytes s) ≡ Some d → is_whole d ≡ true → reading (string_bytes s) ≡ document d
text_reads_back s d is whole = reading-whole (string_bytes s) d (IsUtf8-string_bytes s) is whole

-- ---- members and items

-- what is found at a member is its value, or is found after it
pub chosen : (P : Data → Type 0) (o : Ordering) (rest : Option Data) (e d : Data) → (rest ≡ Some d → P d) → P e → match_ordering o rest (Some e) rest ≡ Some d → P d
chosen P Less rest e d later here is = later is
chosen P Equal rest e d later here is = let same : e ≡ d = cc in subst P same here
chosen P Greater rest e d later here is = later is

-- what is found by name stands among the members of an object
pub found_inside : (P : Type 0) (name : List ℕ) (d e : Data) → get name d ≡ Some e → ((ms : Members) → d ≡ object ms → get_member name ms ≡ Some e → P) → P
found_inside P name null e is inside = absurd (let none : None ≡ Some e = is in cc)
found_inside P name (boolean b) e is inside = absurd (let none : None ≡ Some e = is in cc)
found_inside P name (number n) e is inside = absurd (let none : None ≡ Some e = is in cc)
found_inside P name (string s) e is inside = absurd (let none : None ≡ Some e = is in cc)
found_inside P name (array ds) e is inside = absurd (let none : None ≡ Some e = is in cc)
found_inside P name (object ms) e is inside = inside ms refl is

-- a member's value is whole where the object is
pub is_whole-member : (name : List ℕ) (ms : Members) (d : Data) → members_are_whole ms ≡ true → get_member name ms ≡ Some d → is_whole d ≡ true
is_whole-member name no_members d w is = absurd (let none : None ≡ Some d = is in cc)
is_whole-member name (member k e ms) d w is =
    let parts = both (is_whole e) (members_are_whole ms) w in
    chosen (λ x. is_whole x ≡ true) (slice_cmp nat_cmp name k) (get_member name ms) e d (is_whole-member name ms d parts.1) parts.0 is

pub is_whole-get : (name : List ℕ) (d e : Data) → is_whole d ≡ true → get name d ≡ Some e → is_whole e ≡ true
is_whole-get name d e w is = found_inside (is_whole e ≡ true) name d e is (λ ms same found. is_whole-member name ms e (sym (ap is_whole same) ∙ w) found)

-- the value that a look finds is whole
pub found_is_whole : (name : List ℕ) (d : Data) (r : Option (Bor Value)) → is_whole d ≡ true → option_map (λ v. view v.now) r ≡ get name d
    → IfSome r (λ v. IsTrue (is_whole (view v.now)))
found_is_whole name d None w e = tt
found_is_whole name d (Some v) w e = is_whole-get name d (view v.now) w (sym e)

placed : (o : Ordering) (k l : List ℕ) (d e : Data) (ms ns : Members) → is_whole d ≡ true → is_whole e ≡ true → members_are_whole ms ≡ true
    → members_are_whole ns ≡ true → members_are_whole (match_ordering o (member k d (member l e ms)) (member l d ms) (member l e ns)) ≡ true
placed Less k l d e ms ns here there rest later = rw (here, there, rest)
placed Equal k l d e ms ns here there rest later = rw (here, rest)
placed Greater k l d e ms ns here there rest later = rw (there, later)

pub members_are_whole-put : (k : List ℕ) (d : Data) (ms : Members) → is_whole d ≡ true → members_are_whole ms ≡ true → members_are_whole (put k d ms) ≡ true
members_are_whole-put k d no_members here w = rw here
members_are_whole-put k d (member l e ms) here w =
    let parts = both (is_whole e) (members_are_whole ms) w in
    placed (slice_cmp nat_cmp k l) k l d e ms (put k d ms) here parts.0 parts.1 (members_are_whole-put k d ms here parts.1)

pub is_whole-with_member : (name : List ℕ) (d e : Data) → is_whole d ≡ true → is_whole e ≡ true → is_whole (with_member name d e) ≡ true
is_whole-with_member name d null here w = refl
is_whole-with_member name d (boolean b) here w = refl
is_whole-with_member name d (number n) here w = w
is_whole-with_member name d (string s) here w = refl
is_whole-with_member name d (array ds) here w = w
is_whole-with_member name d (object ms) here w = members_are_whole-put name d ms here w

left_out : (o : Ordering) (l : List ℕ) (e : Data) (ns : Members) → is_whole e ≡ true → members_are_whole ns ≡ true
    → members_are_whole (match_ordering o (member l e ns) ns (member l e ns)) ≡ true
left_out Less l e ns here later = rw (here, later)
left_out Equal l e ns here later = later
left_out Greater l e ns here later = rw (here, later)

pub members_are_whole-without : (k : List ℕ) (ms : Members) → members_are_whole ms ≡ true → members_are_whole (without k ms) ≡ true
members_are_whole-without k no_members w = refl
members_are_whole-without k (member l e ms) w =
    let parts = both (is_whole e) (members_are_whole ms) w in
    left_out (slice_cmp nat_cmp k l) l e (without k ms) parts.0 (members_are_whole-without k ms parts.1)

pub is_whole-without_member : (name : List ℕ) (d : Data) → is_whole d ≡ true → is_whole (without_member name d) ≡ true
is_whole-without_member name null w = refl
is_whole-without_member name (boolean b) w = refl
is_whole-without_member name (number n) w = w
is_whole-without_member name (string s) w = refl
is_whole-without_member name (array ds) w = w
is_whole-without_member name (object ms) w = members_are_whole-without name ms w

pub items_are_whole-with_item_at_end : (d : Data) (ds : Items) → is_whole d ≡ true → items_are_whole ds ≡ true → items_are_whole (with_item_at_end d ds) ≡ true
items_are_whole-with_item_at_end d no_items here w = rw here
items_are_whole-with_item_at_end d (item e ds) here w =
    let parts = both (is_whole e) (items_are_whole ds) w in and_true _ _ parts.0 (items_are_whole-with_item_at_end d ds here parts.1)

pub is_whole-with_item : (d e : Data) → is_whole d ≡ true → is_whole e ≡ true → is_whole (with_item d e) ≡ true
is_whole-with_item d null here w = refl
is_whole-with_item d (boolean b) here w = refl
is_whole-with_item d (number n) here w = w
is_whole-with_item d (string s) here w = refl
is_whole-with_item d (array ds) here w = items_are_whole-with_item_at_end d ds here w
is_whole-with_item d (object ms) here w = w

-- what holds of the value e, and of the value before, holds after a step that either makes e or fails and leaves the value
pub holds_after : {E : Type 0} (P : Data → Type 0) (r : Result (Unit {0}) E) (old made new : Data) → OnOk r (new ≡ made) → OnErr r (new ≡ old)
    → P made → P old → P new
holds_after P (Ok x) old made new ok err here there = subst P (let same : new ≡ made = ok in sym same) here
holds_after P (Err e) old made new ok err here there = subst P (let same : new ≡ old = err in sym same) there

-- ---- what a look finds after a change

-- a put member is found
pub get-with_member : (name : List ℕ) (d e : Data) → IsSome (as_object e) → get name (with_member name d e) ≡ Some d
get-with_member name d null is = absurd (true≢false (sym is))
get-with_member name d (boolean b) is = absurd (true≢false (sym is))
get-with_member name d (number n) is = absurd (true≢false (sym is))
get-with_member name d (string s) is = absurd (true≢false (sym is))
get-with_member name d (array ds) is = absurd (true≢false (sym is))
get-with_member name d (object ms) is = get_member-put name d ms

-- the other members stay
pub get-with_member_other : (other name : List ℕ) (d e : Data) → other ≢ name → get other (with_member name d e) ≡ get other e
get-with_member_other other name d null apart = refl
get-with_member_other other name d (boolean b) apart = refl
get-with_member_other other name d (number n) apart = refl
get-with_member_other other name d (string s) apart = refl
get-with_member_other other name d (array ds) apart = refl
get-with_member_other other name d (object ms) apart = get_member-put_other other name d ms apart

either_way : (o p : Ordering) (l : List ℕ) (other : List ℕ) (e : Data) (ms ns : Members) → (o ≡ Equal → p ≢ Equal)
    → slice_cmp nat_cmp other l ≡ p → get_member other ns ≡ get_member other ms
    → get_member other (match_ordering o (member l e ns) ns (member l e ns)) ≡ get_member other (member l e ms)
either_way Less p l other e ms ns apart is same = rw same
either_way Greater p l other e ms ns apart is same = rw same
either_way Equal Less l other e ms ns apart is same = rw (is, same)
either_way Equal Equal l other e ms ns apart is same = absurd (apart refl refl)
either_way Equal Greater l other e ms ns apart is same = rw (is, same)

pub same_names : (a b : List ℕ) → slice_cmp nat_cmp a b ≡ Equal → a ≡ b
same_names a b is = (bytes_eq-Decides a b).0 (sym (is_eq-slice_cmp a b) ∙ ap is_eq is)

pub get_member-without_other : (other name : List ℕ) (ms : Members) → other ≢ name → get_member other (without name ms) ≡ get_member other ms
get_member-without_other other name no_members apart = refl
get_member-without_other other name (member l e ms) apart =
    either_way (slice_cmp nat_cmp name l) (slice_cmp nat_cmp other l) l other e ms (without name ms)
    (λ here there. apart (same_names other l there ∙ sym (same_names name l here))) refl (get_member-without_other other name ms apart)

stays_out : (o : Ordering) (name l : List ℕ) (e : Data) (ns : Members) → slice_cmp nat_cmp name l ≡ o → get_member name ns ≡ None
    → get_member name (match_ordering o (member l e ns) ns (member l e ns)) ≡ None
stays_out Less name l e ns is out = rw (is, out)
stays_out Equal name l e ns is out = out
stays_out Greater name l e ns is out = rw (is, out)

-- a removed member is not found
pub get_member-without : (name : List ℕ) (ms : Members) → get_member name (without name ms) ≡ None
get_member-without name no_members = refl
get_member-without name (member l e ms) = stays_out (slice_cmp nat_cmp name l) name l e (without name ms) refl (get_member-without name ms)

pub get-without_member : (name : List ℕ) (d : Data) → get name (without_member name d) ≡ None
get-without_member name null = refl
get-without_member name (boolean b) = refl
get-without_member name (number n) = refl
get-without_member name (string s) = refl
get-without_member name (array ds) = refl
get-without_member name (object ms) = get_member-without name ms

absent : (o : Ordering) (name l : List ℕ) (e : Data) (ms : Members) → (get_member name ms ≡ None → without name ms ≡ ms)
    → match_ordering o (get_member name ms) (Some e) (get_member name ms) ≡ None
    → match_ordering o (member l e (without name ms)) (without name ms) (member l e (without name ms)) ≡ member l e ms
absent Less name l e ms rest none = ap (member l e) (rest none)
absent Equal name l e ms rest none = let never : Some e ≡ None = none in cc
absent Greater name l e ms rest none = ap (member l e) (rest none)

-- where there is no such member, all stay
pub without-none : (name : List ℕ) (ms : Members) → get_member name ms ≡ None → without name ms ≡ ms
without-none name no_members none = refl
without-none name (member l e ms) none = absent (slice_cmp nat_cmp name l) name l e ms (without-none name ms) none

pub without_member-none : (name : List ℕ) (d : Data) → get name d ≡ None → without_member name d ≡ d
without_member-none name null none = refl
without_member-none name (boolean b) none = refl
without_member-none name (number n) none = refl
without_member-none name (string s) none = refl
without_member-none name (array ds) none = refl
without_member-none name (object ms) none = ap object (without-none name ms none)

pub get-without_member_other : (other name : List ℕ) (d : Data) → other ≢ name → get other (without_member name d) ≡ get other d
get-without_member_other other name null apart = refl
get-without_member_other other name (boolean b) apart = refl
get-without_member_other other name (number n) apart = refl
get-without_member_other other name (string s) apart = refl
get-without_member_other other name (array ds) apart = refl
get-without_member_other other name (object ms) apart = get_member-without_other other name ms apart

-- ---- what the calls of a document ensure

pub put_finds : {E : Type 0} (r : Result (Unit {0}) E) (name : List ℕ) (d e new d' e' : Data) → OnOk r (new ≡ with_member name d e)
    → d ≡ d' → e ≡ e' → OnOk r (IsSome (as_object e') → get name new ≡ Some d')
put_finds (Ok x) name d e new d' e' ok member_is old_is =
    λ is. let made : new ≡ with_member name d e = ok in
    let has : IsSome (as_object e) = subst (λ (v : Data). IsSome (as_object v)) (sym old_is) is in
    ap (get name) made ∙ get-with_member name d e has ∙ ap Some member_is
put_finds (Err x) name d e new d' e' ok member_is old_is = tt

pub put_keeps : {E : Type 0} (r : Result (Unit {0}) E) (name : List ℕ) (d e new e' : Data) → OnOk r (new ≡ with_member name d e) → OnErr r (new ≡ e)
    → e ≡ e' → (other : List ℕ) → other ≢ name → get other new ≡ get other e'
put_keeps (Ok x) name d e new e' ok err old_is other apart =
    let made : new ≡ with_member name d e = ok in ap (get other) made ∙ get-with_member_other other name d e apart ∙ ap (get other) old_is
put_keeps (Err x) name d e new e' ok err old_is other apart = let same : new ≡ e = err in ap (get other) (same ∙ old_is)

pub remove_keeps : (name : List ℕ) (e new e' : Data) → new ≡ without_member name e → e ≡ e' → (other : List ℕ) → other ≢ name → get other new ≡ get other e'
remove_keeps name e new e' rest old_is other apart = ap (get other) rest ∙ get-without_member_other other name e apart ∙ ap (get other) old_is
