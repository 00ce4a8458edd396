-- What is read has its members in order, and a member that is put again changes nothing.
use Rattle.std.proofs.Common.{◌≡◌, ℕ, List, Bool, true, false, cond, ◌&&◌, Option, Some, None, option_map, option_and_then, Ordering, Less, Equal, Greater, is_lt, nat_cmp, refl, sym, ap, ◌∙◌, true≢false}
use Rattle.std.proofs.lemmas.Cmp.{nat_list_cmp_total}
use Rattle.std.specs.Cmp.Lexicographic.{slice_cmp}
use Rattle.std.specs.Ordering.{match_ordering, ordering_reverse}
use Rattle.std.specs.Str.{is_utf8}
use Rattle.json.specs.Json as json
use Rattle.json.specs.Lex.{tokens}
use Rattle.serde_json.specs.Data.{Data, null, boolean, number, string, array, object, Items, no_items, item, Members, no_members, member, put}
use Rattle.serde_json.specs.Find.{get, get_member}
use Rattle.serde_json.specs.Read.{read, of_json, of_items, of_members, number_of, max_depth}
use Rattle.jsondoc.specs.Json.{is_whole, reading, reading_of, json_of, not_json, not_whole, document, with_member}
use Rattle.jsondoc.proofs.Json.{both, chosen, found_inside}

-- the name stands below the first member's
abbrev precedes : List ℕ → Members → Bool
precedes k no_members = true
precedes k (member l e ms) = is_lt (slice_cmp nat_cmp k l)

-- members ascend, at every level
abbrev mutual
  pub is_ordered : Data → Bool
  is_ordered null = true
  is_ordered (boolean b) = true
  is_ordered (number n) = true
  is_ordered (string s) = true
  is_ordered (array ds) = items_are_ordered ds
  is_ordered (object ms) = members_are_ordered ms

  pub items_are_ordered : Items → Bool
  items_are_ordered no_items = true
  items_are_ordered (item d ds) = is_ordered d && items_are_ordered ds

  pub members_are_ordered : Members → Bool
  members_are_ordered no_members = true
  members_are_ordered (member k d ms) = (precedes k ms && is_ordered d) && members_are_ordered ms

-- ---- a put keeps the order

precedes-put_at : (o : Ordering) (j k l : List ℕ) (d e : Data) (ms ns : Members) → is_lt (slice_cmp nat_cmp j k) ≡ true → is_lt (slice_cmp nat_cmp j l) ≡ true
    → precedes j (match_ordering o (member k d (member l e ms)) (member l d ms) (member l e ns)) ≡ true
precedes-put_at Less j k l d e ms ns a b = a
precedes-put_at Equal j k l d e ms ns a b = b
precedes-put_at Greater j k l d e ms ns a b = b

precedes-put : (j k : List ℕ) (d : Data) (ms : Members) → is_lt (slice_cmp nat_cmp j k) ≡ true → precedes j ms ≡ true → precedes j (put k d ms) ≡ true
precedes-put j k d no_members a b = a
precedes-put j k d (member l e ms) a b = precedes-put_at (slice_cmp nat_cmp k l) j k l d e ms (put k d ms) a b

turned_less : (o : Ordering) → o ≡ Greater → is_lt (ordering_reverse o) ≡ true
turned_less Less is = cc
turned_less Equal is = cc
turned_less Greater is = refl

above : (k l : List ℕ) → slice_cmp nat_cmp k l ≡ Greater → is_lt (slice_cmp nat_cmp l k) ≡ true
above k l is = ap is_lt (nat_list_cmp_total.antisymm l k) ∙ turned_less (slice_cmp nat_cmp k l) is

put_at : (o : Ordering) (k l : List ℕ) (d e : Data) (ms : Members) → slice_cmp nat_cmp k l ≡ o → is_ordered d ≡ true → precedes l ms ≡ true
    → is_ordered e ≡ true → members_are_ordered ms ≡ true → members_are_ordered (put k d ms) ≡ true
    → members_are_ordered (match_ordering o (member k d (member l e ms)) (member l d ms) (member l e (put k d ms))) ≡ true
put_at Less k l d e ms is new first here rest later = rw (is, new, first, here, rest)
put_at Equal k l d e ms is new first here rest later = rw (first, new, rest)
put_at Greater k l d e ms is new first here rest later = rw (precedes-put l k d ms (above k l is) first, here, later)

pub members_are_ordered-put : (k : List ℕ) (d : Data) (ms : Members) → is_ordered d ≡ true → members_are_ordered ms ≡ true
    → members_are_ordered (put k d ms) ≡ true
members_are_ordered-put k d no_members new all = rw new
members_are_ordered-put k d (member l e ms) new all =
    let parts = both (precedes l ms && is_ordered e) (members_are_ordered ms) all in
    let first = both (precedes l ms) (is_ordered e) parts.0 in
    put_at (slice_cmp nat_cmp k l) k l d e ms refl new first.0 first.1 parts.1 (members_are_ordered-put k d ms new parts.1)

-- ---- what is read is in order

mapped : {A B : Type 0} (f : A → B) (o : Option A) (b : B) → option_map f o ≡ Some b → (a : A) × (o ≡ Some a) × (f a ≡ b)
mapped f None b is = absurd (let none : None ≡ Some b = is in cc)
mapped f (Some a) b is = (a, refl, (let same : f a ≡ b = cc in same))

chained : {A B : Type 0} (f : A → Option B) (o : Option A) (b : B) → option_and_then f o ≡ Some b → (a : A) × (o ≡ Some a) × (f a ≡ Some b)
chained f None b is = absurd (let none : None ≡ Some b = is in cc)
chained f (Some a) b is = (a, refl, is)

mutual
  pub is_ordered-of_json : (j : json.Json) (d : Data) → of_json j ≡ Some d → is_ordered d ≡ true
  is_ordered-of_json json.null d is = let same : null ≡ d = cc in ap is_ordered (sym same)
  is_ordered-of_json (json.boolean b) d is = let same : boolean b ≡ d = cc in ap is_ordered (sym same)
  is_ordered-of_json (json.number s) d is = let m = mapped number (number_of s) d is in ap is_ordered (sym m.2)
  is_ordered-of_json (json.string s) d is = let same : string s ≡ d = cc in ap is_ordered (sym same)
  is_ordered-of_json (json.array js) d is =
      let m = mapped array (of_items js) d is in ap is_ordered (sym m.2) ∙ items_are_ordered-of_items js m.0 m.1
  is_ordered-of_json (json.object ms) d is =
      let m = mapped object (of_members ms no_members) d is in ap is_ordered (sym m.2) ∙ members_are_ordered-of_members ms no_members m.0 refl m.1

  items_are_ordered-of_items : (js : json.Items) (ds : Items) → of_items js ≡ Some ds → items_are_ordered ds ≡ true
  items_are_ordered-of_items json.no_items ds is = let same : no_items ≡ ds = cc in ap items_are_ordered (sym same)
  items_are_ordered-of_items (json.item j js) ds is =
      let c = chained (λ d. option_map (item d) (of_items js)) (of_json j) ds is in
      let m = mapped (item c.0) (of_items js) ds c.2 in
      ap items_are_ordered (sym m.2) ∙ rw (is_ordered-of_json j c.0 c.1, items_are_ordered-of_items js m.0 m.1)

  members_are_ordered-of_members : (ms : json.Members) (found r : Members) → members_are_ordered found ≡ true → of_members ms found ≡ Some r
      → members_are_ordered r ≡ true
  members_are_ordered-of_members json.no_members found r before is = let same : found ≡ r = cc in ap members_are_ordered (sym same) ∙ before
  members_are_ordered-of_members (json.member k j ms) found r before is =
      let c = chained (λ d. of_members ms (put k d found)) (of_json j) r is in
      members_are_ordered-of_members ms (put k c.0 found) r (members_are_ordered-put k c.0 found (is_ordered-of_json j c.0 c.1) before) c.2

is_ordered-read : (text : List ℕ) (d : Data) → read text ≡ Some d → is_ordered d ≡ true
is_ordered-read text d is =
    let c = chained of_json (option_and_then (λ p. json.if_last p.0 p.1) (json.value max_depth (tokens text))) d is in is_ordered-of_json c.0 d c.2

read_some : (o : Option Data) (d : Data) → reading_of o ≡ document d → o ≡ Some d
read_some None d is = absurd (let none : not_json ≡ document d = is in cc)
read_some (Some e) d is =
    elim (is_whole e) as (λ b. cond b (document e) not_whole ≡ document d → Some e ≡ Some d) [
      | true ↦ λ h. let same : e ≡ d = cc in ap Some same
      | false ↦ λ h. absurd (let none : not_whole ≡ document d = h in cc)
    ] is

json_some : (bytes : List ℕ) (d : Data) → json_of bytes ≡ Some d → read bytes ≡ Some d
json_some bytes d is =
    elim (is_utf8 bytes) as (λ b. cond b (read bytes) None ≡ Some d → read bytes ≡ Some d) [
      | true ↦ λ h. h
      | false ↦ λ h. absurd (let none : None ≡ Some d = h in cc)
    ] is

-- the members of what is read as a document are in order
pub is_ordered-reading : (bytes : List ℕ) (d : Data) → reading bytes ≡ document d → is_ordered d ≡ true
is_ordered-reading bytes d is = is_ordered-read bytes d (json_some bytes d (read_some (json_of bytes) d is))

-- ---- a member that is put again

less_of : (o : Ordering) → is_lt o ≡ true → o ≡ Less
less_of Less e = refl
less_of Equal e = absurd (true≢false (sym e))
less_of Greater e = absurd (true≢false (sym e))

not_found_at : (o : Ordering) (k : List ℕ) (e : Data) (rest : Option Data) → o ≡ Less → rest ≡ None → match_ordering o rest (Some e) rest ≡ None
not_found_at o k e rest is none = rw is none

get_member-below : (k l : List ℕ) (ms : Members) → slice_cmp nat_cmp k l ≡ Less → precedes l ms ≡ true → members_are_ordered ms ≡ true → get_member k ms ≡ None
get_member-below k l no_members less first all = refl
get_member-below k l (member m e ms) less first all =
    let parts = both (precedes m ms && is_ordered e) (members_are_ordered ms) all in
    let next = both (precedes m ms) (is_ordered e) parts.0 in
    let below : slice_cmp nat_cmp k m ≡ Less = nat_list_cmp_total.trans k l m less (less_of (slice_cmp nat_cmp l m) first) in
    not_found_at (slice_cmp nat_cmp k m) k e (get_member k ms) below (get_member-below k m ms below next.0 parts.1)

same_at : (o : Ordering) (k l : List ℕ) (d e : Data) (ms : Members) → (o ≡ Less → get_member k ms ≡ None)
    → (get_member k ms ≡ Some d → put k d ms ≡ ms) → match_ordering o (get_member k ms) (Some e) (get_member k ms) ≡ Some d
    → match_ordering o (member k d (member l e ms)) (member l d ms) (member l e (put k d ms)) ≡ member l e ms
same_at Less k l d e ms none later found = absurd (let never : None ≡ Some d = sym (none refl) ∙ found in cc)
same_at Equal k l d e ms none later found = let same : e ≡ d = cc in ap (λ x. member l x ms) (sym same)
same_at Greater k l d e ms none later found = ap (member l e) (later found)

pub put-same : (k : List ℕ) (d : Data) (ms : Members) → members_are_ordered ms ≡ true → get_member k ms ≡ Some d → put k d ms ≡ ms
put-same k d no_members all found = absurd (let none : None ≡ Some d = found in cc)
put-same k d (member l e ms) all found =
    let parts = both (precedes l ms && is_ordered e) (members_are_ordered ms) all in
    let first = both (precedes l ms) (is_ordered e) parts.0 in
    same_at (slice_cmp nat_cmp k l) k l d e ms (λ less. get_member-below k l ms less first.0 parts.1) (put-same k d ms parts.1) found

-- a member that is put again as it is changes nothing
pub with_member-same : (name : List ℕ) (d e : Data) → is_ordered e ≡ true → get name e ≡ Some d → with_member name d e ≡ e
with_member-same name d null all found = refl
with_member-same name d (boolean b) all found = refl
with_member-same name d (number n) all found = refl
with_member-same name d (string s) all found = refl
with_member-same name d (array ds) all found = refl
with_member-same name d (object ms) all found = ap object (put-same name d ms all found)

is_ordered-get_member : (name : List ℕ) (ms : Members) (d : Data) → members_are_ordered ms ≡ true → get_member name ms ≡ Some d → is_ordered d ≡ true
is_ordered-get_member name no_members d all found = absurd (let none : None ≡ Some d = found in cc)
is_ordered-get_member name (member l e ms) d all found =
    let parts = both (precedes l ms && is_ordered e) (members_are_ordered ms) all in
    let first = both (precedes l ms) (is_ordered e) parts.0 in
    chosen (λ x. is_ordered x ≡ true) (slice_cmp nat_cmp name l) (get_member name ms) e d (is_ordered-get_member name ms d parts.1) first.1 found

pub is_ordered-get : (name : List ℕ) (d e : Data) → is_ordered d ≡ true → get name d ≡ Some e → is_ordered e ≡ true
is_ordered-get name d e all found =
    found_inside (is_ordered e ≡ true) name d e found (λ ms same here. is_ordered-get_member name ms e (sym (ap is_ordered same) ∙ all) here)
