-- Members of objects: tests of each, and how deep they nest.
use Rattle.std.proofs.Common.{◌≡◌, ◌≤◌, ℕ, suc, max, List, Bool, true, Option, Some, None, Ordering, Less, Equal, Greater, nat_cmp, refl, arith}
use Rattle.std.specs.Cmp.Lexicographic.{slice_cmp}
use Rattle.std.specs.Ordering.{match_ordering}
use Rattle.serde_json.specs.Data.{Data, null, boolean, number, string, array, object, Members, no_members, member, put, depth, members_depth}
use Rattle.serde_json.specs.Find.{get, get_member}
use Rattle.jsondoc.specs.Json.{with_member, without, without_member}
use Rattle.jsondoc.proofs.Json.{both, same_names}
use Rattle.documents.specs.Document.{each_member}

-- ---- tests of each member

found_passes : (o : Ordering) (p : List ℕ → Data → Bool) (name l : List ℕ) (e d : Data) (rest : Option Data) → slice_cmp nat_cmp name l ≡ o
    → (rest ≡ Some d → p name d ≡ true) → p l e ≡ true → match_ordering o rest (Some e) rest ≡ Some d → p name d ≡ true
found_passes Less p name l e d rest is later here found = later found
found_passes Equal p name l e d rest is later here found =
    let same : e ≡ d = cc in let named : name ≡ l = same_names name l is in rw (named, ← same) here
found_passes Greater p name l e d rest is later here found = later found

-- a member that is found passes
pub each_member-get_member : (p : List ℕ → Data → Bool) (name : List ℕ) (ms : Members) (d : Data) → each_member p ms ≡ true
    → get_member name ms ≡ Some d → p name d ≡ true
each_member-get_member p name no_members d all found = absurd (let none : None ≡ Some d = found in cc)
each_member-get_member p name (member l e ms) d all found =
    let parts = both (p l e) (each_member p ms) all in
    found_passes (slice_cmp nat_cmp name l) p name l e d (get_member name ms) refl (each_member-get_member p name ms d parts.1) parts.0 found

put_passes : (o : Ordering) (p : List ℕ → Data → Bool) (k l : List ℕ) (d e : Data) (ms ns : Members) → slice_cmp nat_cmp k l ≡ o → p k d ≡ true
    → p l e ≡ true → each_member p ms ≡ true → each_member p ns ≡ true
    → each_member p (match_ordering o (member k d (member l e ms)) (member l d ms) (member l e ns)) ≡ true
put_passes Less p k l d e ms ns is new here rest later = rw (new, here, rest)
put_passes Equal p k l d e ms ns is new here rest later =
    let named : k ≡ l = same_names k l is in let new_here : p l d ≡ true = rw (← named) new in rw (new_here, rest)
put_passes Greater p k l d e ms ns is new here rest later = rw (here, later)

-- after a put of what passes each member passes
pub each_member-put : (p : List ℕ → Data → Bool) (k : List ℕ) (d : Data) (ms : Members) → p k d ≡ true → each_member p ms ≡ true
    → each_member p (put k d ms) ≡ true
each_member-put p k d no_members new all = rw new
each_member-put p k d (member l e ms) new all =
    let parts = both (p l e) (each_member p ms) all in
    put_passes (slice_cmp nat_cmp k l) p k l d e ms (put k d ms) refl new parts.0 parts.1 (each_member-put p k d ms new parts.1)

left_passes : (o : Ordering) (p : List ℕ → Data → Bool) (l : List ℕ) (e : Data) (ns : Members) → p l e ≡ true → each_member p ns ≡ true
    → each_member p (match_ordering o (member l e ns) ns (member l e ns)) ≡ true
left_passes Less p l e ns here later = rw (here, later)
left_passes Equal p l e ns here later = later
left_passes Greater p l e ns here later = rw (here, later)

-- after a removal too
pub each_member-without : (p : List ℕ → Data → Bool) (k : List ℕ) (ms : Members) → each_member p ms ≡ true → each_member p (without k ms) ≡ true
each_member-without p k no_members all = refl
each_member-without p k (member l e ms) all =
    let parts = both (p l e) (each_member p ms) all in
    left_passes (slice_cmp nat_cmp k l) p l e (without k ms) parts.0 (each_member-without p k ms parts.1)

-- ---- depth

put_depth : (o : Ordering) (k l : List ℕ) (d e : Data) (ms ns : Members) → members_depth ns ≤ max (depth d) (members_depth ms)
    → members_depth (match_ordering o (member k d (member l e ms)) (member l d ms) (member l e ns)) ≤ max (depth d) (max (depth e) (members_depth ms))
put_depth Less k l d e ms ns later = omega arith
put_depth Equal k l d e ms ns later = omega arith
put_depth Greater k l d e ms ns later = omega (arith, later)

pub members_depth-put : (k : List ℕ) (d : Data) (ms : Members) → members_depth (put k d ms) ≤ max (depth d) (members_depth ms)
members_depth-put k d no_members = omega arith
members_depth-put k d (member l e ms) = put_depth (slice_cmp nat_cmp k l) k l d e ms (put k d ms) (members_depth-put k d ms)

left_depth : (o : Ordering) (l : List ℕ) (e : Data) (ms ns : Members) → members_depth ns ≤ members_depth ms
    → members_depth (match_ordering o (member l e ns) ns (member l e ns)) ≤ max (depth e) (members_depth ms)
left_depth Less l e ms ns later = omega (arith, later)
left_depth Equal l e ms ns later = omega (arith, later)
left_depth Greater l e ms ns later = omega (arith, later)

pub members_depth-without : (k : List ℕ) (ms : Members) → members_depth (without k ms) ≤ members_depth ms
members_depth-without k no_members = omega arith
members_depth-without k (member l e ms) = left_depth (slice_cmp nat_cmp k l) l e ms (without k ms) (members_depth-without k ms)

found_depth : (o : Ordering) (e d : Data) (n : ℕ) (rest : Option Data) → (rest ≡ Some d → depth d ≤ n) → match_ordering o rest (Some e) rest ≡ Some d
    → depth d ≤ max (depth e) n
found_depth Less e d n rest later found = let h = later found in omega (arith, h)
found_depth Equal e d n rest later found = let same : e ≡ d = cc in rw same (omega arith)
found_depth Greater e d n rest later found = let h = later found in omega (arith, h)

pub members_depth-get_member : (name : List ℕ) (ms : Members) (d : Data) → get_member name ms ≡ Some d → depth d ≤ members_depth ms
members_depth-get_member name no_members d found = absurd (let none : None ≡ Some d = found in cc)
members_depth-get_member name (member l e ms) d found =
    found_depth (slice_cmp nat_cmp name l) e d (members_depth ms) (get_member name ms) (members_depth-get_member name ms d) found

-- what is put makes an object at most one deeper than it is
pub depth-with_member : (name : List ℕ) (d e : Data) → depth (with_member name d e) ≤ max (suc (depth d)) (depth e)
depth-with_member name d null = omega arith
depth-with_member name d (boolean b) = omega arith
depth-with_member name d (number n) = omega arith
depth-with_member name d (string s) = omega arith
depth-with_member name d (array ds) = omega arith
depth-with_member name d (object ms) = let h = members_depth-put name d ms in omega (arith, h)

pub depth-without_member : (name : List ℕ) (d : Data) → depth (without_member name d) ≤ depth d
depth-without_member name null = omega arith
depth-without_member name (boolean b) = omega arith
depth-without_member name (number n) = omega arith
depth-without_member name (string s) = omega arith
depth-without_member name (array ds) = omega arith
depth-without_member name (object ms) = let h = members_depth-without name ms in omega (arith, h)

-- a member nests less deep
pub depth-get : (name : List ℕ) (d e : Data) → get name d ≡ Some e → suc (depth e) ≤ depth d
depth-get name null e found = absurd (let none : None ≡ Some e = found in cc)
depth-get name (boolean b) e found = absurd (let none : None ≡ Some e = found in cc)
depth-get name (number n) e found = absurd (let none : None ≡ Some e = found in cc)
depth-get name (string s) e found = absurd (let none : None ≡ Some e = found in cc)
depth-get name (array ds) e found = absurd (let none : None ≡ Some e = found in cc)
depth-get name (object ms) e found = let h = members_depth-get_member name ms e found in omega (arith, h)
