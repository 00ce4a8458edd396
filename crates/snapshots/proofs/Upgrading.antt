-- What an upgrade leaves of a view.
use Rattle.std.proofs.Common.{◌≡◌, ◌∙◌, refl, sym, ap, subst, ℕ, ◌+◌, ◌≤◌, Bool, true, false, ◌&&◌, List, [], ◌∷◌, ◌++◌, map, arith}
use Rattle.std.specs.Cmp.Lexicographic.{slice_cmp, nat_list_cmp_total}
use Rattle.std.specs.FinMap.{is_sorted}
use Rattle.std.specs.FinMap.Entries.{below_all}
use Rattle.std.specs.List.{AllByRecursion}
use Rattle.std.specs.Ordering.{nat_cmp, is_lt, ordering_then, ordering_reverse}
use Rattle.std.specs.Prelude.{T}
use Rattle.std.specs.declared.cmp.Ordering.{Ordering}
use Rattle.std.specs.declared.cmp.Ordering.TheVariants.{Less, Equal, Greater}
use Rattle.documents.specs.Document.{Document}
use Rattle.names.proofs.Formats.{numbers_small}
use Rattle.names.specs.Format.{has_namespaces, has_resource}
use Rattle.names.specs.declared.format.Rules.{Rules}
use Rattle.names.specs.declared.format.Format.TheVariants.{First}
use Rattle.names.specs.declared.resource.Resource.{Resource}
use Rattle.names.specs.declared.resource.Resource.TheVariants.{ConfigMap, Node, Pod, Service, Deployment, ValidatingAdmissionPolicy, ValidatingAdmissionPolicyBinding, Namespace}
use Rattle.names.specs.Key.{Key, key_of, key_cmp}
use Rattle.names.specs.Resource.{row}
use Rattle.histories.specs.declared.stored.Stored.{Stored}
use Rattle.histories.specs.History.{Write}
use Rattle.requests.specs.Manifest.{Manifest, BodyHasForm}
use Rattle.requests.specs.Namespaces.{namespace_puts, names_among, namespaces_in_use}
use Rattle.histories.specs.View.{View, after_all}
use Rattle.histories.specs.Wider.{floor_at}
use Rattle.expressions.specs.Specification.{these}
use Rattle.expressions.proofs.Standing.{no_plans}
use Rattle.decoded.specs.Decoded.{Decoded, decoded_of, spelled}
use Rattle.decoded.specs.Upgraded.{newest, upgraded_rules, unless_objects, new_names, upgraded_view, HaveForm, IsOfOlderFormat}
use Rattle.snapshots.specs.Added.{NewObject, stored_from, with_added, new_of, namespace_manifest}
use Rattle.snapshots.proofs.Behind.{put_of, IsBehind, StandBehind, all-behind}
use Rattle.snapshots.proofs.NamesInUse.{Name, bytes_cmp, sorted_names}

abbrev Object : Type 0
Object = Key × Stored Decoded

low_floor : (window revision : ℕ) → 1 ≤ revision → floor_at window revision ≤ revision
low_floor window revision begun = omega arith

-- the Namespaces of these names, as objects that were not there
abbrev pub news_of : List (List ℕ) → List (NewObject Decoded)
news_of names = map new_of (map namespace_manifest names)

-- ---- a Namespace is behind all objects of an older format

number_below : (r : Resource) → has_resource First r ≡ true → nat_cmp 8 (row r).number ≡ Greater
number_below ConfigMap is = refl
number_below Node is = refl
number_below Pod is = refl
number_below Service is = refl
number_below Deployment is = refl
number_below ValidatingAdmissionPolicy is = refl
number_below ValidatingAdmissionPolicyBinding is = refl
number_below Namespace is = cc

behind_older : (name : List ℕ) (k : Key) → has_resource First k.resource ≡ true → key_cmp (key_of Namespace [] name) k ≡ Greater
behind_older name k is =
    ap (λ (o : Ordering). ordering_then o (ordering_then (slice_cmp nat_cmp [] k.namespace) (slice_cmp nat_cmp name k.name))) (number_below k.resource is)

is_behind : (name : List ℕ) (os : List Object) → AllByRecursion (λ (o : Object). has_resource First o.0.resource ≡ true) os → IsBehind (key_of Namespace [] name) os
is_behind name [] older = tt
is_behind name (o ∷ os) older = (behind_older name o.0 older.0, is_behind name os older.1)

-- Each of these names is that of a Namespace behind the objects.
abbrev AreBehind : List Object → List Name → Type 0
AreBehind os names = AllByRecursion (λ (n : Name). IsBehind (key_of Namespace [] n.0) os) names

are_behind : (os : List Object) → AllByRecursion (λ (o : Object). has_resource First o.0.resource ≡ true) os → (names : List Name) → AreBehind os names
are_behind os older [] = tt
are_behind os older (n ∷ ns) = (is_behind n.0 os older, are_behind os older ns)

-- ---- and behind the Namespaces before it

parts : (a b : Bool) → T (a && b) → T a × T b
parts true b is = (tt, is)
parts false b is = absurd is

less_from : (o : Ordering) → T (is_lt o) → o ≡ Less
less_from Less is = refl
less_from Equal is = absurd is
less_from Greater is = absurd is

greater : (a b : List ℕ) → T (is_lt (bytes_cmp a b)) → key_cmp (key_of Namespace [] b) (key_of Namespace [] a) ≡ Greater
greater a b below = nat_list_cmp_total.antisymm b a ∙ ap ordering_reverse (less_from (bytes_cmp a b) below)

behind_one_more : (k : Key) (os : List Object) (o : Object) → IsBehind k os → key_cmp k o.0 ≡ Greater → IsBehind k (os ++ o ∷ [])
behind_one_more k [] o behind last = (last, tt)
behind_one_more k (x ∷ os) o behind last = (behind.0, behind_one_more k os o behind.1 last)

behind_next : (os : List Object) (name : List ℕ) (s : Stored Decoded) (ns : List Name) → T (below_all bytes_cmp name ns) → AreBehind os ns
    → AreBehind (os ++ (key_of Namespace [] name, s) ∷ []) ns
behind_next os name s [] below behind = tt
behind_next os name s (n ∷ ns) below behind =
    let both = parts (is_lt (bytes_cmp name n.0)) (below_all bytes_cmp name ns) below in (
      behind_one_more (key_of Namespace [] n.0) os (key_of Namespace [] name, s) behind.0 (greater name n.0 both.0),
      behind_next os name s ns both.1 behind.1,
    )

stand_behind : (os : List Object) (revision : ℕ) (names : List Name) → T (is_sorted bytes_cmp names) → AreBehind os names
    → StandBehind os revision (news_of (map (λ n. n.0) names))
stand_behind os revision [] ascend behind = tt
stand_behind os revision (n ∷ ns) ascend behind =
    let both = parts (below_all bytes_cmp n.0 ns) (is_sorted bytes_cmp ns) ascend in
    let first : Object = stored_from revision (new_of (namespace_manifest n.0)) in (
      behind.0,
      stand_behind (os ++ first ∷ []) (revision + 1) ns both.1 (behind_next os n.0 first.1 ns both.0 behind.1),
    )

-- ---- no plans

spelled_bare : (d : Document) → spelled d.json (these []) ≡ decoded_of d.json []
spelled_bare d = ap (λ ps. spelled d.json (these ps)) (sym (no_plans d.json))

same_puts : (names : List (List ℕ)) → map put_of (news_of names) ≡ namespace_puts (λ d. decoded_of d.json []) names
same_puts [] = refl
same_puts (name ∷ names) =
    let m : Manifest = namespace_manifest name in
    let Put : Decoded → Write Decoded = λ b. put_of (record { key = (new_of m).key; document = (new_of m).document; beside = b }) in
    λ i. Put (spelled_bare (new_of m).document i) ∷ same_puts names i

-- ---- all of it

-- The new Namespaces stand behind all objects.
news_stand : (old : Rules) (held : View Decoded) → IsOfOlderFormat old held → StandBehind held.objects held.revision (news_of (new_names old held))
news_stand old held older = stand_if (has_namespaces old.format) refl
  where
    stand_if : (are_objects : Bool) → has_namespaces old.format ≡ are_objects
        → StandBehind held.objects held.revision (news_of (unless_objects are_objects (namespaces_in_use held)))
    stand_if true is = tt
    stand_if false is =
        let names : List Name = names_among held.objects in
        stand_behind held.objects held.revision names (sorted_names held.objects) (are_behind held.objects (older.objects is) names)

-- An upgrade leaves a view of an older format with the Namespaces of its names.
pub upgraded_is : (old : Rules) (held : View Decoded) → IsOfOlderFormat old held
    → with_added (upgraded_rules old held.revision).window_events held (news_of (new_names old held)) ≡ upgraded_view old held
upgraded_is old held older =
    let rules : Rules = upgraded_rules old held.revision in
    let names : List (List ℕ) = new_names old held in
    let floor : rules.floor ≡ floor_at old.window_events held.revision = (numbers_small newest (floor_at old.window_events held.revision)).of_floor in
    let above : rules.floor ≤ held.revision = subst (λ (n : ℕ). n ≤ held.revision) (sym floor) (low_floor old.window_events held.revision older.begun) in
    sym (all-behind rules held (news_of names) above (news_stand old held older) older.events)
    ∙ ap (after_all rules held) (same_puts names)

-- The documents of these manifests have their form.
pub have_form : (names : List (List ℕ)) (ms : List Manifest) → ms ≡ map namespace_manifest names → AllByRecursion (λ m. BodyHasForm m.key m.body) ms → HaveForm names
have_form names ms are form =
    of_names names (subst (λ (all : List Manifest). AllByRecursion (λ (m : Manifest). BodyHasForm m.key m.body) all) are form)
  where
    of_names : (names : List (List ℕ)) → AllByRecursion (λ (m : Manifest). BodyHasForm m.key m.body) (map namespace_manifest names) → HaveForm names
    of_names [] form = tt
    of_names (name ∷ names) form = (form.0, of_names names form.1)
