-- What is chosen of a checkpoint, and how many objects lie below.
use Rattle.std.proofs.Common.{arith, ◌≡◌, ◌∙◌, refl, sym, ap, ℕ, suc, zero, ◌+◌, ◌-◌, Bool, true, false, cond, ◌||◌, List, [], ◌∷◌, ◌++◌, length, map, length-append, Vec, Global}
use Rattle.std.proofs.lemmas.Cmp.{tied_itself}
use Rattle.std.proofs.lemmas.List.Elements.{filter-append}
use Rattle.std.proofs.lemmas.List.Filters.{length-filter_both}
use Rattle.std.specs.Prelude.{not}
use Rattle.std.specs.BTreeSet.{insert_key}
use Rattle.std.specs.Cmp.Lexicographic.{nat_list_cmp_total}
use Rattle.std.specs.Int.{div_ceil}
use Rattle.std.specs.List.{AllByRecursion, filter, list_any, range_with_len}
use Rattle.std.specs.Option.{option_map_or}
use Rattle.std.specs.Ordering.{is_eq, match_ordering}
use Rattle.std.specs.declared.cmp.Ordering.{Ordering}
use Rattle.std.specs.declared.cmp.Ordering.TheVariants.{Less, Equal, Greater}
use Rattle.names.specs.Key.{Key, key_bytes}
use Rattle.names.proofs.KeyOrder.{numbered-number}
use Rattle.window.specs.declared.event.Event.{Event}
use Rattle.documents.specs.Document.{Document}
use Rattle.histories.specs.declared.stored.Stored.{Stored}
use Rattle.histories.specs.View as seen
use Rattle.pages.specs.Page.{Entry, bytes_cmp}
use Rattle.records.specs.Entries.{plan_entry, plan_entries, event_entry, stored_entry, plans_among}
use Rattle.snapshots.specs.KeptEntries.{chosen_of, objects_among}
use Rattle.snapshots.proofs.Sieving.{objects_of_view}
use Rattle.snapshots.specs.LyingBelow.{AreChosen}
use Rattle.snapshots.specs.Keeping.{held_plans, held_entries}
use Rattle.decoded.specs.Decoded.{Decoded}
use Rattle.paged.specs.declared.chosen.Chosen.{Chosen}
use Rattle.paged.specs.Lying.{is_rule, base_of}
use Rattle.paged.specs.Chosen.{is_rule_key, rules_among, has_key, is_chosen, ChoosesRules}

abbrev Object : Type 0
Object = Key × Stored Decoded

abbrev Bytes : Type 0
Bytes = Vec ℕ Global

-- ---- keys in order

abbrev order : Bytes → Bytes → Ordering
order a b = bytes_cmp a.items b.items

or_true : (b : Bool) → (b || true) ≡ true
or_true true = refl
or_true false = refl

-- what is inserted is there
there_now : (v : Bytes) (ks : List Bytes) → list_any (λ k. is_eq (order v k)) (insert_key order ks v) ≡ true
there_now v [] = ap (λ (o : Ordering). is_eq o || false) (tied_itself nat_list_cmp_total v.items)
there_now v (x ∷ xs) = step (order v x) refl (there_now v xs)
  where
    step : (o : Ordering) → order v x ≡ o → list_any (λ k. is_eq (order v k)) (insert_key order xs v) ≡ true
        → list_any (λ k. is_eq (order v k)) (match_ordering o (v ∷ x ∷ xs) (x ∷ xs) (x ∷ insert_key order xs v)) ≡ true
    step Less is more = ap (λ (o : Ordering). is_eq o || list_any (λ k. is_eq (order v k)) (x ∷ xs)) (tied_itself nat_list_cmp_total v.items)
    step Equal is more = ap (λ (o : Ordering). is_eq o || list_any (λ k. is_eq (order v k)) xs) is
    step Greater is more = ap (λ (o : Ordering). is_eq o || list_any (λ k. is_eq (order v k)) (insert_key order xs v)) is ∙ more

pub or_second : (a : Bool) {b : Bool} → b ≡ true → (a || b) ≡ true
or_second a is = ap (λ (t : Bool). a || t) is ∙ or_true a

pub or_more : (a b c : Bool) → (b ≡ true → c ≡ true) → (a || b) ≡ true → (a || c) ≡ true
or_more true b c more is = refl
or_more false b c more is = more is

-- and what was there stays
there_still : (p : Bytes → Bool) (v : Bytes) (ks : List Bytes) → list_any p ks ≡ true → list_any p (insert_key order ks v) ≡ true
there_still p v [] there = cc
there_still p v (x ∷ xs) there = step (order v x) (or_more (p x) (list_any p xs) (list_any p (insert_key order xs v)) (there_still p v xs) there)
  where
    step : (o : Ordering) → (p x || list_any p (insert_key order xs v)) ≡ true
        → list_any p (match_ordering o (v ∷ x ∷ xs) (x ∷ xs) (x ∷ insert_key order xs v)) ≡ true
    step Less more = or_second (p v) there
    step Equal more = there
    step Greater more = more

pub has_inserted : (v : Bytes) (old new : List Bytes) (bytes : List ℕ) → new ≡ insert_key order old v → v.items ≡ bytes → list_any (λ k. is_eq (bytes_cmp bytes k.items)) new ≡ true
has_inserted v old new bytes is same = (λ i. list_any (λ k. is_eq (bytes_cmp (sym same i) k.items)) (is i)) ∙ there_now v old

pub has_still : (v : Bytes) (old new : List Bytes) (bytes : List ℕ) → new ≡ insert_key order old v → list_any (λ k. is_eq (bytes_cmp bytes k.items)) old ≡ true
    → list_any (λ k. is_eq (bytes_cmp bytes k.items)) new ≡ true
has_still v old new bytes is before = ap (list_any (λ k. is_eq (bytes_cmp bytes k.items))) is ∙ there_still (λ k. is_eq (bytes_cmp bytes k.items)) v old before

-- ---- policies and bindings are chosen

pub rule_key : (k : Key) → is_rule_key (1 ∷ key_bytes k) ≡ is_rule k.resource
rule_key k = ap (λ o. option_map_or is_rule o false) (numbered-number k.resource)

pub chooses_rules : (chosen : Chosen) → ChoosesRules (is_chosen chosen)
chooses_rules chosen k is = ap (λ (b : Bool). b || has_key chosen.keys (1 ∷ key_bytes k)) (rule_key k ∙ is)

not_false : (b : Bool) → not b ≡ false → b ≡ true
not_false true is = refl
not_false false is = cc

all_chosen : (chosen : List ℕ → Bool) → ChoosesRules chosen → (os : List Object)
    → AllByRecursion (λ o. not (is_rule o.0.resource) ≡ false → chosen (1 ∷ key_bytes o.0) ≡ true) os
all_chosen chosen rules [] = tt
all_chosen chosen rules (o ∷ os) = (λ above. rules o.0 (not_false (is_rule o.0.resource) above), all_chosen chosen rules os)

pub are_chosen : (chosen : List ℕ → Bool) → ChoosesRules chosen → (held : seen.View Decoded) → AreChosen (λ r. not (is_rule r)) chosen held
are_chosen chosen rules held = all_chosen chosen rules held.objects

-- ---- how many lie below

abbrev rules_of : List Object → List Object
rules_of os = filter (λ o. is_rule o.0.resource) os

rules-append : (xs ys : List Entry) → rules_among (xs ++ ys) ≡ rules_among xs + rules_among ys
rules-append xs ys =
    ap length (filter-append (λ (e : Entry). is_rule_key e.0) xs ys)
    ∙ length-append (filter (λ (e : Entry). is_rule_key e.0) xs) (filter (λ (e : Entry). is_rule_key e.0) ys)

rules_objects : (os : List Object) → rules_among (map stored_entry os) ≡ length (rules_of os)
rules_objects [] = refl
rules_objects (o ∷ os) =
    let more : List Entry = filter (λ (e : Entry). is_rule_key e.0) (map stored_entry os) in
    ap (λ (b : Bool). length (cond b (stored_entry o ∷ more) more)) (rule_key o.0)
    ∙ elim (is_rule o.0.resource) as (λ b. length (cond b (stored_entry o ∷ more) more) ≡ length (cond b (o ∷ rules_of os) (rules_of os))) [
      | true ↦ ap suc (rules_objects os)
      | false ↦ rules_objects os
    ]

no_events : (es : List (Event Document)) → rules_among (map event_entry es) ≡ 0
no_events [] = refl
no_events (e ∷ es) = no_events es

no_pieces : (k : Key) (bytes : List ℕ) (from count : ℕ) → rules_among (map (plan_entry k bytes) (range_with_len from count)) ≡ 0
no_pieces k bytes from zero = refl
no_pieces k bytes from (suc count) = no_pieces k bytes (from + 1) count

no_plans : (os : List Object) → rules_among (plans_among held_plans os) ≡ 0
no_plans [] = refl
no_plans (o ∷ os) =
    let parts = rules-append (plan_entries o.0 (held_plans o)) (plans_among held_plans os) in
    let here = no_pieces o.0 (held_plans o) 0 (div_ceil (length (held_plans o)) 16384) in
    let rest = no_plans os in
    omega (arith, parts, here, rest)

rules_of_view : (v : seen.View Decoded) → rules_among (held_entries v) ≡ length (rules_of v.objects)
rules_of_view v =
    let front = rules-append (map stored_entry v.objects) (plans_among held_plans v.objects ++ map event_entry v.events) in
    let middle = rules-append (plans_among held_plans v.objects) (map event_entry v.events) in
    let objects = rules_objects v.objects in
    let planned = no_plans v.objects in
    let told = no_events v.events in
    omega (arith, front, middle, objects, planned, told)

-- of those that are chosen as many are policies and bindings as of all
same_count : (o : Object) (xs ys : List Object) (b : Bool) → length xs ≡ length ys → length (cond b (o ∷ xs) xs) ≡ length (cond b (o ∷ ys) ys)
same_count o xs ys true same = ap suc same
same_count o xs ys false same = same

one_chosen : (o : Object) (picked os : List Object) (c b : Bool) → is_rule o.0.resource ≡ b → (b ≡ true → c ≡ true) → length (rules_of picked) ≡ length (rules_of os)
    → length (rules_of (cond c (o ∷ picked) picked)) ≡ length (cond b (o ∷ rules_of os) (rules_of os))
one_chosen o picked os true b of rule same =
    ap (λ (t : Bool). length (cond t (o ∷ rules_of picked) (rules_of picked))) of ∙ same_count o (rules_of picked) (rules_of os) b same
one_chosen o picked os false false of rule same = same
one_chosen o picked os false true of rule same = let never : false ≡ true = rule refl in cc

rules_chosen : (chosen : List ℕ → Bool) → ChoosesRules chosen → (os : List Object)
    → length (rules_of (filter (λ o. chosen (1 ∷ key_bytes o.0)) os)) ≡ length (rules_of os)
rules_chosen chosen rules [] = refl
rules_chosen chosen rules (o ∷ os) =
    one_chosen o (filter (λ p. chosen (1 ∷ key_bytes p.0)) os) os (chosen (1 ∷ key_bytes o.0)) (is_rule o.0.resource) refl (rules o.0) (rules_chosen chosen rules os)

-- All that were counted but the policies and the bindings among what was kept.
pub count_is : (chosen : List ℕ → Bool) → ChoosesRules chosen → (held : seen.View Decoded)
    → objects_among (held_entries held) - rules_among (held_entries (chosen_of chosen held)) ≡ length (base_of held)
count_is chosen rules held =
    let all : objects_among (held_entries held) ≡ length held.objects = objects_of_view held_plans held in
    let some : rules_among (held_entries (chosen_of chosen held)) ≡ length (rules_of held.objects) =
    rules_of_view (chosen_of chosen held) ∙ rules_chosen chosen rules held.objects
    in
    let parts : length (rules_of held.objects) + length (base_of held) ≡ length held.objects =
    length-filter_both (λ (o : Object). is_rule o.0.resource) (λ (o : Object). not (is_rule o.0.resource)) (λ o. refl) held.objects
    in
    omega (arith, all, some, parts)
