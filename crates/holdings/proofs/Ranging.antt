-- The changes of a resource in a namespace stand beside one another.
use Rattle.std.proofs.Common.{◌≡◌, ℕ, zero, suc, ◌-◌, ◌<◌, ◌≤◌, ◌==◌, ◌&&◌, Bool, true, false, cond, List, [], ◌∷◌, length, get_or, take, drop, ltb, refl, sym, ap, subst, ◌∙◌, ⊎_elim, arith}
use Rattle.std.proofs.lemmas.Bool.{cases_lt}
use Rattle.std.proofs.lemmas.Bool.Decides.{nat_tests}
use Rattle.std.proofs.lemmas.Cmp.{nat_cmp_total, nat_list_cmp_total, on_total, then_total, alike_right}
use Rattle.std.proofs.lemmas.List.Sorted.{IsPartitionedBy-ltb}
use Rattle.std.proofs.lemmas.Map.Text.{is_eq-slice_cmp}
use Rattle.std.specs.Cmp.{IsTotalOrder}
use Rattle.std.specs.Cmp.Lexicographic.{slice_cmp}
use Rattle.std.specs.FinMap.{is_sorted}
use Rattle.std.specs.List.{filter}
use Rattle.std.specs.List.Sorted.{IsNonDecreasingBy, IsPartitionedBy}
use Rattle.std.specs.Ordering.{nat_cmp, ordering_then, ordering_index, is_lt, is_le, is_eq, on, then_cmp}
use Rattle.std.specs.Prelude.{Some}
use Rattle.std.specs.declared.cmp.Ordering.{Ordering}
use Rattle.std.specs.declared.cmp.Ordering.TheVariants.{Less, Equal, Greater}
use Rattle.names.specs.declared.resource.Resource.{Resource}
use Rattle.names.specs.Key.{Key, key_cmp, key_of}
use Rattle.names.specs.Resource.{row}
use Rattle.objects.specs.Objects.{is_of}
use Rattle.objects.proofs.Found.{AllAbove-at, first_above, rest_sorted}
use Rattle.holdings.specs.Ranges.{place_of, StartsAt, EndsAt}

-- ---- by number of the resource, then by namespace

abbrev order : Key → Key → Ordering
order = then_cmp (on (λ (key : Key). (row key.resource).number) nat_cmp) (on (λ (key : Key). key.namespace) (slice_cmp nat_cmp))

order_total : IsTotalOrder order
order_total = then_total (on_total (λ (key : Key). (row key.resource).number) nat_cmp_total) (on_total (λ (key : Key). key.namespace) nat_list_cmp_total)

then_then : (a b c : Ordering) → ordering_then a (ordering_then b c) ≡ ordering_then (ordering_then a b) c
then_then Less b c = refl
then_then Equal b c = refl
then_then Greater b c = refl

index_upto : (o : Ordering) → ordering_index o ≤ 2
index_upto Less = omega arith
index_upto Equal = omega arith
index_upto Greater = omega arith

-- a lower key compares with any as the higher does, or lower
lower_rises : (a b k : Key) → order a b ≡ Less → ordering_index (order a k) ≤ ordering_index (order b k)
lower_rises a b k h =
    elim (order b k) as (λ o. order b k ≡ o → ordering_index (order a k) ≤ ordering_index o) [
      | Less ↦ λ e. let less : order a k ≡ Less = order_total.trans a b k h e in rw less (omega arith)
      | Equal ↦ λ e. let less : order a k ≡ Less = sym (alike_right order_total b k a e) ∙ h in rw less (omega arith)
      | Greater ↦ λ e. index_upto (order a k)
    ] refl

rises_by : (a b k : Key) (o rest : Ordering) → order a b ≡ o → ordering_then o rest ≡ Less → ordering_index (order a k) ≤ ordering_index (order b k)
rises_by a b k Less rest is less = lower_rises a b k is
rises_by a b k Equal rest is less = let same : order a k ≡ order b k = order_total.congr a b k is in rw same (omega arith)
rises_by a b k Greater rest is less = cc

rises : (a b k : Key) → key_cmp a b ≡ Less → ordering_index (order a k) ≤ ordering_index (order b k)
rises a b k less =
    rises_by a b k (order a b) (slice_cmp nat_cmp a.name b.name) refl
    (sym (then_then (nat_cmp (row a.resource).number (row b.resource).number) (slice_cmp nat_cmp a.namespace b.namespace) (slice_cmp nat_cmp a.name b.name)) ∙ less)

-- ---- along ascending entries

lt_index : (o : Ordering) → is_lt o ≡ ltb (ordering_index o) 1
lt_index Less = refl
lt_index Equal = refl
lt_index Greater = refl

le_index : (o : Ordering) → is_le o ≡ ltb (ordering_index o) 2
le_index Less = refl
le_index Equal = refl
le_index Greater = refl

module _ {X : Type 0} (resource : Resource) (namespace : List ℕ) where
  abbrev index_at : Key × X → ℕ
  index_at entry = ordering_index (place_of resource namespace entry.0)

  places_rise : (entries : List (Key × X)) → is_sorted key_cmp entries ≡ true → IsNonDecreasingBy index_at entries
  places_rise [] s i j d le l = absurd (omega arith)
  places_rise (entry ∷ entries) s zero zero d le l = omega arith
  places_rise (entry ∷ entries) s zero (suc j) d le l =
      rises entry.0 (get_or entries j d).0 (key_of resource namespace []) (AllAbove-at entry.0 entries j d (omega arith) (first_above entry entries s))
  places_rise (entry ∷ entries) s (suc i) zero d le l = absurd (omega arith)
  places_rise (entry ∷ entries) s (suc i) (suc j) d le l = places_rise entries (rest_sorted entry entries s) i j d (omega arith) (omega arith)

  -- so those below stand in front of the others, and so do those that are not above
  pub parted_before : (entries : List (Key × X)) → is_sorted key_cmp entries ≡ true → IsPartitionedBy (λ entry. is_lt (place_of resource namespace entry.0)) entries
  parted_before entries sorted =
      subst (λ (test : Key × X → Bool). IsPartitionedBy test entries) (λ i entry. sym (lt_index (place_of resource namespace entry.0)) i)
      (IsPartitionedBy-ltb index_at entries 1 (places_rise entries sorted))

  pub parted_up_to : (entries : List (Key × X)) → is_sorted key_cmp entries ≡ true → IsPartitionedBy (λ entry. is_le (place_of resource namespace entry.0)) entries
  parted_up_to entries sorted =
      subst (λ (test : Key × X → Bool). IsPartitionedBy test entries) (λ i entry. sym (le_index (place_of resource namespace entry.0)) i)
      (IsPartitionedBy-ltb index_at entries 2 (places_rise entries sorted))

-- ---- what lies in the range

module _ {X : Type 0} (p : X → Bool) where
  filter_front : (xs : List X) (k : ℕ) → ((j : ℕ) (d : X) → j < k → j < length xs → p (get_or xs j d) ≡ true)
      → ((j : ℕ) (d : X) → k ≤ j → j < length xs → p (get_or xs j d) ≡ false) → filter p xs ≡ take k xs
  filter_front [] zero inside behind = refl
  filter_front [] (suc k) inside behind = refl
  filter_front (x ∷ xs) zero inside behind =
      ap (λ b. cond b (x ∷ filter p xs) (filter p xs)) (behind 0 x (omega arith) (omega arith))
      ∙ filter_front xs zero (λ j d l m. absurd (omega arith)) (λ j d l m. behind (suc j) d (omega arith) (omega arith))
  filter_front (x ∷ xs) (suc k) inside behind =
      ap (λ b. cond b (x ∷ filter p xs) (filter p xs)) (inside 0 x (omega arith) (omega arith))
      ∙ ap (λ es. x ∷ es) (filter_front xs k (λ j d l m. inside (suc j) d (omega arith) (omega arith)) (λ j d l m. behind (suc j) d (omega arith) (omega arith)))

  take_none : (k : ℕ) (none : List X) → none ≡ [] → take k none ≡ []
  take_none zero none h = refl
  take_none (suc k) none h = λ i. take (suc k) (h i)

  filter_range : (xs : List X) (first end : ℕ) → first ≤ end → ((j : ℕ) (d : X) → j < first → j < length xs → p (get_or xs j d) ≡ false)
      → ((j : ℕ) (d : X) → first ≤ j → j < end → j < length xs → p (get_or xs j d) ≡ true)
      → ((j : ℕ) (d : X) → end ≤ j → j < length xs → p (get_or xs j d) ≡ false) → filter p xs ≡ take (end - first) (drop first xs)
  filter_range xs zero end le before inside behind =
      let same : end ≡ end - 0 = omega arith in
      filter_front xs end (λ j d l m. inside j d (omega arith) l m) behind ∙ ap (λ k. take k xs) same
  filter_range xs (suc first) zero le before inside behind = absurd (omega arith)
  filter_range [] (suc first) (suc end) le before inside behind = sym (take_none (suc end - suc first) [] refl)
  filter_range (x ∷ xs) (suc first) (suc end) le before inside behind =
      let same : end - first ≡ suc end - suc first = omega arith in
      ap (λ b. cond b (x ∷ filter p xs) (filter p xs)) (before 0 x (omega arith) (omega arith))
      ∙ filter_range xs first end (omega arith) (λ j d l m. before (suc j) d (omega arith) (omega arith)) (λ j d l m n. inside (suc j) d (omega arith) (omega arith) (omega arith))
      (λ j d l m. behind (suc j) d (omega arith) (omega arith))
      ∙ ap (λ k. take k (drop first xs)) same

then_is_eq : (a b : Ordering) → is_eq (ordering_then a b) ≡ (is_eq a && is_eq b)
then_is_eq Less b = refl
then_is_eq Equal b = refl
then_is_eq Greater b = refl

nat_is_eq : (m n : ℕ) → is_eq (nat_cmp m n) ≡ (m == n)
nat_is_eq m n = grind (arith, nat_tests)

of_place : (resource : Resource) (namespace : List ℕ) (key : Key) → is_of resource (Some namespace) key ≡ is_eq (place_of resource namespace key)
of_place resource namespace key =
    sym (then_is_eq (nat_cmp (row key.resource).number (row resource).number) (slice_cmp nat_cmp key.namespace namespace)
    ∙ (λ i. nat_is_eq (row key.resource).number (row resource).number i && is_eq-slice_cmp key.namespace namespace i))

below_not : (o : Ordering) → is_lt o ≡ true → is_eq o ≡ false
below_not Less is = refl
below_not Equal is = cc
below_not Greater is = cc

above_not : (o : Ordering) → is_le o ≡ false → is_eq o ≡ false
above_not Less is = cc
above_not Equal is = cc
above_not Greater is = refl

between : (o : Ordering) → is_lt o ≡ false → is_le o ≡ true → is_eq o ≡ true
between Less low high = cc
between Equal low high = refl
between Greater low high = cc

no_both : (o : Ordering) → is_lt o ≡ true → is_le o ≡ false → ⊥
no_both Less low high = cc
no_both Equal low high = cc
no_both Greater low high = cc

module _ {X : Type 0} (resource : Resource) (namespace : List ℕ) where
  pub starts_first : (entries : List (Key × X)) (first end : ℕ) → first ≤ length entries → StartsAt entries resource namespace first → EndsAt entries resource namespace end → first ≤ end
  starts_first [] first end bound starts ends = omega arith
  starts_first (entry ∷ entries) first end bound starts ends =
      ⊎_elim
      (λ less. absurd (no_both (place_of resource namespace (get_or (entry ∷ entries) end entry).0) (starts.0 end entry (omega arith) less) (ends.1 end entry (omega arith) (omega arith))))
      (λ le. le)
      (cases_lt end first)

  pub in_range : (entries : List (Key × X)) (first end : ℕ) → first ≤ length entries → StartsAt entries resource namespace first → EndsAt entries resource namespace end
      → take (end - first) (drop first entries) ≡ filter (λ entry. is_of resource (Some namespace) entry.0) entries
  in_range entries first end bound starts ends =
      let Place : (j : ℕ) (d : Key × X) → Ordering = λ j d. place_of resource namespace (get_or entries j d).0 in
      let Of : (j : ℕ) (d : Key × X) → is_of resource (Some namespace) (get_or entries j d).0 ≡ is_eq (Place j d) = λ j d. of_place resource namespace (get_or entries j d).0 in
      sym (filter_range (λ entry. is_of resource (Some namespace) entry.0) entries first end (starts_first entries first end bound starts ends)
      (λ j d l m. Of j d ∙ below_not (Place j d) (starts.0 j d (omega arith) l))
      (λ j d l m k. Of j d ∙ between (Place j d) (starts.1 j d l k) (ends.0 j d (omega arith) m))
      (λ j d l k. Of j d ∙ above_not (Place j d) (ends.1 j d l k)))
