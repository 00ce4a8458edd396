-- The entries of a resource stand beside one another.
use Rattle.std.proofs.Common.{◌≡◌, ℕ, zero, suc, ◌-◌, ◌<◌, ◌≤◌, ◌==◌, Bool, true, false, cond, List, [], ◌∷◌, length, get_or, take, drop, ltb, leb, refl, sym, ap, ◌∙◌, ⊎_elim, arith}
use Rattle.std.proofs.lemmas.Bool.{ltb-true, ltb-false, leb-true, leb-false, cases_lt, cases_Bool, true≢false, and_parts}
use Rattle.std.proofs.lemmas.Bool.Decides.{nat_tests}
use Rattle.std.specs.FinMap.{is_sorted}
use Rattle.std.specs.List.{filter}
use Rattle.std.specs.List.Sorted.{IsNonDecreasingBy, IsPartitionPoint}
use Rattle.std.specs.Ordering.{nat_cmp, ordering_then}
use Rattle.std.specs.Prelude.{Option, Some, None}
use Rattle.std.specs.Str.{bytes_eq}
use Rattle.std.specs.declared.cmp.Ordering.{Ordering}
use Rattle.std.specs.declared.cmp.Ordering.TheVariants.{Less}
use Rattle.names.specs.declared.resource.Resource.{Resource}
use Rattle.names.specs.Key.{Key, key_cmp}
use Rattle.names.specs.Resource.{row}
use Rattle.objects.specs.Objects.{is_of}
use Rattle.objects.specs.Place.{IsBefore, IsUpTo}
use Rattle.objects.proofs.Found.{AllAbove-at, first_above, rest_sorted}

-- the number of a key's resource
abbrev pub number_of : Key → ℕ
number_of key = (row key.resource).number

first_rises : (m n : ℕ) (rest : Ordering) → ordering_then (nat_cmp m n) rest ≡ Less → m ≤ n
first_rises m n rest h = grind (arith, nat_tests)

within : (m n : ℕ) → n ≤ m → m ≤ n → (m == n) ≡ true
within m n low high = grind (arith, nat_tests)

below : (m n : ℕ) → m < n → (m == n) ≡ false
below m n low = grind (arith, nat_tests)

above : (m n : ℕ) → n < m → (m == n) ≡ false
above m n high = grind (arith, nat_tests)

-- of two keys, the lower is of the same resource, or of one before
number_rises : (a b : Key) → key_cmp a b ≡ Less → number_of a ≤ number_of b
number_rises a b h = first_rises (number_of a) (number_of b) _ h

module _ {X : Type 0} where
  -- the numbers of resources rise along ascending entries
  pub numbers_rise : (entries : List (Key × X)) → is_sorted key_cmp entries ≡ true → IsNonDecreasingBy (λ entry. number_of entry.0) entries
  numbers_rise [] s i j d le l = absurd (omega arith)
  numbers_rise (entry ∷ entries) s zero zero d le l = omega arith
  numbers_rise (entry ∷ entries) s zero (suc j) d le l =
      number_rises entry.0 (get_or entries j d).0 (AllAbove-at entry.0 entries j d (omega arith) (first_above entry entries s))
  numbers_rise (entry ∷ entries) s (suc i) zero d le l = absurd (omega arith)
  numbers_rise (entry ∷ entries) s (suc i) (suc j) d le l = numbers_rise entries (rest_sorted entry entries s) i j d (omega arith) (omega arith)

module _ {X : Type 0} (p : X → Bool) where
  filter-all : (xs : List X) (k : ℕ) → ((j : ℕ) (d : X) → j < k → j < length xs → p (get_or xs j d) ≡ true)
      → ((j : ℕ) (d : X) → k ≤ j → j < length xs → p (get_or xs j d) ≡ false) → filter p xs ≡ take k xs
  filter-all [] zero inside end = refl
  filter-all [] (suc k) inside end = refl
  filter-all (x ∷ xs) zero inside end =
      ap (λ b. cond b (x ∷ filter p xs) (filter p xs)) (end 0 x (omega arith) (omega arith))
      ∙ filter-all xs zero (λ j d l m. absurd (omega arith)) (λ j d l m. end (suc j) d (omega arith) (omega arith))
  filter-all (x ∷ xs) (suc k) inside end =
      ap (λ b. cond b (x ∷ filter p xs) (filter p xs)) (inside 0 x (omega arith) (omega arith))
      ∙ ap (λ es. x ∷ es) (filter-all xs k (λ j d l m. inside (suc j) d (omega arith) (omega arith)) (λ j d l m. end (suc j) d (omega arith) (omega arith)))

  take-none : (k : ℕ) (none : List X) → none ≡ [] → take k none ≡ []
  take-none zero none h = refl
  take-none (suc k) none h = λ i. take (suc k) (h i)

  -- what passes is what lies in a range
  filter-range : (xs : List X) (first end : ℕ) → first ≤ end → ((j : ℕ) (d : X) → j < first → p (get_or xs j d) ≡ false)
      → ((j : ℕ) (d : X) → first ≤ j → j < end → j < length xs → p (get_or xs j d) ≡ true)
      → ((j : ℕ) (d : X) → end ≤ j → j < length xs → p (get_or xs j d) ≡ false) → filter p xs ≡ take (end - first) (drop first xs)
  filter-range xs zero end le before inside after =
      let same : end ≡ end - 0 = omega arith in
      filter-all xs end (λ j d l m. inside j d (omega arith) l m) after ∙ ap (λ k. take k xs) same
  filter-range xs (suc first) zero le before inside after = absurd (omega arith)
  filter-range [] (suc first) (suc end) le before inside after = sym (take-none (suc end - suc first) [] refl)
  filter-range (x ∷ xs) (suc first) (suc end) le before inside after =
      let same : end - first ≡ suc end - suc first = omega arith in
      ap (λ b. cond b (x ∷ filter p xs) (filter p xs)) (before 0 x (omega arith))
      ∙ filter-range xs first end (omega arith) (λ j d l. before (suc j) d (omega arith)) (λ j d l m n. inside (suc j) d (omega arith) (omega arith) (omega arith))
      (λ j d l m. after (suc j) d (omega arith) (omega arith))
      ∙ ap (λ k. take k (drop first xs)) same

-- what `partition_point` finds, in words of the specification
pub IsBefore-from_tests : {X : Type 0} (entries : List (Key × X)) (resource : Resource) (place : ℕ)
    → IsPartitionPoint (λ entry. ltb (number_of entry.0) (row resource).number ≡ true) (λ entry. ltb (number_of entry.0) (row resource).number ≡ false) entries place
    → IsBefore entries resource place
IsBefore-from_tests entries resource place point = (λ k d l m. ltb-true _ _ (point.0 k d l m), λ k d l m. ltb-false _ _ (point.1 k d l m))

pub IsUpTo-from_tests : {X : Type 0} (entries : List (Key × X)) (resource : Resource) (place : ℕ)
    → IsPartitionPoint (λ entry. leb (number_of entry.0) (row resource).number ≡ true) (λ entry. leb (number_of entry.0) (row resource).number ≡ false) entries place
    → IsUpTo entries resource place
IsUpTo-from_tests entries resource place point = (λ k d l m. leb-true _ _ (point.0 k d l m), λ k d l m. leb-false _ _ (point.1 k d l m))

module _ {X : Type 0} where
  pub places_rise : (entries : List (Key × X)) (resource : Resource) (first end : ℕ) → first ≤ length entries → IsBefore entries resource first → IsUpTo entries resource end → first ≤ end
  places_rise [] resource first end bound before upto = omega arith
  places_rise (entry ∷ entries) resource first end bound before upto =
      ⊎_elim
      (λ less. let low = before.0 end entry (omega arith) less in let high = upto.1 end entry (omega arith) (omega arith) in absurd (omega arith))
      (λ le. le)
      (cases_lt end first)

  pub between_places : (entries : List (Key × X)) (resource : Resource) (first end : ℕ) → first ≤ length entries → IsBefore entries resource first → IsUpTo entries resource end
      → take (end - first) (drop first entries) ≡ filter (λ entry. is_of resource None entry.0) entries
  between_places entries resource first end bound before upto =
      let n = (row resource).number in
      sym (filter-range (λ entry. number_of entry.0 == n) entries first end (places_rise entries resource first end bound before upto)
      (λ j d l. below _ n (before.0 j d (omega arith) l))
      (λ j d l m k. within _ n (before.1 j d l k) (upto.0 j d (omega arith) m))
      (λ j d l k. above _ n (upto.1 j d l k)))

module _ {X : Type 0} (p q : X → Bool) (within : (x : X) → p x ≡ true → q x ≡ true) where
  -- what passes the narrower test is looked for among what passes the wider
  pub filter_within : (xs : List X) → filter p (filter q xs) ≡ filter p xs
  filter_within [] = refl
  filter_within (x ∷ xs) =
      elim (q x) as (λ b. q x ≡ b → filter p (cond b (x ∷ filter q xs) (filter q xs)) ≡ filter p (x ∷ xs)) [
        | true ↦ λ e. ap (λ es. cond (p x) (x ∷ es) es) (filter_within xs)
        | false ↦ λ e.
            let fails : p x ≡ false = ⊎_elim (λ passes. absurd (true≢false (sym (within x passes) ∙ e))) (λ fails. fails) (cases_Bool (p x)) in
            filter_within xs ∙ ap (λ b. cond b (x ∷ filter p xs) (filter p xs)) (sym fails)
      ] refl

-- a key of the resource in a namespace is one of the resource
pub is_of-any : (resource : Resource) (namespace : Option (List ℕ)) (key : Key) → is_of resource namespace key ≡ true → is_of resource None key ≡ true
is_of-any resource None key h = h
is_of-any resource (Some namespace) key h = (and_parts (number_of key == (row resource).number) (bytes_eq key.namespace namespace) h).0
