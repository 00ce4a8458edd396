-- What a binary search finds among ascending entries.
use Rattle.std.proofs.Common.{◌≡◌, ℕ, zero, suc, ◌<◌, ◌≤◌, true, List, [], ◌∷◌, ◌++◌, length, get_or, refl, ap, ◌∙◌, subst, arith, IsTrue, IfOk, IfErr}
use Rattle.std.proofs.lemmas.Bool.{and_parts}
use Rattle.std.specs.FinMap.{is_sorted}
use Rattle.std.specs.FinMap.Entries.{below_all}
use Rattle.std.specs.List.Sorted.{IsSearchInRange, IsBinarySearchResult, IsNonDecreasingBy}
use Rattle.std.specs.Ordering.{ordering_index, ordering_reverse, is_lt}
use Rattle.std.specs.Prelude.{Result, Ok, Err}
use Rattle.std.specs.declared.cmp.Ordering.{Ordering}
use Rattle.std.specs.declared.cmp.Ordering.TheVariants.{Less, Equal, Greater}
use Rattle.names.specs.Key.{Key, key_cmp}
use Rattle.names.specs.KeyLaws.{key_cmp_total}
use Rattle.names.proofs.KeyOrder.{key_cmp-IsAntisymmetric}
use Rattle.objects.specs.Place.{AllAbove, StandsAt, IsGap}

less_from_test : (o : Ordering) → is_lt o ≡ true → o ≡ Less
less_from_test Less h = refl
less_from_test Equal h = cc
less_from_test Greater h = cc

pub greater_from_less : (a b : Key) → key_cmp a b ≡ Less → key_cmp b a ≡ Greater
greater_from_less a b h = key_cmp_total.antisymm b a ∙ ap ordering_reverse h

pub less_from_greater : (a b : Key) → key_cmp a b ≡ Greater → key_cmp b a ≡ Less
less_from_greater a b h = key_cmp_total.antisymm b a ∙ ap ordering_reverse h

index_within : (o : Ordering) → ordering_index o ≤ 2
index_within Less = omega arith
index_within Equal = omega arith
index_within Greater = omega arith

-- of two keys, the lower compares with any key as the higher does, or lower
index_rises : (a b k : Key) → key_cmp a b ≡ Less → ordering_index (key_cmp a k) ≤ ordering_index (key_cmp b k)
index_rises a b k h =
    elim (key_cmp b k) as (λ o. key_cmp b k ≡ o → ordering_index (key_cmp a k) ≤ ordering_index o) [
      | Less ↦ λ e. let less : key_cmp a k ≡ Less = key_cmp_total.trans a b k h e in rw less (omega arith)
      | Equal ↦ λ e.
          let same : b ≡ k = key_cmp-IsAntisymmetric b k e in
          let less : key_cmp a k ≡ Less = subst (λ (q : Key). key_cmp a q ≡ Less) same h in
          rw less (omega arith)
      | Greater ↦ λ e. index_within (key_cmp a k)
    ] refl

module _ {X : Type 0} where
  AllAbove-from_test : (key : Key) (entries : List (Key × X)) → below_all key_cmp key entries ≡ true → AllAbove key entries
  AllAbove-from_test key [] h = tt
  AllAbove-from_test key (entry ∷ entries) h =
      let parts = and_parts (is_lt (key_cmp key entry.0)) (below_all key_cmp key entries) h in
      (less_from_test (key_cmp key entry.0) parts.0, AllAbove-from_test key entries parts.1)

  pub AllAbove-at : (key : Key) (entries : List (Key × X)) (i : ℕ) (d : Key × X) → i < length entries → AllAbove key entries → key_cmp key (get_or entries i d).0 ≡ Less
  AllAbove-at key [] i d l h = absurd (omega arith)
  AllAbove-at key (entry ∷ entries) zero d l h = h.0
  AllAbove-at key (entry ∷ entries) (suc i) d l h = AllAbove-at key entries i d (omega arith) h.1

  AllAbove-split : (low key : Key) (front : List (Key × X)) (value : X) (back : List (Key × X)) → AllAbove low (front ++ (key, value) ∷ back) → key_cmp low key ≡ Less
  AllAbove-split low key [] value back h = h.0
  AllAbove-split low key (entry ∷ front) value back h = AllAbove-split low key front value back h.1

  AllAbove-from_reads : (key : Key) (entries : List (Key × X)) → ((j : ℕ) (d : Key × X) → j < length entries → key_cmp (get_or entries j d).0 key ≡ Greater) → AllAbove key entries
  AllAbove-from_reads key [] h = tt
  AllAbove-from_reads key (entry ∷ entries) h =
      (less_from_greater entry.0 key (h 0 entry (omega arith)), AllAbove-from_reads key entries (λ j d l. h (suc j) d (omega arith)))

  pub first_above : (entry : Key × X) (entries : List (Key × X)) → is_sorted key_cmp (entry ∷ entries) ≡ true → AllAbove entry.0 entries
  first_above entry entries h = AllAbove-from_test entry.0 entries (and_parts (below_all key_cmp entry.0 entries) (is_sorted key_cmp entries) h).0

  pub rest_sorted : (entry : Key × X) (entries : List (Key × X)) → is_sorted key_cmp (entry ∷ entries) ≡ true → is_sorted key_cmp entries ≡ true
  rest_sorted entry entries h = (and_parts (below_all key_cmp entry.0 entries) (is_sorted key_cmp entries) h).1

  -- an entry whose key ties with the key is the key's
  found_at : (entries : List (Key × X)) (key : Key) (i : ℕ) → is_sorted key_cmp entries ≡ true → i < length entries
      → ((d : Key × X) → key_cmp (get_or entries i d).0 key ≡ Equal) → StandsAt entries key i
  found_at [] key i s l tie = absurd (omega arith)
  found_at (entry ∷ entries) key zero s l tie =
      let same : entry.0 ≡ key = key_cmp-IsAntisymmetric entry.0 key (tie entry) in
      record {
        front = [];
        value = entry.1;
        back = entries;
        split = λ i. (same i, entry.1) ∷ entries;
        length_front = refl;
        below = tt;
        above = subst (λ (q : Key). AllAbove q entries) same (first_above entry entries s);
      }
  found_at (entry ∷ entries) key (suc i) s l tie =
      let rest = found_at entries key i (rest_sorted entry entries s) (omega arith) (λ d. tie d) in
      let above = subst (λ (es : List (Key × X)). AllAbove entry.0 es) rest.split (first_above entry entries s) in
      record {
        front = entry ∷ rest.front;
        value = rest.value;
        back = rest.back;
        split = ap (λ es. entry ∷ es) rest.split;
        length_front = (let same = rest.length_front in omega arith);
        below = (greater_from_less entry.0 key (AllAbove-split entry.0 key rest.front rest.value rest.back above), rest.below);
        above = rest.above;
      }

  -- a place with the lower keys before it and the higher from it on is the key's
  gap_at : (entries : List (Key × X)) (key : Key) (i : ℕ) → i ≤ length entries
      → ((j : ℕ) (d : Key × X) → j < i → key_cmp (get_or entries j d).0 key ≡ Less)
      → ((j : ℕ) (d : Key × X) → i ≤ j → j < length entries → key_cmp (get_or entries j d).0 key ≡ Greater) → IsGap entries key i
  gap_at entries key zero l lower higher = record {
    front = [];
    back = entries;
    split = refl;
    length_front = refl;
    below = tt;
    above = AllAbove-from_reads key entries (λ j d m. higher j d (omega arith) m);
  }
  gap_at [] key (suc i) l lower higher = absurd (omega arith)
  gap_at (entry ∷ entries) key (suc i) l lower higher =
      let rest = gap_at entries key i (omega arith) (λ j d m. lower (suc j) d (omega arith)) (λ j d n m. higher (suc j) d (omega arith) (omega arith)) in
      record {
        front = entry ∷ rest.front;
        back = rest.back;
        split = ap (λ es. entry ∷ es) rest.split;
        length_front = (let same = rest.length_front in omega arith);
        below = (greater_from_less entry.0 key (lower 0 entry (omega arith)), rest.below);
        above = rest.above;
      }

  -- the comparisons with a key rise along ascending entries
  comparisons_rise : (entries : List (Key × X)) (key : Key) → is_sorted key_cmp entries ≡ true → IsNonDecreasingBy (λ entry. ordering_index (key_cmp entry.0 key)) entries
  comparisons_rise [] key s i j d le l = absurd (omega arith)
  comparisons_rise (entry ∷ entries) key s zero zero d le l = omega arith
  comparisons_rise (entry ∷ entries) key s zero (suc j) d le l =
      index_rises entry.0 (get_or entries j d).0 key (AllAbove-at entry.0 entries j d (omega arith) (first_above entry entries s))
  comparisons_rise (entry ∷ entries) key s (suc i) zero d le l = absurd (omega arith)
  comparisons_rise (entry ∷ entries) key s (suc i) (suc j) d le l = comparisons_rise entries key (rest_sorted entry entries s) i j d (omega arith) (omega arith)

  pub searched : (entries : List (Key × X)) (key : Key) (r : Result ℕ ℕ) → IsTrue (is_sorted key_cmp entries) → IsSearchInRange r (length entries)
      → IsBinarySearchResult (λ entry. key_cmp entry.0 key) entries r → record { found : IfOk r (StandsAt entries key); absent : IfErr r (IsGap entries key) }
  searched entries key (Ok i) s range tie = record { found = found_at entries key i s range (λ d. tie d); absent = tt }
  searched entries key (Err i) s range parted =
      let parts = parted (comparisons_rise entries key s) in
      record { found = tt; absent = gap_at entries key i range (λ j d l. parts.0 j d (omega arith) l) (λ j d le l. parts.1 j d le l) }
