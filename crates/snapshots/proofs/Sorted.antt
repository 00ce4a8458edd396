-- Ascending keys, and one more key in front of them or after.
use Rattle.std.proofs.Common.{◌≡◌, ◌∙◌, sym, ap, refl, Bool, true, false, cond, ◌&&◌, List, [], ◌∷◌, ◌++◌, Some, None, Ordering, Less, Greater}
use Rattle.std.proofs.lemmas.Bool.{and_parts}
use Rattle.std.specs.FinMap.{is_sorted}
use Rattle.std.specs.FinMap.Entries.{below_all, by_order}
use Rattle.std.specs.Ordering.{is_eq, is_lt, ordering_reverse}
use Rattle.names.specs.Key.{Key, key_cmp}
use Rattle.names.specs.KeyLaws.{key_cmp_total}
use Rattle.objects.specs.Objects.{value_at, with_value}
use Rattle.records.proofs.Ascending.{less_from}

both : (a b : Bool) → a ≡ true → b ≡ true → (a && b) ≡ true
both a b p q = ap (λ x. x && b) p ∙ q

second_too : (a b c d : Bool) → (a ≡ true → c ≡ true → b ≡ true) → ((a && b) && (c && d)) ≡ (a && (c && d))
second_too true true c d to = refl
second_too true false true d to = let no : false ≡ true = to refl refl in cc
second_too true false false d to = refl
second_too false b c d to = refl

module _ {X : Type 0} where
  -- ---- in front

  below_through : (k : Key) (y : Key × X) (es : List (Key × X)) → key_cmp k y.0 ≡ Less → below_all key_cmp y.0 es ≡ true → below_all key_cmp k es ≡ true
  below_through k y [] less below = refl
  below_through k y (e ∷ es) less below =
      let parts = and_parts (is_lt (key_cmp y.0 e.0)) (below_all key_cmp y.0 es) below in
      let then : key_cmp y.0 e.0 ≡ Less = less_from (key_cmp y.0 e.0) parts.0 in
      both (is_lt (key_cmp k e.0)) (below_all key_cmp k es) (ap is_lt (key_cmp_total.trans k y.0 e.0 less then)) (below_through k y es less parts.1)

  -- Whether keys ascend, the first two and those after the first decide.
  first_decides : (x y : Key × X) (es : List (Key × X)) → is_sorted key_cmp (x ∷ y ∷ es) ≡ (is_lt (key_cmp x.0 y.0) && is_sorted key_cmp (y ∷ es))
  first_decides x y es =
      second_too (is_lt (key_cmp x.0 y.0)) (below_all key_cmp x.0 es) (below_all key_cmp y.0 es) (is_sorted key_cmp es)
      (λ less below. below_through x.0 y es (less_from (key_cmp x.0 y.0) less) below)

  -- so it goes on with the second, where that is after the first
  pub goes_on : (x y : Key × X) (left es all : List (Key × X)) (b : Bool) → left ≡ y ∷ es → is_sorted key_cmp (x ∷ left) ≡ is_sorted key_cmp all
      → b ≡ is_lt (key_cmp x.0 y.0) → b ≡ true → is_sorted key_cmp (y ∷ es) ≡ is_sorted key_cmp all
  goes_on x y left es all b step so is after =
      ap (λ (t : Bool). t && is_sorted key_cmp (y ∷ es)) (sym after ∙ is)
      ∙ sym (first_decides x y es)
      ∙ ap (λ (rest : List (Key × X)). is_sorted key_cmp (x ∷ rest)) (sym step)
      ∙ so

  -- ---- after

  -- the last of some keys that are above this one
  below_end : (k : Key) (xs : List (Key × X)) (y : Key × X) (more : List (Key × X)) → below_all key_cmp k (xs ++ y ∷ more) ≡ true → is_lt (key_cmp k y.0) ≡ true
  below_end k [] y more below = (and_parts (is_lt (key_cmp k y.0)) (below_all key_cmp k more) below).0
  below_end k (x ∷ xs) y more below = below_end k xs y more (and_parts (is_lt (key_cmp k x.0)) (below_all key_cmp k (xs ++ y ∷ more)) below).1

  below_front : (k : Key) (xs : List (Key × X)) (y : Key × X) (more : List (Key × X)) → below_all key_cmp k (xs ++ y ∷ more) ≡ true
      → below_all key_cmp k (xs ++ y ∷ []) ≡ true
  below_front k [] y more below = both (is_lt (key_cmp k y.0)) true (and_parts (is_lt (key_cmp k y.0)) (below_all key_cmp k more) below).0 refl
  below_front k (x ∷ xs) y more below =
      let parts = and_parts (is_lt (key_cmp k x.0)) (below_all key_cmp k (xs ++ y ∷ more)) below in
      both (is_lt (key_cmp k x.0)) (below_all key_cmp k (xs ++ y ∷ [])) parts.0 (below_front k xs y more parts.1)

  -- the first of ascending keys ascend
  pub sorted_front : (xs : List (Key × X)) (y : Key × X) (more : List (Key × X)) → is_sorted key_cmp (xs ++ y ∷ more) ≡ true
      → is_sorted key_cmp (xs ++ y ∷ []) ≡ true
  sorted_front [] y more sorted = refl
  sorted_front (x ∷ xs) y more sorted =
      let parts = and_parts (below_all key_cmp x.0 (xs ++ y ∷ more)) (is_sorted key_cmp (xs ++ y ∷ more)) sorted in
      both (below_all key_cmp x.0 (xs ++ y ∷ [])) (is_sorted key_cmp (xs ++ y ∷ [])) (below_front x.0 xs y more parts.0) (sorted_front xs y more parts.1)

  above_first : (x : Key × X) (xs : List (Key × X)) (k : Key) (s : X) → below_all key_cmp x.0 (xs ++ (k, s) ∷ []) ≡ true → key_cmp k x.0 ≡ Greater
  above_first x xs k s below =
      key_cmp_total.antisymm k x.0 ∙ ap ordering_reverse (less_from (key_cmp x.0 k) (below_end x.0 xs (k, s) [] below))

  -- under a key above all others nothing stands,
  pub none_last : (xs : List (Key × X)) (k : Key) (s : X) → is_sorted key_cmp (xs ++ (k, s) ∷ []) ≡ true → value_at k xs ≡ None
  none_last [] k s sorted = refl
  none_last (x ∷ xs) k s sorted =
      let parts = and_parts (below_all key_cmp x.0 (xs ++ (k, s) ∷ [])) (is_sorted key_cmp (xs ++ (k, s) ∷ [])) sorted in
      ap (λ (r : Ordering). cond (is_eq r) (Some x.1) (value_at k xs)) (above_first x xs k s parts.0) ∙ none_last xs k s parts.1

  -- and it has its place after them
  pub with_value_last : (xs : List (Key × X)) (k : Key) (s : X) → is_sorted key_cmp (xs ++ (k, s) ∷ []) ≡ true → with_value k s xs ≡ xs ++ (k, s) ∷ []
  with_value_last [] k s sorted = refl
  with_value_last (x ∷ xs) k s sorted =
      let parts = and_parts (below_all key_cmp x.0 (xs ++ (k, s) ∷ [])) (is_sorted key_cmp (xs ++ (k, s) ∷ [])) sorted in
      ap (λ (r : Ordering). by_order r ((k, s) ∷ x ∷ xs) ((x.0, s) ∷ xs) (x ∷ with_value k s xs)) (above_first x xs k s parts.0)
      ∙ ap (λ (rest : List (Key × X)). x ∷ rest) (with_value_last xs k s parts.1)
