-- Changes and entries, taken in turn in the order of their keys.
use Rattle.std.proofs.Common.{◌≡◌, ℕ, zero, suc, ◌<◌, ◌≤◌, true, false, cond, not, List, [], ◌∷◌, ◌++◌, length, get_or, take, drop, refl, sym, ap, subst, ◌∙◌, append_assoc, arith}
use Rattle.std.proofs.lemmas.Bool.{and_parts}
use Rattle.std.proofs.lemmas.Cmp.{tied_itself}
use Rattle.std.specs.FinMap.{is_sorted}
use Rattle.std.specs.FinMap.Entries.{by_order, below_all}
use Rattle.std.specs.List.{AllByRecursion}
use Rattle.std.specs.List.Sorted.{IsPartitionedBy, IsPartitionPoint}
use Rattle.std.specs.Ordering.{eq_by_cmp, is_eq, is_lt, ordering_reverse}
use Rattle.std.specs.Prelude.{Option, Some, None}
use denote.Ref.{Bor}
use Rattle.std.specs.declared.cmp.Ordering.{Ordering}
use Rattle.std.specs.declared.cmp.Ordering.TheVariants.{Less, Equal, Greater}
use Rattle.names.specs.Key.{Key, key_cmp}
use Rattle.names.specs.KeyLaws.{key_cmp_total}
use Rattle.names.proofs.KeyOrder.{key_cmp-IsAntisymmetric}
use Rattle.objects.specs.Objects.{with_value, without_key}
use Rattle.objects.specs.Merged.{changed, merged}
use Rattle.objects.specs.Steps.{changes_of, put_by, puts_of, NoneBelow, AllAbove, IsSplitAt}

less_from_test : (o : Ordering) → is_lt o ≡ true → o ≡ Less
less_from_test Less h = refl
less_from_test Equal h = cc
less_from_test Greater h = cc

not_less_from_test : (o : Ordering) → is_lt o ≡ false → o ≡ Less → ⊥
not_less_from_test Less h less = cc
not_less_from_test Equal h less = cc
not_less_from_test Greater h less = cc

turned : (a b : Key) → key_cmp a b ≡ Less → key_cmp b a ≡ Greater
turned a b h = key_cmp_total.antisymm b a ∙ ap ordering_reverse h

-- each key is above this one
abbrev IsAbove : {Y : Type 0} → Key → List (Key × Y) → Type 0
IsAbove key entries = AllByRecursion (λ entry. key_cmp key entry.0 ≡ Less) entries

above-lower : {Y : Type 0} (low key : Key) (es : List (Key × Y)) → key_cmp low key ≡ Less → IsAbove key es → IsAbove low es
above-lower low key [] h above = tt
above-lower low key (e ∷ es) h above = (key_cmp_total.trans low key e.0 h above.0, above-lower low key es h above.1)

above-from_test : {Y : Type 0} (key : Key) (es : List (Key × Y)) → below_all key_cmp key es ≡ true → IsAbove key es
above-from_test key [] h = tt
above-from_test key (e ∷ es) h =
    let parts = and_parts (is_lt (key_cmp key e.0)) (below_all key_cmp key es) h in
    (less_from_test (key_cmp key e.0) parts.0, above-from_test key es parts.1)

first_above : {Y : Type 0} (e : Key × Y) (es : List (Key × Y)) → is_sorted key_cmp (e ∷ es) ≡ true → IsAbove e.0 es
first_above e es h = above-from_test e.0 es (and_parts (below_all key_cmp e.0 es) (is_sorted key_cmp es) h).0

pub rest_sorted : {Y : Type 0} (e : Key × Y) (es : List (Key × Y)) → is_sorted key_cmp (e ∷ es) ≡ true → is_sorted key_cmp es ≡ true
rest_sorted e es h = (and_parts (below_all key_cmp e.0 es) (is_sorted key_cmp es) h).1

pub all_above : {Y : Type 0} (e : Key × Y) (es : List (Key × Y)) → is_sorted key_cmp (e ∷ es) ≡ true → AllAbove e.0 es
all_above e es h = first_above e es h

module _ {X : Type 0} where
  -- ---- one change

  removed-above : (k : Key) (es : List (Key × X)) → IsAbove k es → without_key k es ≡ es
  removed-above k [] above = refl
  removed-above k (e ∷ es) above =
      ap (λ r. cond (not (is_eq r)) (e ∷ without_key k es) (without_key k es)) above.0 ∙ ap (λ (xs : List (Key × X)). e ∷ xs) (removed-above k es above.1)

  put-above : (k : Key) (v : X) (es : List (Key × X)) → IsAbove k es → with_value k v es ≡ (k, v) ∷ es
  put-above k v [] above = refl
  put-above k v (e ∷ es) above = ap (λ r. by_order r ((k, v) ∷ e ∷ es) ((e.0, v) ∷ es) (e ∷ with_value k v es)) above.0

  above-put : (low k : Key) (v : X) (es : List (Key × X)) → key_cmp low k ≡ Less → IsAbove low es → IsAbove low (with_value k v es)
  above-put low k v [] h above = (h, tt)
  above-put low k v (e ∷ es) h above =
      elim (key_cmp k e.0) as (λ r. IsAbove low (by_order r ((k, v) ∷ e ∷ es) ((e.0, v) ∷ es) (e ∷ with_value k v es))) [
        | Less ↦ (h, above)
        | Equal ↦ above
        | Greater ↦ (above.0, above-put low k v es h above.1)
      ]

  above-removed : (low k : Key) (es : List (Key × X)) → IsAbove low es → IsAbove low (without_key k es)
  above-removed low k [] above = tt
  above-removed low k (e ∷ es) above =
      elim (not (eq_by_cmp key_cmp k e.0)) as (λ t. IsAbove low (cond t (e ∷ without_key k es) (without_key k es))) [
        | true ↦ (above.0, above-removed low k es above.1)
        | false ↦ above-removed low k es above.1
      ]

  above-changed : (low k : Key) (change : Option X) (es : List (Key × X)) → key_cmp low k ≡ Less → IsAbove low es → IsAbove low (changed k change es)
  above-changed low k (Some v) es h above = above-put low k v es h above
  above-changed low k None es h above = above-removed low k es above

  above-merged : (low : Key) (cs : List (Key × Option X)) (base : List (Key × X)) → IsAbove low cs → IsAbove low base → IsAbove low (merged cs base)
  above-merged low [] base changes above = above
  above-merged low (c ∷ cs) base changes above = above-changed low c.0 c.1 (merged cs base) changes.0 (above-merged low cs base changes.1 above)

  -- ---- the first of both

  -- an entry before each change
  walk-entry : (e : Key × X) (cs : List (Key × Option X)) (base : List (Key × X)) → IsAbove e.0 cs → merged cs (e ∷ base) ≡ e ∷ merged cs base
  walk-entry e [] base above = refl
  walk-entry e (c ∷ cs) base above = ap (changed c.0 c.1) (walk-entry e cs base above.1) ∙ step c.1
    where
      step : (change : Option X) → changed c.0 change (e ∷ merged cs base) ≡ e ∷ changed c.0 change (merged cs base)
      step (Some v) = ap (λ r. by_order r ((c.0, v) ∷ e ∷ merged cs base) ((e.0, v) ∷ merged cs base) (e ∷ with_value c.0 v (merged cs base))) (turned e.0 c.0 above.0)
      step None = ap (λ r. cond (not (is_eq r)) (e ∷ without_key c.0 (merged cs base)) (without_key c.0 (merged cs base))) (turned e.0 c.0 above.0)

  -- a change before each entry
  walk-change : (k : Key) (change : Option X) (cs : List (Key × Option X)) (base : List (Key × X)) → IsAbove k cs → IsAbove k base
      → merged ((k, change) ∷ cs) base ≡ put_by (k, change) ++ merged cs base
  walk-change k (Some v) cs base changes above = put-above k v (merged cs base) (above-merged k cs base changes above)
  walk-change k None cs base changes above = removed-above k (merged cs base) (above-merged k cs base changes above)

  -- a change of an entry
  walk-changed : (k : Key) (change : Option X) (w : X) (cs : List (Key × Option X)) (base : List (Key × X)) → IsAbove k cs → IsAbove k base
      → merged ((k, change) ∷ cs) ((k, w) ∷ base) ≡ put_by (k, change) ++ merged cs base
  walk-changed k (Some v) w cs base changes above =
      ap (with_value k v) (walk-entry (k, w) cs base changes)
      ∙ ap (λ r. by_order r ((k, v) ∷ (k, w) ∷ merged cs base) ((k, v) ∷ merged cs base) ((k, w) ∷ with_value k v (merged cs base))) (tied_itself key_cmp_total k)
  walk-changed k None w cs base changes above =
      ap (without_key k) (walk-entry (k, w) cs base changes)
      ∙ ap (λ r. cond (not (is_eq r)) ((k, w) ∷ without_key k (merged cs base)) (without_key k (merged cs base))) (tied_itself key_cmp_total k)
      ∙ removed-above k (merged cs base) (above-merged k cs base changes above)

  -- ---- in turn

  -- the changes below the next entry
  pub walk_below : (k : Key) (v : X) (front cs : List (Key × Option X)) (base : List (Key × X)) → AllByRecursion (λ change. key_cmp change.0 k ≡ Less) front
      → is_sorted key_cmp (front ++ cs) ≡ true → AllAbove k base → merged (front ++ cs) ((k, v) ∷ base) ≡ puts_of front ++ merged cs ((k, v) ∷ base)
  walk_below k v [] cs base below sorted above = refl
  walk_below k v (f ∷ front) cs base below sorted above =
      walk-change f.0 f.1 (front ++ cs) ((k, v) ∷ base) (first_above f (front ++ cs) sorted) (below.0, above-lower f.0 k base below.0 above)
      ∙ ap (λ (es : List (Key × X)). put_by f ++ es) (walk_below k v front cs base below.1 (rest_sorted f (front ++ cs) sorted) above)
      ∙ sym (append_assoc (put_by f) (puts_of front) (merged cs ((k, v) ∷ base)))

  -- those after all entries
  pub walk_end : (cs : List (Key × Option X)) → is_sorted key_cmp cs ≡ true → merged cs [] ≡ puts_of cs
  walk_end [] sorted = refl
  walk_end (c ∷ cs) sorted =
      walk-change c.0 c.1 cs [] (first_above c cs sorted) tt ∙ ap (λ (es : List (Key × X)). put_by c ++ es) (walk_end cs (rest_sorted c cs sorted))

  -- the next entry, where its key has no change
  pub walk_kept : (k : Key) (v : X) (cs : List (Key × Option X)) (base : List (Key × X)) → is_sorted key_cmp cs ≡ true → NoneBelow k cs
      → ((c : Key × Option X) (rest : List (Key × Option X)) → cs ≡ c ∷ rest → c.0 ≡ k → ⊥) → merged cs ((k, v) ∷ base) ≡ (k, v) ∷ merged cs base
  walk_kept k v [] base sorted none other = refl
  walk_kept k v (c ∷ cs) base sorted none other =
      let above : key_cmp k c.0 ≡ Less = step (key_cmp k c.0) refl in
      walk-entry (k, v) (c ∷ cs) base (above, above-lower k c.0 cs above (first_above c cs sorted))
    where
      step : (o : Ordering) → key_cmp k c.0 ≡ o → key_cmp k c.0 ≡ Less
      step Less is = is
      step Equal is = absurd (other c cs refl (sym (key_cmp-IsAntisymmetric k c.0 is)))
      step Greater is = absurd (none.0 (key_cmp_total.antisymm c.0 k ∙ ap ordering_reverse is))

  -- and where it has one
  pub walk_changed : (k : Key) (v : X) (c : Key × Option X) (cs : List (Key × Option X)) (base : List (Key × X)) → is_sorted key_cmp (c ∷ cs) ≡ true
      → c.0 ≡ k → AllAbove k base → merged (c ∷ cs) ((k, v) ∷ base) ≡ put_by c ++ merged cs base
  walk_changed k v c cs base sorted same above =
      let Above : Key → Type 0 = λ key. AllAbove key base in
      ap (λ key. merged (c ∷ cs) ((key, v) ∷ base)) (sym same)
      ∙ walk-changed c.0 c.1 v cs base (first_above c cs sorted) (subst Above (sym same) above)

  -- ---- as they lie in memory

  lent_above : (key : Key) (lent : List (Bor (Key × Option X))) (i : ℕ) (d : Bor (Key × Option X)) → i < length lent → IsAbove key (changes_of lent)
      → key_cmp key (get_or lent i d).now.0 ≡ Less
  lent_above key [] i d inside above = absurd (omega arith)
  lent_above key (c ∷ lent) zero d inside above = above.0
  lent_above key (c ∷ lent) (suc i) d inside above = lent_above key lent i d (omega arith) above.1

  pub parted_below : (key : Key) (lent : List (Bor (Key × Option X))) → is_sorted key_cmp (changes_of lent) ≡ true
      → IsPartitionedBy (λ (change : Bor (Key × Option X)). is_lt (key_cmp change.now.0 key)) lent
  parted_below key [] sorted i j d order inside below = absurd (omega arith)
  parted_below key (c ∷ lent) sorted zero zero d order inside below = below
  parted_below key (c ∷ lent) sorted zero (suc j) d order inside below =
      let less = lent_above c.now.0 lent j d (omega arith) (first_above c.now (changes_of lent) sorted) in
      ap is_lt (key_cmp_total.trans c.now.0 (get_or lent j d).now.0 key less (less_from_test (key_cmp (get_or lent j d).now.0 key) below))
  parted_below key (c ∷ lent) sorted (suc i) zero d order inside below = absurd (omega arith)
  parted_below key (c ∷ lent) sorted (suc i) (suc j) d order inside below =
      parted_below key lent (rest_sorted c.now (changes_of lent) sorted) i j d (omega arith) (omega arith) below

  split_below : (key : Key) (lent : List (Bor (Key × Option X))) (count : ℕ) → count ≤ length lent
      → ((k : ℕ) (d : Bor (Key × Option X)) → 0 ≤ k → k < count → is_lt (key_cmp (get_or lent k d).now.0 key) ≡ true)
      → AllByRecursion (λ change. key_cmp change.0 key ≡ Less) (take count (changes_of lent))
  split_below key [] zero within test = tt
  split_below key [] (suc count) within test = absurd (omega arith)
  split_below key (c ∷ lent) zero within test = tt
  split_below key (c ∷ lent) (suc count) within test = (
    less_from_test (key_cmp c.now.0 key) (test 0 c (omega arith) (omega arith)),
    split_below key lent count (omega arith) (λ k d l m. test (suc k) d (omega arith) (omega arith)),
  )

  split_after : (key : Key) (lent : List (Bor (Key × Option X))) (count : ℕ)
      → ((k : ℕ) (d : Bor (Key × Option X)) → count ≤ k → k < length lent → is_lt (key_cmp (get_or lent k d).now.0 key) ≡ false)
      → NoneBelow key (drop count (changes_of lent))
  split_after key [] zero test = tt
  split_after key [] (suc count) test = tt
  split_after key (c ∷ lent) zero test =
      (not_less_from_test (key_cmp c.now.0 key) (test 0 c (omega arith) (omega arith)), split_after key lent zero (λ k d l m. test (suc k) d (omega arith) (omega arith)))
  split_after key (c ∷ lent) (suc count) test = split_after key lent count (λ k d l m. test (suc k) d (omega arith) (omega arith))

  pub split_at : (key : Key) (lent : List (Bor (Key × Option X))) (count : ℕ) → count ≤ length lent
      → IsPartitionPoint (λ (change : Bor (Key × Option X)). is_lt (key_cmp change.now.0 key) ≡ true) (λ change. is_lt (key_cmp change.now.0 key) ≡ false) lent count
      → IsSplitAt key (changes_of lent) count
  split_at key lent count within point = record { below = split_below key lent count within point.0; after = split_after key lent count point.1 }
