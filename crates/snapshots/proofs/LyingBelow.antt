-- What lies below of objects, and what the changes that put others leave of it.
use Rattle.std.proofs.Common.{◌≡◌, ◌∙◌, sym, ap, refl, Bool, true, false, cond, ◌&&◌, List, [], ◌∷◌, ◌++◌, IsTrue}
use Rattle.std.proofs.lemmas.Bool.{and_parts}
use Rattle.std.proofs.lemmas.Cmp.{tied_itself}
use Rattle.std.proofs.lemmas.List.{map_push}
use Rattle.std.specs.FinMap.{is_sorted}
use Rattle.std.specs.FinMap.Entries.{below_all, is_sorted-where_key, same_entries}
use Rattle.std.specs.List.{AllByRecursion, filter}
use Rattle.std.specs.Ordering.{eq_by_cmp, is_eq, is_lt}
use Rattle.std.specs.Prelude.{Option, Some, None, option_map}
use Rattle.names.specs.declared.resource.Resource.{Resource}
use Rattle.names.specs.Key.{Key, key_cmp}
use Rattle.names.specs.KeyLaws.{key_cmp_total}
use Rattle.names.proofs.KeyOrder.{key_cmp-IsAntisymmetric}
use Rattle.objects.specs.Objects.{value_at, with_value}
use Rattle.objects.specs.Merged.{merged, over}
use Rattle.objects.proofs.Changing.{T_from_true, true_from_T, find-merged, find-filter, sorted-merged, merged-put}
use Rattle.objects.proofs.Taking.{same_key}
use Rattle.records.proofs.Ascending.{less_from}
use Rattle.snapshots.specs.LyingBelow.{puts_of}
use Rattle.snapshots.proofs.Sorted.{none_last, with_value_last}

module _ {X : Type 0} where
  -- ---- changes that put objects

  value_puts : (q : Key) (os : List (Key × X)) → value_at q (puts_of os) ≡ option_map (λ x. Some x) (value_at q os)
  value_puts q [] = refl
  value_puts q (o ∷ os) =
      elim (eq_by_cmp key_cmp q o.0)
      as (λ b. cond b (Some (Some o.1)) (value_at q (puts_of os)) ≡ option_map (λ x. Some x) (cond b (Some o.1) (value_at q os))) [
        | true ↦ refl
        | false ↦ value_puts q os
      ]

  below_puts : (k : Key) (os : List (Key × X)) → below_all key_cmp k (puts_of os) ≡ below_all key_cmp k os
  below_puts k [] = refl
  below_puts k (o ∷ os) = ap (λ (b : Bool). is_lt (key_cmp k o.0) && b) (below_puts k os)

  sorted_puts : (os : List (Key × X)) → is_sorted key_cmp (puts_of os) ≡ is_sorted key_cmp os
  sorted_puts [] = refl
  sorted_puts (o ∷ os) = λ i. below_puts o.0 os i && sorted_puts os i

  puts_push : (os : List (Key × X)) (o : Key × X) → puts_of (os ++ o ∷ []) ≡ puts_of os ++ (o.0, Some o.1) ∷ []
  puts_push os o = map_push (λ (p : Key × X). (p.0, Some p.1)) os o

  puts_ascend : (os : List (Key × X)) (o : Key × X) → is_sorted key_cmp (os ++ o ∷ []) ≡ true → is_sorted key_cmp (puts_of os ++ (o.0, Some o.1) ∷ []) ≡ true
  puts_ascend os o ascend = ap (λ (cs : List (Key × Option X)). is_sorted key_cmp cs) (sym (puts_push os o)) ∙ sorted_puts (os ++ o ∷ []) ∙ ascend

  -- That of a key above all others is the next,
  pub puts_last : (os : List (Key × X)) (o : Key × X) → is_sorted key_cmp (os ++ o ∷ []) ≡ true
      → puts_of (os ++ o ∷ []) ≡ with_value o.0 (Some o.1) (puts_of os)
  puts_last os o ascend = puts_push os o ∙ sym (with_value_last (puts_of os) o.0 (Some o.1) (puts_ascend os o ascend))

  -- leaves what the others leave, with its object,
  pub merged_last : (os : List (Key × X)) (o : Key × X) (base : List (Key × X)) → IsTrue (is_sorted key_cmp base) → is_sorted key_cmp (os ++ o ∷ []) ≡ true
      → merged (puts_of (os ++ o ∷ [])) base ≡ with_value o.0 o.1 (merged (puts_of os) base)
  merged_last os o base sorted ascend =
      ap (λ (cs : List (Key × Option X)). merged cs base) (puts_last os o ascend) ∙ merged-put o.0 (Some o.1) (puts_of os) base sorted

  -- and before it stands under that key what lies below.
  pub found_last : (os : List (Key × X)) (o : Key × X) (base : List (Key × X)) → is_sorted key_cmp (os ++ o ∷ []) ≡ true
      → value_at o.0 (merged (puts_of os) base) ≡ value_at o.0 base
  found_last os o base ascend =
      find-merged o.0 (puts_of os) base
      ∙ ap (λ (change : Option (Option X)). over change (value_at o.0 base)) (none_last (puts_of os) o.0 (Some o.1) (puts_ascend os o ascend))

  -- ---- all of a view

  pub sorted_filter : (p : Key → Bool) (os : List (Key × X)) → is_sorted key_cmp os ≡ true → is_sorted key_cmp (filter (λ o. p o.0) os) ≡ true
  sorted_filter p os sorted = true_from_T _ (is_sorted-where_key key_cmp p os (T_from_true _ sorted))

  one_of : (chosen below : Bool) (found : Option X) → (below ≡ false → chosen ≡ false → found ≡ None)
      → over (option_map (λ x. Some x) (cond chosen found None)) (cond below found None) ≡ found
  one_of true below (Some x) none = refl
  one_of true true None none = refl
  one_of true false None none = refl
  one_of false true found none = refl
  one_of false false found none = sym (none refl refl)

  module _ (lies : Resource → Bool) (picked : Key → Bool) where
    abbrev ArePicked : List (Key × X) → Type 0
    ArePicked os = AllByRecursion (λ o. lies o.0.resource ≡ false → picked o.0 ≡ true) os

    none_at : (q : Key) (os : List (Key × X)) → ArePicked os → lies q.resource ≡ false → picked q ≡ false → value_at q os ≡ None
    none_at q [] all above other = refl
    none_at q (o ∷ os) all above other =
        elim (eq_by_cmp key_cmp q o.0) as (λ b. eq_by_cmp key_cmp q o.0 ≡ b → cond b (Some o.1) (value_at q os) ≡ None) [
          | true ↦ λ tied.
              let same : q ≡ o.0 = same_key q o.0 tied in
              let never : ◌≡◌ {A = Bool} false true =
              sym other ∙ ap picked same ∙ all.0 (ap (λ (k : Key). lies k.resource) (sym same) ∙ above)
              in
              cc
          | false ↦ λ apart. none_at q os all.1 above other
        ] refl

    -- Over the objects of a view that lie below, the changes that put the picked ones leave all, where each that does not lie below is picked.
    pub all_left : (os : List (Key × X)) → is_sorted key_cmp os ≡ true → ArePicked os
        → merged (puts_of (filter (λ o. picked o.0) os)) (filter (λ o. lies o.0.resource) os) ≡ os
    all_left os sorted all =
        let kept : List (Key × X) = filter (λ o. picked o.0) os in
        let base : List (Key × X) = filter (λ o. lies o.0.resource) os in
        same_entries key_cmp key_cmp_total key_cmp-IsAntisymmetric (merged (puts_of kept) base) os
        (sorted-merged (puts_of kept) base (T_from_true _ (sorted_filter (λ k. lies k.resource) os sorted)))
        (T_from_true _ sorted)
        (λ q.
        find-merged q (puts_of kept) base
        ∙ ap (λ (change : Option (Option X)). over change (value_at q base)) (value_puts q kept)
        ∙ (λ i. over (option_map (λ x. Some x) (find-filter picked q os i)) (find-filter (λ k. lies k.resource) q os i))
        ∙ one_of (picked q) (lies q.resource) (value_at q os) (none_at q os all))

  -- where nothing lies below, the changes leave what they put
  alone_at : (found : Option X) → over (option_map (λ x. Some x) found) None ≡ found
  alone_at (Some x) = refl
  alone_at None = refl

  pub merged_alone : (os : List (Key × X)) → is_sorted key_cmp os ≡ true → merged (puts_of os) [] ≡ os
  merged_alone os sorted =
      same_entries key_cmp key_cmp_total key_cmp-IsAntisymmetric (merged (puts_of os) []) os (sorted-merged (puts_of os) [] tt) (T_from_true _ sorted)
      (λ q. find-merged q (puts_of os) [] ∙ ap (λ (change : Option (Option X)). over change None) (value_puts q os) ∙ alone_at (value_at q os))

  -- ---- what lies below of what is picked

  below_none : (k : Key) (os : List (Key × X)) → below_all key_cmp k os ≡ true → value_at k os ≡ None
  below_none k [] below = refl
  below_none k (o ∷ os) below =
      let parts = and_parts (is_lt (key_cmp k o.0)) (below_all key_cmp k os) below in
      ap (λ r. cond (is_eq r) (Some o.1) (value_at k os)) (less_from (key_cmp k o.0) parts.0) ∙ below_none k os parts.1

  -- what holds of each object that is found under its key holds of all
  all_at : (Q : Key × X → Type 0) (os : List (Key × X)) → is_sorted key_cmp os ≡ true → ((o : Key × X) → value_at o.0 os ≡ Some o.1 → Q o) → AllByRecursion Q os
  all_at Q [] sorted holds = tt
  all_at Q (o ∷ os) sorted holds =
      let parts = and_parts (below_all key_cmp o.0 os) (is_sorted key_cmp os) sorted in (
        holds o (ap (λ r. cond (is_eq r) (Some o.1) (value_at o.0 os)) (tied_itself key_cmp_total o.0)),
        all_at Q os parts.1 (λ p found. holds p (later p found parts.0)),
      )
    where
      later : (p : Key × X) → value_at p.0 os ≡ Some p.1 → below_all key_cmp o.0 os ≡ true → cond (eq_by_cmp key_cmp p.0 o.0) (Some o.1) (value_at p.0 os) ≡ Some p.1
      later p found below =
          elim (eq_by_cmp key_cmp p.0 o.0) as (λ b. eq_by_cmp key_cmp p.0 o.0 ≡ b → cond b (Some o.1) (value_at p.0 os) ≡ Some p.1) [
            | true ↦ λ tied.
                let none : ◌≡◌ {A = Option X} None (Some p.1) =
                sym (below_none o.0 os below) ∙ ap (λ (k : Key). value_at k os) (sym (same_key p.0 o.0 tied)) ∙ found
                in
                cc
            | false ↦ λ apart. found
          ] refl

  found_of : (b : Bool) (found : Option X) (x : X) → cond b found None ≡ Some x → found ≡ Some x
  found_of true found x is = is
  found_of false found x is = cc

  pub all_there : (lies : Resource → Bool) (picked : Key → Bool) (os : List (Key × X)) → is_sorted key_cmp os ≡ true
      → AllByRecursion (λ o. value_at o.0 (filter (λ x. lies x.0.resource) os) ≡ cond (lies o.0.resource) (Some o.1) None) (filter (λ o. picked o.0) os)
  all_there lies picked os sorted =
      all_at (λ o. value_at o.0 (filter (λ x. lies x.0.resource) os) ≡ cond (lies o.0.resource) (Some o.1) None) (filter (λ o. picked o.0) os)
      (sorted_filter picked os sorted)
      (λ o found.
      find-filter (λ k. lies k.resource) o.0 os
      ∙ ap (λ (there : Option X). cond (lies o.0.resource) there None)
      (found_of (picked o.0) (value_at o.0 os) o.1 (sym (find-filter picked o.0 os) ∙ found)))

  -- ---- what memory knows

  nothing_under : (found : Option X) → option_map (λ x. Some x) found ≡ None → found ≡ None
  nothing_under None is = refl
  nothing_under (Some x) is = cc

  cond_none : (b : Bool) → ◌≡◌ {A = Option X} (cond b None None) None
  cond_none true = refl
  cond_none false = refl

  -- A picked key under which no change stands has nothing below.
  pub known_picked : (lies : Resource → Bool) (picked : Key → Bool) (os : List (Key × X)) (k : Key) → picked k ≡ true
      → value_at k (puts_of (filter (λ o. picked o.0) os)) ≡ None → value_at k (filter (λ o. lies o.0.resource) os) ≡ None
  known_picked lies picked os k is none =
      let here : value_at k os ≡ None =
      ap (λ (b : Bool). cond b (value_at k os) None) (sym is) ∙ sym (find-filter picked k os)
      ∙ nothing_under (value_at k (filter (λ o. picked o.0) os)) (sym (value_puts k (filter (λ o. picked o.0) os)) ∙ none)
      in
      find-filter (λ q. lies q.resource) k os ∙ ap (λ (found : Option X). cond (lies k.resource) found None) here ∙ cond_none (lies k.resource)
