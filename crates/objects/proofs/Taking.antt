-- Steps of a merge.
use Rattle.std.proofs.Common.{◌≡◌, ℕ, zero, suc, ◌+◌, ◌<◌, true, List, [], ◌∷◌, ◌++◌, length, get_or, take, drop, refl, sym, ap, subst, ◌∙◌, append_assoc}
use Rattle.std.proofs.lemmas.List.{drop_more, take-append-drop, drop-drop}
use Rattle.std.specs.FinMap.{is_sorted}
use Rattle.std.specs.Prelude.{Option, Some, None, slice_get}
use denote.Ref.{Bor}
use Rattle.std.proofs.lemmas.Cmp.{tied_itself}
use Rattle.std.specs.Ordering.{eq_by_cmp, is_eq}
use Rattle.std.specs.declared.cmp.Ordering.{Ordering}
use Rattle.std.specs.declared.cmp.Ordering.TheVariants.{Less, Equal, Greater}
use Rattle.names.specs.KeyLaws.{key_cmp_total}
use Rattle.names.proofs.KeyOrder.{key_cmp-IsAntisymmetric}
use Rattle.names.specs.Key.{Key, key_cmp}
use Rattle.objects.specs.Merged.{merged}
use Rattle.objects.specs.Steps.{changes_of, put_by, puts_of, IsNext, NoneBelow, AllAbove, IsSplitAt}
use Rattle.objects.proofs.Walking.{rest_sorted, all_above, walk_below, walk_end, walk_kept, walk_changed}

tied : (o : Ordering) → is_eq o ≡ true → o ≡ Equal
tied Less h = cc
tied Equal h = refl
tied Greater h = cc

pub same_key : (a b : Key) → eq_by_cmp key_cmp a b ≡ true → a ≡ b
same_key a b h = key_cmp-IsAntisymmetric a b (tied (key_cmp a b) h)

pub key_same : (a b : Key) → a ≡ b → eq_by_cmp key_cmp a b ≡ true
key_same a b h = ap (λ k. eq_by_cmp key_cmp a k) (sym h) ∙ ap is_eq (tied_itself key_cmp_total a)

pub sorted_drop : {Y : Type 0} (n : ℕ) (es : List (Key × Y)) → is_sorted key_cmp es ≡ true → is_sorted key_cmp (drop n es) ≡ true
sorted_drop zero es h = h
sorted_drop (suc n) [] h = refl
sorted_drop (suc n) (e ∷ es) h = sorted_drop n es (rest_sorted e es h)

module _ {X : Type 0} where
  -- the first change that is lent
  pub next_is : (key : Key) (lent : List (Bor (Key × Option X))) (first : Bor (Key × Option X)) → Some first ≡ slice_get lent 0
      → (first.now.0 ≡ key → IsNext key (changes_of lent)) × (IsNext key (changes_of lent) → first.now.0 ≡ key)
  next_is key [] first is = absurd (nothing first is)
    where
      nothing : (first : Bor (Key × Option X)) → Some first ≡ None → ⊥
      nothing first h = cc
  next_is key (change ∷ lent) first is =
      let same : first ≡ change = cc in
      ((λ h. ap (λ (c : Bor (Key × Option X)). c.now.0) (sym same) ∙ h), (λ h. ap (λ (c : Bor (Key × Option X)). c.now.0) same ∙ h))

  -- an entry whose key has a change
  pub step_changed : (key : Key) (value : X) (kept new : List (Key × X)) (change : Key × Option X) (changes : List (Key × Option X)) (base : List (Key × X))
      → new ≡ kept ++ put_by change → change.0 ≡ key → is_sorted key_cmp (change ∷ changes) ≡ true → AllAbove key base
      → new ++ merged changes base ≡ kept ++ merged (change ∷ changes) ((key, value) ∷ base)
  step_changed key value kept new change changes base is same sorted above =
      ap (λ (es : List (Key × X)). es ++ merged changes base) is ∙ append_assoc kept (put_by change) (merged changes base)
      ∙ ap (λ (es : List (Key × X)). kept ++ es) (sym (walk_changed key value change changes base sorted same above))

  -- and one whose key has none
  pub step_kept : (key : Key) (value : X) (kept new : List (Key × X)) (changes : List (Key × Option X)) (base : List (Key × X))
      → new ≡ kept ++ (key, value) ∷ [] → (IsNext key changes → ⊥) → is_sorted key_cmp changes ≡ true → NoneBelow key changes
      → new ++ merged changes base ≡ kept ++ merged changes ((key, value) ∷ base)
  step_kept key value kept new changes base is other sorted none =
      ap (λ (es : List (Key × X)). es ++ merged changes base) is ∙ append_assoc kept ((key, value) ∷ []) (merged changes base)
      ∙ ap (λ (es : List (Key × X)). kept ++ es) (sym (walk_kept key value changes base sorted none (λ c rest is same. other (subst (IsNext key) (sym is) same))))

  -- a step of the merge: the changes below an entry, and then the entry
  pub step_merged : (changes : List (Key × Option X)) (base : List (Key × X)) (done count more index : ℕ) (entry : Key × X) (kept mid new all : List (Key × X))
      → is_sorted key_cmp changes ≡ true → is_sorted key_cmp base ≡ true → drop index base ≡ entry ∷ drop (index + 1) base
      → IsSplitAt entry.0 (drop done changes) count → mid ≡ kept ++ puts_of (take count (drop done changes))
      → ((back : List (Key × X)) → is_sorted key_cmp (drop (done + count) changes) ≡ true → NoneBelow entry.0 (drop (done + count) changes) → AllAbove entry.0 back
      → new ++ merged (drop more (drop (done + count) changes)) back ≡ mid ++ merged (drop (done + count) changes) (entry ∷ back))
      → kept ++ merged (drop done changes) (drop index base) ≡ all
      → new ++ merged (drop (done + count + more) changes) (drop (index + 1) base) ≡ all
  step_merged changes base done count more index entry kept mid new all changes_sorted base_sorted next split below step before =
      let back : List (Key × X) = drop (index + 1) base in
      let rest : List (Key × Option X) = drop done changes in
      let front : List (Key × Option X) = take count rest in
      let Sorted : List (Key × X) → Type 0 = λ es. is_sorted key_cmp es ≡ true in
      let rest_is_sorted = sorted_drop done changes changes_sorted in
      let left_sorted : is_sorted key_cmp (entry ∷ back) ≡ true = subst Sorted next (sorted_drop index base base_sorted) in
      let above = all_above entry back left_sorted in
      let further : drop count rest ≡ drop (done + count) changes = drop-drop count done changes in
      let after : drop more (drop (done + count) changes) ≡ drop (done + count + more) changes = drop-drop more (done + count) changes in
      let None : List (Key × Option X) → Type 0 = λ cs. NoneBelow entry.0 cs in
      let parts : front ++ drop count rest ≡ rest = take-append-drop count rest in
      let Whole : List (Key × Option X) → Type 0 = λ cs. is_sorted key_cmp cs ≡ true in
      ap (λ (cs : List (Key × Option X)). new ++ merged cs back) (sym after)
      ∙ step back (sorted_drop (done + count) changes changes_sorted) (subst None further split.after) above
      ∙ ap (λ (cs : List (Key × Option X)). mid ++ merged cs (entry ∷ back)) (sym further)
      ∙ ap (λ (es : List (Key × X)). es ++ merged (drop count rest) (entry ∷ back)) below
      ∙ append_assoc kept (puts_of front) (merged (drop count rest) (entry ∷ back))
      ∙ ap (λ (es : List (Key × X)). kept ++ es) (sym (walk_below entry.0 entry.1 front (drop count rest) back split.below (subst Whole (sym parts) rest_is_sorted) above))
      ∙ ap (λ (cs : List (Key × Option X)). kept ++ merged cs (entry ∷ back)) parts
      ∙ ap (λ (es : List (Key × X)). kept ++ merged rest es) (sym next)
      ∙ before

  -- and its end
  pub step_end : (changes : List (Key × Option X)) (base : List (Key × X)) (done index : ℕ) (kept new all : List (Key × X)) → is_sorted key_cmp changes ≡ true
      → drop index base ≡ [] → new ≡ kept ++ puts_of (drop done changes) → kept ++ merged (drop done changes) (drop index base) ≡ all → new ≡ all
  step_end changes base done index kept new all sorted none is before =
      is ∙ ap (λ (es : List (Key × X)). kept ++ es) (sym (walk_end (drop done changes) (sorted_drop done changes sorted)))
      ∙ ap (λ (es : List (Key × X)). kept ++ merged (drop done changes) es) (sym none) ∙ before

  -- ---- what is lent

  pub changes_of-drop : (n : ℕ) (lent : List (Bor (Key × Option X))) → changes_of (drop n lent) ≡ drop n (changes_of lent)
  changes_of-drop zero lent = refl
  changes_of-drop (suc n) [] = refl
  changes_of-drop (suc n) (change ∷ lent) = changes_of-drop n lent

  pub changes_of-take : (n : ℕ) (lent : List (Bor (Key × Option X))) → changes_of (take n lent) ≡ take n (changes_of lent)
  changes_of-take zero lent = refl
  changes_of-take (suc n) [] = refl
  changes_of-take (suc n) (change ∷ lent) = ap (λ (cs : List (Key × Option X)). change.now ∷ cs) (changes_of-take n lent)

  pub puts_more : (lent : List (Bor (Key × Option X))) (i : ℕ) (change : Bor (Key × Option X)) (kept new all : List (Key × X)) → i < length lent
      → change ≡ get_or lent i change → new ≡ kept ++ put_by change.now → kept ++ puts_of (drop i (changes_of lent)) ≡ all
      → new ++ puts_of (drop (i + 1) (changes_of lent)) ≡ all
  puts_more lent i change kept new all inside is more before =
      let next : drop i (changes_of lent) ≡ change.now ∷ drop (i + 1) (changes_of lent) =
      sym (changes_of-drop i lent) ∙ ap changes_of (drop_more lent i change inside)
      ∙ ap (λ (c : Bor (Key × Option X)). c.now ∷ changes_of (drop (i + 1) lent)) (sym is)
      ∙ ap (λ (cs : List (Key × Option X)). change.now ∷ cs) (changes_of-drop (i + 1) lent)
      in
      ap (λ (es : List (Key × X)). es ++ puts_of (drop (i + 1) (changes_of lent))) more
      ∙ append_assoc kept (put_by change.now) (puts_of (drop (i + 1) (changes_of lent)))
      ∙ ap (λ (cs : List (Key × Option X)). kept ++ puts_of cs) (sym next) ∙ before

  -- where the first change is the key's
  pub next_first : (key : Key) (lent : List (Bor (Key × Option X))) (first : Bor (Key × Option X)) → IsNext key (changes_of lent) → first ≡ get_or lent 0 first
      → (changes_of lent ≡ first.now ∷ drop 1 (changes_of lent)) × (first.now.0 ≡ key)
  next_first key [] first next is = absurd next
  next_first key (change ∷ lent) first next is =
      (ap (λ (c : Bor (Key × Option X)). c.now ∷ changes_of lent) (sym is), ap (λ (c : Bor (Key × Option X)). c.now.0) is ∙ next)
