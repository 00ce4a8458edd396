-- What holds of what changes put, and of what they leave.
use Rattle.std.proofs.Common.{◌≡◌, ◌∙◌, sym, ap, subst, refl, true, false, cond, not, List, [], ◌∷◌, Ordering, Less, Equal, Greater}
use Rattle.std.proofs.lemmas.Bool.{and_parts}
use Rattle.std.proofs.lemmas.Cmp.{tied_itself}
use Rattle.std.specs.FinMap.{is_sorted}
use Rattle.std.specs.FinMap.Entries.{below_all, by_order}
use Rattle.std.specs.List.{AllByRecursion}
use Rattle.std.specs.Ordering.{eq_by_cmp, is_eq, is_lt}
use Rattle.std.specs.Prelude.{Option, Some, None, IfSome}
use Rattle.names.specs.Key.{Key, key_cmp}
use Rattle.names.specs.KeyLaws.{key_cmp_total}
use Rattle.names.proofs.KeyOrder.{key_cmp-IsAntisymmetric}
use Rattle.objects.specs.Objects.{value_at, with_value, without_key}
use Rattle.objects.specs.Merged.{changed, merged, over}
use Rattle.objects.proofs.Changing.{find-merged}
use Rattle.objects.proofs.Taking.{same_key}

less_from : (r : Ordering) → is_lt r ≡ true → r ≡ Less
less_from Less less = refl
less_from Equal less = cc
less_from Greater less = cc

-- ---- each entry stands under its key, where the keys ascend

module _ {X : Type 0} where
  pub below_none : (k : Key) (es : List (Key × X)) → below_all key_cmp k es ≡ true → value_at k es ≡ None
  below_none k [] below = refl
  below_none k (e ∷ es) below =
      let parts = and_parts (is_lt (key_cmp k e.0)) (below_all key_cmp k es) below in
      ap (λ r. cond (is_eq r) (Some e.1) (value_at k es)) (less_from (key_cmp k e.0) parts.0) ∙ below_none k es parts.1

  -- also after one that comes before all of them
  after : (first : Key × X) (rest : List (Key × X)) (e : Key × X) → below_all key_cmp first.0 rest ≡ true → value_at e.0 rest ≡ Some e.1
      → value_at e.0 (first ∷ rest) ≡ Some e.1
  after first rest e below found =
      elim (eq_by_cmp key_cmp e.0 first.0) as (λ b. eq_by_cmp key_cmp e.0 first.0 ≡ b → cond b (Some first.1) (value_at e.0 rest) ≡ Some e.1) [
        | true ↦ λ tied.
            let none : ◌≡◌ {A = Option X} None (Some e.1) =
            sym (below_none first.0 rest below) ∙ ap (λ (k : Key). value_at k rest) (sym (same_key e.0 first.0 tied)) ∙ found
            in
            cc
        | false ↦ λ apart. found
      ] refl

  all_after : (first : Key × X) (rest es : List (Key × X)) → below_all key_cmp first.0 rest ≡ true → AllByRecursion (λ e. value_at e.0 rest ≡ Some e.1) es
      → AllByRecursion (λ e. value_at e.0 (first ∷ rest) ≡ Some e.1) es
  all_after first rest [] below all = tt
  all_after first rest (e ∷ es) below all = (after first rest e below all.0, all_after first rest es below all.1)

  pub all_stand : (es : List (Key × X)) → is_sorted key_cmp es ≡ true → AllByRecursion (λ e. value_at e.0 es ≡ Some e.1) es
  all_stand [] sorted = tt
  all_stand (e ∷ es) sorted =
      let parts = and_parts (below_all key_cmp e.0 es) (is_sorted key_cmp es) sorted in (
        ap (λ r. cond (is_eq r) (Some e.1) (value_at e.0 es)) (tied_itself key_cmp_total e.0),
        all_after e es es parts.0 (all_stand es parts.1),
      )

-- ---- what holds of all entries

module _ {X : Type 0} (Q : Key × X → Type 0) where
  all_put : (k : Key) (x : X) (es : List (Key × X)) → Q (k, x) → AllByRecursion Q es → AllByRecursion Q (with_value k x es)
  all_put k x [] here all = (here, tt)
  all_put k x (e ∷ es) here all =
      elim (key_cmp k e.0) as (λ r. key_cmp k e.0 ≡ r → AllByRecursion Q (by_order r ((k, x) ∷ e ∷ es) ((e.0, x) ∷ es) (e ∷ with_value k x es))) [
        | Less ↦ λ is. (here, all)
        | Equal ↦ λ is. (subst (λ (key : Key). Q (key, x)) (key_cmp-IsAntisymmetric k e.0 is) here, all.1)
        | Greater ↦ λ is. (all.0, all_put k x es here all.1)
      ] refl

  all_without : (k : Key) (es : List (Key × X)) → AllByRecursion Q es → AllByRecursion Q (without_key k es)
  all_without k [] all = tt
  all_without k (e ∷ es) all =
      elim (eq_by_cmp key_cmp k e.0) as (λ b. AllByRecursion Q (cond (not b) (e ∷ without_key k es) (without_key k es))) [
        | true ↦ all_without k es all.1
        | false ↦ (all.0, all_without k es all.1)
      ]

  abbrev pub Puts : Key × Option X → Type 0
  Puts c = IfSome c.1 (λ x. Q (c.0, x))

  all_changed : (k : Key) (change : Option X) (es : List (Key × X)) → Puts (k, change) → AllByRecursion Q es → AllByRecursion Q (changed k change es)
  all_changed k (Some x) es puts all = all_put k x es puts all
  all_changed k None es puts all = all_without k es all

  -- What holds of what changes put and of what lies below holds of what is left.
  pub all_left : (cs : List (Key × Option X)) (base : List (Key × X)) → AllByRecursion Puts cs → AllByRecursion Q base → AllByRecursion Q (merged cs base)
  all_left [] base puts all = all
  all_left (c ∷ cs) base puts all = all_changed c.0 c.1 (merged cs base) puts.0 (all_left cs base puts.1 all)

  found_has : (k : Key) (x : X) (es : List (Key × X)) → AllByRecursion Q es → value_at k es ≡ Some x → Q (k, x)
  found_has k x [] all found = cc
  found_has k x (e ∷ es) all found =
      elim (eq_by_cmp key_cmp k e.0) as (λ b. eq_by_cmp key_cmp k e.0 ≡ b → cond b (Some e.1) (value_at k es) ≡ Some x → Q (k, x)) [
        | true ↦ λ tied is.
            let same : e.1 ≡ x = cc in
            let key : e.0 ≡ k = sym (same_key k e.0 tied) in
            subst Q (λ i. (key i, same i)) all.0
        | false ↦ λ apart is. found_has k x es all.1 is
      ] refl found

  -- What holds of all that is left holds of what a change put.
  pub put_has : (cs : List (Key × Option X)) (base : List (Key × X)) (k : Key) (x : X) → AllByRecursion Q (merged cs base) → value_at k cs ≡ Some (Some x) → Q (k, x)
  put_has cs base k x all found =
      found_has k x (merged cs base) all (find-merged k cs base ∙ ap (λ (change : Option (Option X)). over change (value_at k base)) found)
