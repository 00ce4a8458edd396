-- Each object of a history's view has the trees of its document.
use Rattle.std.proofs.Common.{◌≡◌, ◌∙◌, sym, ap, subst, refl, List, [], ◌∷◌, true, false, true≢false, cond, not, Some, None, Less, Equal, Greater}
use Rattle.std.specs.List.{AllByRecursion}
use Rattle.std.specs.Ordering.{eq_by_cmp}
use Rattle.std.specs.FinMap.Entries.{by_order}
use Rattle.names.specs.Format.{has_namespaces, has_resource}
use Rattle.names.specs.declared.format.Format.{Format}
use Rattle.names.specs.declared.format.Rules.{Rules}
use Rattle.names.specs.declared.resource.Resource.{Resource}
use Rattle.names.specs.declared.resource.Resource.TheVariants.{Namespace}
use Rattle.names.specs.Key.{Key, key_cmp}
use Rattle.names.proofs.KeyOrder.{key_cmp-IsAntisymmetric}
use Rattle.objects.specs.Objects.{value_at, with_value, without_key}
use Rattle.objects.proofs.Taking.{same_key}
use Rattle.histories.specs.declared.stored.Stored.{Stored}
use Rattle.histories.specs.History.{put, delete}
use Rattle.histories.specs.View.{after, after_all, empty}
use Rattle.histories.proofs.ViewLemmas.{objects_ascend}
use Rattle.decoded.specs.Laws.{HistoriesShow, NoNamespaces}
use Rattle.celtree.specs.Tree.{Expr}
use Rattle.decoded.specs.Standing.{Write, View, HasTrees, MayFollow, AllMayFollow}

module _ {X : Type 0} (P : Key → X → Type 0) where
  abbrev All : List (Key × X) → Type 0
  All os = AllByRecursion (λ o. P o.0 o.1) os

  all_with : (k : Key) (x : X) (os : List (Key × X)) → P k x → All os → All (with_value k x os)
  all_with k x [] holds all = (holds, tt)
  all_with k x (o ∷ os) holds all =
      elim (key_cmp k o.0) as (λ r. key_cmp k o.0 ≡ r → All (by_order r ((k, x) ∷ o ∷ os) ((o.0, x) ∷ os) (o ∷ with_value k x os))) [
        | Less ↦ λ is. (holds, all)
        | Equal ↦ λ is. (subst (λ l. P l x) (key_cmp-IsAntisymmetric k o.0 is) holds, all.1)
        | Greater ↦ λ is. (all.0, all_with k x os holds all.1)
      ] refl

  all_without : (k : Key) (os : List (Key × X)) → All os → All (without_key k os)
  all_without k [] all = tt
  all_without k (o ∷ os) all =
      elim (not (eq_by_cmp key_cmp k o.0)) as (λ b. All (cond b (o ∷ without_key k os) (without_key k os))) [
        | true ↦ (all.0, all_without k os all.1)
        | false ↦ all_without k os all.1
      ]

module _ (f : Format) where
  abbrev Has : Key → Stored (List Expr) → Type 0
  Has k s = HasTrees f k.resource s.document.json s.beside

  abbrev Served : Key → Stored (List Expr) → Type 0
  Served k s = has_resource f k.resource ≡ true

stay_one : (rules : Rules) (v : View) (w : Write) → All (Has rules.format) v.objects → MayFollow rules v w → All (Has rules.format) (after rules v w).objects
stay_one rules v (put k d trees) have may = all_with (Has rules.format) k _ v.objects may.1 have
stay_one rules v (delete k) have may = all_without (Has rules.format) k v.objects have

pub trees_stay : (rules : Rules) (v : View) (ws : List Write) → All (Has rules.format) v.objects → AllMayFollow rules v ws → All (Has rules.format) (after_all rules v ws).objects
trees_stay rules v [] have may = have
trees_stay rules v (w ∷ ws) have may = trees_stay rules (after rules v w) ws (stay_one rules v w have may.0) may.1

served_one : (rules : Rules) (v : View) (w : Write) → All (Served rules.format) v.objects → MayFollow rules v w → All (Served rules.format) (after rules v w).objects
served_one rules v (put k d trees) have may = all_with (Served rules.format) k _ v.objects may.0.served have
served_one rules v (delete k) have may = all_without (Served rules.format) k v.objects have

pub served_stay : (rules : Rules) (v : View) (ws : List Write) → All (Served rules.format) v.objects → AllMayFollow rules v ws → All (Served rules.format) (after_all rules v ws).objects
served_stay rules v [] have may = have
served_stay rules v (w ∷ ws) have may = served_stay rules (after rules v w) ws (served_one rules v w have may.0) may.1

-- the view of a history is one as histories have it
pub histories_show : HistoriesShow
histories_show rules h history = record {
  ascends = objects_ascend rules empty h refl;
  served = served_stay rules empty h tt history;
  trees = trees_stay rules empty h tt history;
}

-- ---- no Namespace where these are no objects

none_served : (f : Format) (r : Resource) → has_namespaces f ≡ false → r ≡ Namespace → has_resource f r ≡ true → ⊥
none_served f r none is served = true≢false (sym served ∙ ap (has_resource f) is ∙ none)

pub none_among : (f : Format) (k : Key) (os : List (Key × Stored (List Expr))) → has_namespaces f ≡ false → k.resource ≡ Namespace → All (Served f) os → value_at k os ≡ None
none_among f k [] none is all = refl
none_among f k (o ∷ os) none is all =
    elim (eq_by_cmp key_cmp k o.0) as (λ b. eq_by_cmp key_cmp k o.0 ≡ b → cond b (Some o.1) (value_at k os) ≡ None) [
      | true ↦ λ same. absurd (none_served f o.0.resource none (ap (λ (l : Key). l.resource) (sym (same_key k o.0 same)) ∙ is) all.0)
      | false ↦ λ other. none_among f k os none is all.1
    ] refl

pub no_namespaces : NoNamespaces
no_namespaces rules h k none history is = none_among rules.format k (after_all rules empty h).objects none is (served_stay rules empty h tt history)
