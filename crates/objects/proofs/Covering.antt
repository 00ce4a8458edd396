-- Changes that say what is there, how many entries changes leave, and entries each of which has a change.
use Rattle.std.proofs.Common.{◌≡◌, ℕ, ◌+◌, Bool, true, false, cond, List, [], length, is_some, refl, sym, ap, ◌∙◌, IsTrue, arith}
use Rattle.std.specs.FinMap.{is_sorted}
use Rattle.std.specs.FinMap.Entries.{is_sorted-where_key, length-put, length_without, same_entries}
use Rattle.std.specs.List.{filter}
use Rattle.std.specs.Ordering.{eq_by_cmp}
use Rattle.std.specs.Prelude.{Option, Some, None}
use Rattle.names.specs.declared.resource.Resource.{Resource}
use Rattle.names.specs.Key.{Key, key_cmp}
use Rattle.names.specs.KeyLaws.{key_cmp_total}
use Rattle.names.proofs.KeyOrder.{key_cmp-IsAntisymmetric}
use Rattle.objects.specs.Objects.{value_at, with_value, without_key, is_of}
use Rattle.objects.specs.Merged.{changed, merged, over}
use Rattle.objects.specs.Covered.{count_of, AreCovered}
use Rattle.objects.proofs.Changing.{T_from_true, true_from_T, find-changed, find-merged, find-filter, sorted-changed, sorted-merged, merged-put}
use Rattle.objects.proofs.Taking.{same_key}

module _ {X : Type 0} where
  -- a key that ties has the value that the other has
  at_same : (q k : Key) (es : List (Key × X)) (t : Bool) → eq_by_cmp key_cmp q k ≡ t → cond t (value_at k es) (value_at q es) ≡ value_at q es
  at_same q k es true tied = ap (λ key. value_at key es) (sym (same_key q k tied))
  at_same q k es false tied = refl

  changed-same : (k : Key) (es : List (Key × X)) → IsTrue (is_sorted key_cmp es) → changed k (value_at k es) es ≡ es
  changed-same k es h =
      let sorted = T_from_true _ h in
      same_entries key_cmp key_cmp_total key_cmp-IsAntisymmetric (changed k (value_at k es) es) es (sorted-changed k (value_at k es) es sorted) sorted
      (λ q. find-changed q k (value_at k es) es ∙ at_same q k es (eq_by_cmp key_cmp q k) refl)

  pub merged-same : (k : Key) (cs : List (Key × Option X)) (base : List (Key × X)) → IsTrue (is_sorted key_cmp base)
      → merged (with_value k (value_at k (merged cs base)) cs) base ≡ merged cs base
  merged-same k cs base h =
      merged-put k (value_at k (merged cs base)) cs base h
      ∙ changed-same k (merged cs base) (true_from_T _ (sorted-merged cs base (T_from_true _ h)))

  counted-put : (found : Option X) (n m : ℕ) → m ≡ cond (is_some found) n (n + 1) → m + count_of found ≡ n + 1
  counted-put (Some v) n m is = omega (arith, is)
  counted-put None n m is = omega (arith, is)

  counted-without : (found : Option X) (n m : ℕ) → cond (is_some found) 1 0 + m ≡ n → m + count_of found ≡ n + 0
  counted-without (Some v) n m is = omega (arith, is)
  counted-without None n m is = omega (arith, is)

  pub length-changed : (k : Key) (change : Option X) (es : List (Key × X)) → IsTrue (is_sorted key_cmp es)
      → length (changed k change es) + count_of (value_at k es) ≡ length es + count_of change
  length-changed k (Some v) es h = counted-put (value_at k es) (length es) (length (with_value k v es)) (length-put key_cmp key_cmp_total k v es (T_from_true _ h))
  length-changed k None es h =
      counted-without (value_at k es) (length es) (length (without_key k es)) (length_without key_cmp key_cmp_total k es (T_from_true _ h))

  -- ---- where each entry has a change

  without_base : (found : Option (Option X)) (base : Option X) → (found ≡ None → base ≡ None) → over found base ≡ over found None
  without_base (Some change) base covered = refl
  without_base None base covered = covered refl

  pub found_where_covered : (r : Resource) (k : Key) (cs : List (Key × Option X)) (base : List (Key × X)) → AreCovered r cs base → IsTrue (is_of r None k)
      → value_at k (merged cs base) ≡ over (value_at k cs) None
  found_where_covered r k cs base covered is = find-merged k cs base ∙ without_base (value_at k cs) (value_at k base) (covered k is)

  pub listed_where_covered : (r : Resource) (cs : List (Key × Option X)) (base : List (Key × X)) → IsTrue (is_sorted key_cmp base) → AreCovered r cs base
      → filter (λ e. is_of r None e.0) (merged cs base) ≡ merged (filter (λ c. is_of r None c.0) cs) []
  listed_where_covered r cs base h covered =
      let sorted = T_from_true _ h in
      let chosen : List (Key × Option X) = filter (λ c. is_of r None c.0) cs in
      same_entries key_cmp key_cmp_total key_cmp-IsAntisymmetric (filter (λ e. is_of r None e.0) (merged cs base)) (merged chosen [])
      (is_sorted-where_key key_cmp (is_of r None) (merged cs base) (sorted-merged cs base sorted))
      (sorted-merged chosen [] tt)
      (λ q.
      find-filter (is_of r None) q (merged cs base)
      ∙ of_one q (is_of r None q) refl
      ∙ ap (λ found. over found None) (sym (find-filter (is_of r None) q cs))
      ∙ sym (find-merged q chosen []))
    where
      of_one : (q : Key) (b : Bool) → is_of r None q ≡ b → cond b (value_at q (merged cs base)) None ≡ over (cond b (value_at q cs) None) None
      of_one q true is = found_where_covered r q cs base covered is
      of_one q false is = refl
