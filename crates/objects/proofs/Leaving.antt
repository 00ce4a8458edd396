-- What changes leave, and how many.
use Rattle.std.proofs.Common.{◌≡◌, ℕ, ◌+◌, ◌-◌, ◌<◌, ◌≤◌, ◌^◌, Bool, min, List, [], ◌∷◌, length, is_some, sym, ap, ◌∙◌, IsTrue, arith}
use Rattle.std.specs.FinMap.{is_sorted}
use Rattle.std.specs.Int.{from_bool}
use Rattle.std.specs.Prelude.{Option, Some, None}
use Rattle.names.specs.Key.{Key, key_cmp}
use Rattle.objects.specs.Objects.{value_at, with_value}
use Rattle.objects.specs.Merged.{changed, merged}
use Rattle.objects.specs.Covered.{count_of}
use Rattle.objects.specs.Changes.{Changes, Leaves}
use Rattle.objects.proofs.Changing.{T_from_true, true_from_T, sorted-merged, merged-put}
use Rattle.objects.proofs.Covering.{merged-same, length-changed}

module _ {X : Type 0} where
  one_at_most : (found : Option X) → count_of found ≤ 1
  one_at_most (Some value) = omega arith
  one_at_most None = omega arith

  found_counts : (k : Key) (es : List (Key × X)) → count_of (value_at k es) ≤ length es
  found_counts k [] = omega arith
  found_counts k (e ∷ es) = let most = one_at_most (value_at k (e ∷ es)) in omega (arith, most)

  counted : (found change : Option X) (before after rest old new : ℕ) → rest ≡ before - from_bool (is_some found) → after ≡ min (rest + from_bool (is_some change)) (2 ^ 64 - 1)
      → before ≡ old → count_of found ≤ old → old < 2 ^ 64 - 1 → new + count_of found ≡ old + count_of change → after ≡ new
  counted (Some v) (Some w) before after rest old new first second same some small is = omega (arith, first, second, same, some, small, is)
  counted (Some v) None before after rest old new first second same some small is = omega (arith, first, second, same, some, small, is)
  counted None (Some w) before after rest old new first second same some small is = omega (arith, first, second, same, some, small, is)
  counted None None before after rest old new first second same some small is = omega (arith, first, second, same, some, small, is)

  -- a change that is made
  pub leaves_changed : (before after : Changes X) (k : Key) (change : Option X) (stood : Bool) (rest : ℕ) (base left : List (Key × X)) → after.made ≡ with_value k change before.made
      → rest ≡ before.count - from_bool stood → after.count ≡ min (rest + from_bool (is_some change)) (2 ^ 64 - 1)
      → Leaves before base left → stood ≡ is_some (value_at k left) → length left < 2 ^ 64 - 1 → Leaves after base (changed k change left)
  leaves_changed before after k change stood rest base left made first second over is small =
      let sorted : IsTrue (is_sorted key_cmp left) =
      ap (λ (es : List (Key × X)). is_sorted key_cmp es) (sym over.are) ∙ true_from_T _ (sorted-merged before.made base (T_from_true _ over.ascends))
      in
      record {
        ascends = over.ascends;
        are = ap (λ (cs : List (Key × Option X)). merged cs base) made ∙ merged-put k change before.made base over.ascends ∙ ap (changed k change) over.are;
        counted = counted (value_at k left) change before.count after.count rest (length left) (length (changed k change left))
            (first ∙ ap (λ b. before.count - from_bool b) is) second over.counted (found_counts k left) small (length-changed k change left sorted);
      }

  -- and one that says what is there already
  pub leaves_same : (before after : Changes X) (k : Key) (change : Option X) (base left : List (Key × X)) → after.made ≡ with_value k change before.made
      → after.count ≡ before.count → Leaves before base left → value_at k left ≡ change → Leaves after base left
  leaves_same before after k change base left made count over is =
      record {
        ascends = over.ascends;
        are = ap (λ (cs : List (Key × Option X)). merged cs base) (made ∙ ap (λ found. with_value k found before.made) (sym is ∙ ap (value_at k) (sym over.are)))
            ∙ merged-same k before.made base over.ascends ∙ over.are;
        counted = count ∙ over.counted;
      }
