-- What is listed of what changes leave.
use Rattle.std.proofs.Common.{◌≡◌, ℕ, Bool, List, sym, ap, ◌∙◌, IsTrue}
use Rattle.std.proofs.Common.{Result, Ok, Err, IfOk}
use Rattle.std.specs.FinMap.{is_sorted}
use Rattle.std.specs.FinMap.Entries.{is_sorted-where_key}
use Rattle.std.specs.List.{filter}
use Rattle.std.specs.Prelude.{Option}
use denote.Ref.{Bor}
use Rattle.names.specs.declared.resource.Resource.{Resource}
use Rattle.names.specs.Key.{Key, key_cmp}
use Rattle.objects.specs.Objects.{is_of}
use Rattle.objects.specs.Merged.{merged}
use Rattle.objects.specs.Changes.{Changes, Leaves}
use Rattle.objects.specs.Steps.{changes_of}
use Rattle.objects.proofs.Changing.{T_from_true, true_from_T, merged-filter}

sorted_filter : {Y : Type 0} (p : Key → Bool) (es : List (Key × Y)) → IsTrue (is_sorted key_cmp es) → IsTrue (is_sorted key_cmp (filter (λ e. p e.0) es))
sorted_filter p es h = true_from_T _ (is_sorted-where_key key_cmp p es (T_from_true _ h))

module _ {X : Type 0} where
  -- the merge of the changes of a resource and of what lies below of it lists what all changes leave of it
  pub list_leaves : {E V : Type 0} (items : V → List (Key × X)) (changes : Changes X) (r : Resource) (n : Option (List ℕ)) (held : List (Key × Option X)) (lent : List (Bor (Key × Option X))) (below base left : List (Key × X)) (result : Result V E)
      → changes_of lent ≡ filter (λ c. is_of r n c.0) held → held ≡ changes.made → IsTrue (is_sorted key_cmp held) → Leaves changes base left
      → below ≡ filter (λ e. is_of r n e.0) base
      → (IsTrue (is_sorted key_cmp (changes_of lent)) → IsTrue (is_sorted key_cmp below) → IfOk result (λ v. items v ≡ merged (changes_of lent) below))
      → IfOk result (λ v. items v ≡ filter (λ e. is_of r n e.0) left)
  list_leaves items changes r n held lent below base left (Err e) lists same sorted over is merges = tt
  list_leaves items changes r n held lent below base left (Ok v) lists same sorted over is merges =
      merges (ap (is_sorted key_cmp) lists ∙ sorted_filter (is_of r n) held sorted) (ap (is_sorted key_cmp) is ∙ sorted_filter (is_of r n) base over.ascends)
      ∙ (λ i. merged (lists i) (is i))
      ∙ ap (λ (cs : List (Key × Option X)). merged (filter (λ c. is_of r n c.0) cs) (filter (λ e. is_of r n e.0) base)) same
      ∙ sym (merged-filter (is_of r n) changes.made base over.ascends)
      ∙ ap (filter (λ e. is_of r n e.0)) over.are

  -- it is the merge of the changes of the resource, whatever lies below
  pub list_merged : {E V : Type 0} (items : V → List (Key × X)) (changes : Changes X) (r : Resource) (n : Option (List ℕ)) (held : List (Key × Option X)) (lent : List (Bor (Key × Option X))) (below : List (Key × X)) (result : Result V E)
      → changes_of lent ≡ filter (λ c. is_of r n c.0) held → held ≡ changes.made → IsTrue (is_sorted key_cmp held) → IsTrue (is_sorted key_cmp below)
      → (IsTrue (is_sorted key_cmp (changes_of lent)) → IsTrue (is_sorted key_cmp below) → IfOk result (λ v. items v ≡ merged (changes_of lent) below))
      → IfOk result (λ v. items v ≡ merged (filter (λ c. is_of r n c.0) changes.made) below)
  list_merged items changes r n held lent below (Err e) lists same sorted ascends merges = tt
  list_merged items changes r n held lent below (Ok v) lists same sorted ascends merges =
      merges (ap (is_sorted key_cmp) lists ∙ sorted_filter (is_of r n) held sorted) ascends
      ∙ ap (λ (cs : List (Key × Option X)). merged cs below) lists
      ∙ ap (λ (cs : List (Key × Option X)). merged (filter (λ c. is_of r n c.0) cs) below) same

  -- the merge of all changes and of all that lies below is what they leave
  pub left_merged : {E V : Type 0} (items : V → List (Key × X)) (changes : Changes X) (held : List (Key × Option X)) (lent : List (Bor (Key × Option X))) (below left : List (Key × X)) (result : Result V E)
      → changes_of lent ≡ held → held ≡ changes.made → IsTrue (is_sorted key_cmp held) → Leaves changes below left
      → (IsTrue (is_sorted key_cmp (changes_of lent)) → IsTrue (is_sorted key_cmp below) → IfOk result (λ v. items v ≡ merged (changes_of lent) below))
      → IfOk result (λ v. items v ≡ left)
  left_merged items changes held lent below left (Err e) lists same sorted over merges = tt
  left_merged items changes held lent below left (Ok v) lists same sorted over merges =
      merges (ap (is_sorted key_cmp) lists ∙ sorted) over.ascends ∙ ap (λ (cs : List (Key × Option X)). merged cs below) (lists ∙ same) ∙ over.are
