-- What is read, put and removed where a key stands, or would stand.
use Rattle.std.proofs.Common.{◌≡◌, ℕ, suc, Bool, true, false, cond, not, List, [], ◌∷◌, ◌++◌, length, get_or, set, drop, refl, sym, ap, ◌∙◌, IsTrue, add-one}
use Rattle.std.proofs.Math.Seq.{take-append_seam, drop-append_seam, drop-append-add, get_or-append_seam, set-append_seam}
use Rattle.std.proofs.lemmas.Cmp.{tied_itself, alike_right, eq_by_cmp_equiv}
use Rattle.std.specs.FinMap.{is_sorted}
use Rattle.std.specs.FinMap.Entries.{by_order, is_sorted-put, is_sorted-where_key, find-put, find-where_key}
use Rattle.std.specs.List.{insert, remove}
use Rattle.std.specs.Ordering.{eq_by_cmp, is_eq}
use Rattle.std.specs.Prelude.{Some, None, T}
use Rattle.std.specs.declared.cmp.Ordering.TheVariants.{Equal}
use Rattle.names.specs.Key.{Key, key_cmp}
use Rattle.names.specs.KeyLaws.{key_cmp_total}
use Rattle.objects.specs.Objects.{value_at, with_value, without_key}
use Rattle.objects.specs.Place.{AllBelow, AllAbove, StandsAt, IsGap}

key_ties : (key : Key) → key_cmp key key ≡ Equal
key_ties key = tied_itself key_cmp_total key

module _ {X : Type 0} (key : Key) where
  value_at-found : (front : List (Key × X)) (value : X) (back : List (Key × X)) → AllBelow key front → value_at key (front ++ (key, value) ∷ back) ≡ Some value
  value_at-found [] value back below = ap (λ o. cond (is_eq o) (Some value) (value_at key back)) (key_ties key)
  value_at-found (entry ∷ front) value back below =
      ap (λ o. cond (is_eq o) (Some entry.1) (value_at key (front ++ (key, value) ∷ back))) below.0 ∙ value_at-found front value back below.1

  value_at-above : (back : List (Key × X)) → AllAbove key back → value_at key back ≡ None
  value_at-above [] above = refl
  value_at-above (entry ∷ back) above = ap (λ o. cond (is_eq o) (Some entry.1) (value_at key back)) above.0 ∙ value_at-above back above.1

  value_at-gap : (front back : List (Key × X)) → AllBelow key front → AllAbove key back → value_at key (front ++ back) ≡ None
  value_at-gap [] back below above = value_at-above back above
  value_at-gap (entry ∷ front) back below above =
      ap (λ o. cond (is_eq o) (Some entry.1) (value_at key (front ++ back))) below.0 ∙ value_at-gap front back below.1 above

  with_value-found : (front : List (Key × X)) (old new : X) (back : List (Key × X)) → AllBelow key front
      → with_value key new (front ++ (key, old) ∷ back) ≡ front ++ (key, new) ∷ back
  with_value-found [] old new back below =
      ap (λ o. by_order o ((key, new) ∷ (key, old) ∷ back) ((key, new) ∷ back) ((key, old) ∷ with_value key new back)) (key_ties key)
  with_value-found (entry ∷ front) old new back below =
      let rest = front ++ (key, old) ∷ back in
      ap (λ o. by_order o ((key, new) ∷ entry ∷ rest) ((entry.0, new) ∷ rest) (entry ∷ with_value key new rest)) below.0
      ∙ ap (λ es. entry ∷ es) (with_value-found front old new back below.1)

  with_value-gap : (front : List (Key × X)) (new : X) (back : List (Key × X)) → AllBelow key front → AllAbove key back
      → with_value key new (front ++ back) ≡ front ++ (key, new) ∷ back
  with_value-gap [] new [] below above = refl
  with_value-gap [] new (entry ∷ back) below above =
      ap (λ o. by_order o ((key, new) ∷ entry ∷ back) ((entry.0, new) ∷ back) (entry ∷ with_value key new back)) above.0
  with_value-gap (entry ∷ front) new back below above =
      let rest = front ++ back in
      ap (λ o. by_order o ((key, new) ∷ entry ∷ rest) ((entry.0, new) ∷ rest) (entry ∷ with_value key new rest)) below.0
      ∙ ap (λ es. entry ∷ es) (with_value-gap front new back below.1 above)

  without_key-above : (back : List (Key × X)) → AllAbove key back → without_key key back ≡ back
  without_key-above [] above = refl
  without_key-above (entry ∷ back) above =
      ap (λ o. cond (not (is_eq o)) (entry ∷ without_key key back) (without_key key back)) above.0 ∙ ap (λ es. entry ∷ es) (without_key-above back above.1)

  without_key-gap : (front back : List (Key × X)) → AllBelow key front → AllAbove key back → without_key key (front ++ back) ≡ front ++ back
  without_key-gap [] back below above = without_key-above back above
  without_key-gap (entry ∷ front) back below above =
      let rest = without_key key (front ++ back) in
      ap (λ o. cond (not (is_eq o)) (entry ∷ rest) rest) below.0 ∙ ap (λ es. entry ∷ es) (without_key-gap front back below.1 above)

  without_key-found : (front : List (Key × X)) (value : X) (back : List (Key × X)) → AllBelow key front → AllAbove key back
      → without_key key (front ++ (key, value) ∷ back) ≡ front ++ back
  without_key-found [] value back below above =
      ap (λ o. cond (not (is_eq o)) ((key, value) ∷ without_key key back) (without_key key back)) (key_ties key) ∙ without_key-above back above
  without_key-found (entry ∷ front) value back below above =
      let rest = without_key key (front ++ (key, value) ∷ back) in
      ap (λ o. cond (not (is_eq o)) (entry ∷ rest) rest) below.0 ∙ ap (λ es. entry ∷ es) (without_key-found front value back below.1 above)

-- the steps of a `Vec` at the seam of two parts
module _ {A : Type 0} (front : List A) (x : A) (back : List A) where
  insert-seam : insert (front ++ back) (length front) x ≡ front ++ x ∷ back
  insert-seam = λ i. take-append_seam front back i ++ x ∷ drop-append_seam front back i

  remove-seam : remove (front ++ x ∷ back) (length front) ≡ front ++ back
  remove-seam =
      let tail : drop (suc (length front)) (front ++ x ∷ back) ≡ back = rw (← add-one) (drop-append-add front (x ∷ back) 1) in
      λ i. take-append_seam front (x ∷ back) i ++ tail i

module _ {X : Type 0} (entries : List (Key × X)) (key : Key) (place : ℕ) (s : StandsAt entries key place) where
  pub found-value : value_at key entries ≡ Some s.value
  found-value = ap (value_at key) s.split ∙ value_at-found key s.front s.value s.back s.below

  pub found-read : (d : Key × X) → get_or entries place d ≡ (key, s.value)
  found-read d = (λ i. get_or (s.split i) (sym s.length_front i) d) ∙ get_or-append_seam s.front (key, s.value) s.back d

  -- the value of an entry that was read there
  pub found-some : (entry : Key × X) → entry ≡ get_or entries place entry → Some entry.1 ≡ value_at key entries
  found-some entry e = ap (λ (p : Key × X). Some p.1) (e ∙ found-read entry) ∙ sym found-value

  pub found-put : (new : X) → set entries place (key, new) ≡ with_value key new entries
  found-put new =
      (λ i. set (s.split i) (sym s.length_front i) (key, new)) ∙ set-append_seam s.front (key, s.value) s.back (key, new)
      ∙ sym (ap (with_value key new) s.split ∙ with_value-found key s.front s.value new s.back s.below)

  pub found-remove : remove entries place ≡ without_key key entries
  found-remove =
      (λ i. remove (s.split i) (sym s.length_front i)) ∙ remove-seam s.front (key, s.value) s.back
      ∙ sym (ap (without_key key) s.split ∙ without_key-found key s.front s.value s.back s.below s.above)

module _ {X : Type 0} (entries : List (Key × X)) (key : Key) (place : ℕ) (g : IsGap entries key place) where
  pub gap-value : value_at key entries ≡ None
  gap-value = ap (value_at key) g.split ∙ value_at-gap key g.front g.back g.below g.above

  pub gap-put : (new : X) → insert entries place (key, new) ≡ with_value key new entries
  gap-put new =
      (λ i. insert (g.split i) (sym g.length_front i) (key, new)) ∙ insert-seam g.front (key, new) g.back
      ∙ sym (ap (with_value key new) g.split ∙ with_value-gap key g.front new g.back g.below g.above)

  pub gap-without : without_key key entries ≡ entries
  gap-without = ap (without_key key) g.split ∙ without_key-gap key g.front g.back g.below g.above ∙ sym g.split

T_from_true : (b : Bool) → b ≡ true → T b
T_from_true true h = tt
T_from_true false h = cc

true_from_T : (b : Bool) → T b → b ≡ true
true_from_T true h = refl
true_from_T false h = absurd h

module _ {X : Type 0} (entries : List (Key × X)) (key : Key) (sorted : IsTrue (is_sorted key_cmp entries)) where
  pub sorted-with_value : (value : X) → IsTrue (is_sorted key_cmp (with_value key value entries))
  sorted-with_value value = true_from_T _ (is_sorted-put key_cmp key_cmp_total key value entries (T_from_true _ sorted))

  pub sorted-without_key : IsTrue (is_sorted key_cmp (without_key key entries))
  sorted-without_key = true_from_T _ (is_sorted-where_key key_cmp (λ other. not (eq_by_cmp key_cmp key other)) entries (T_from_true _ sorted))

turned : {A : Type 0} (b : Bool) (x y : A) → cond (not b) x y ≡ cond b y x
turned true x y = refl
turned false x y = refl

module _ {X : Type 0} (key other : Key) (entries : List (Key × X)) where
  pub value_at-with_value : (value : X) → value_at other (with_value key value entries) ≡ cond (eq_by_cmp key_cmp other key) (Some value) (value_at other entries)
  value_at-with_value value = find-put key_cmp key_cmp_total other key value entries

  pub value_at-without_key : value_at other (without_key key entries) ≡ cond (eq_by_cmp key_cmp other key) None (value_at other entries)
  value_at-without_key =
      find-where_key key_cmp (λ k. not (eq_by_cmp key_cmp key k)) other (λ k tie. ap (λ o. not (is_eq o)) (sym (alike_right key_cmp_total other k key tie))) entries
      ∙ turned (eq_by_cmp key_cmp key other) (value_at other entries) None
      ∙ ap (λ b. cond b None (value_at other entries)) ((eq_by_cmp_equiv key_cmp_total).symm key other)
