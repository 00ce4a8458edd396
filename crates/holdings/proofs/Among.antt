-- Whether an object is among those that changes leave: one was put, or one that has no change lies below.
use Rattle.std.proofs.Common.{◌≡◌, ◌∙◌, sym, ap, subst, refl, ℕ, Bool, true, false, cond, not, ◌&&◌, ◌||◌, true≢false, List, [], ◌∷◌, Option, Some, None, is_some, IsTrue, Result, Ok, Err, IfOk}
use Rattle.std.proofs.lemmas.Bool.{and_parts}
use Rattle.std.proofs.lemmas.Cmp.{tied_itself}
use Rattle.std.specs.FinMap.{is_sorted}
use Rattle.std.specs.FinMap.Entries.{is_sorted-where_key}
use Rattle.std.specs.List.{filter, list_any}
use Rattle.std.specs.Ordering.{eq_by_cmp, is_eq}
use Rattle.names.specs.declared.resource.Resource.{Resource}
use Rattle.names.specs.Key.{Key, key_cmp}
use Rattle.names.specs.KeyLaws.{key_cmp_total}
use Rattle.objects.specs.Objects.{value_at, is_of}
use Rattle.objects.specs.Merged.{merged, over}
use Rattle.objects.specs.Place.{AllAbove}
use Rattle.objects.proofs.Changing.{T_from_true, true_from_T, find-filter, find-merged}
use Rattle.objects.proofs.Found.{first_above, rest_sorted}
use Rattle.objects.proofs.Taking.{same_key}
use Rattle.histories.specs.declared.stored.Stored.{Stored}
use Rattle.histories.specs.View.{View}
use Rattle.holdings.specs.Holdings.{State, Shows}
use Rattle.holdings.specs.Sources.{is_unchanged}

-- two tests that hold together are one
same_tests : (a b : Bool) → (a ≡ true → b ≡ true) → (b ≡ true → a ≡ true) → a ≡ b
same_tests true b there back = sym (there refl)
same_tests false true there back = back refl
same_tests false false there back = refl

either : (a b : Bool) → b ≡ true → (a || b) ≡ true
either true b is = refl
either false b is = is

module _ {Y : Type 0} where
  -- the value that stands under a key
  pub record StandsUnder (q : Key → Bool) (es : List (Key × Y)) : Type 0 where
    pub key : Key
    pub value : Y
    pub of : q key ≡ true
    pub found : value_at key es ≡ Some value

  at_first : (k : Key) (e : Key × Y) (es : List (Key × Y)) (b : Bool) → eq_by_cmp key_cmp k e.0 ≡ b → value_at k (e ∷ es) ≡ cond b (Some e.1) (value_at k es)
  at_first k e es b is = ap (λ t. cond t (Some e.1) (value_at k es)) is

  at_itself : (e : Key × Y) (es : List (Key × Y)) → value_at e.0 (e ∷ es) ≡ Some e.1
  at_itself e es = at_first e.0 e es true (ap is_eq (tied_itself key_cmp_total e.0))

  -- an entry with a key that passes stands under such a key,
  stands_behind : (q : Key → Bool) (e : Key × Y) (es : List (Key × Y)) (under : StandsUnder q es) (b : Bool) → eq_by_cmp key_cmp under.key e.0 ≡ b → StandsUnder q (e ∷ es)
  stands_behind q e es under true tied = record { key = under.key; value = e.1; of = under.of; found = at_first under.key e es true tied }
  stands_behind q e es under false other = record { key = under.key; value = under.value; of = under.of; found = at_first under.key e es false other ∙ under.found }

  pub stands_under : (q : Key → Bool) (es : List (Key × Y)) → list_any (λ e. q e.0) es ≡ true → StandsUnder q es
  stands_under q [] any = cc
  stands_under q (e ∷ es) any = step (stands_under q es) (q e.0) refl any
    where
      step : (list_any (λ e. q e.0) es ≡ true → StandsUnder q es) → (b : Bool) → q e.0 ≡ b → (b || list_any (λ e. q e.0) es) ≡ true → StandsUnder q (e ∷ es)
      step more true is any = record { key = e.0; value = e.1; of = is; found = at_itself e es }
      step more false is any =
          let under = more any in
          stands_behind q e es under (eq_by_cmp key_cmp under.key e.0) refl

  -- and what stands under a key is an entry
  pub any_under : (p : Key × Y → Bool) (k : Key) (y : Y) (es : List (Key × Y)) → value_at k es ≡ Some y → p (k, y) ≡ true → list_any p es ≡ true
  any_under p k y [] found is = cc
  any_under p k y (e ∷ es) found is =
      step (λ rest. any_under p k y es rest is) (eq_by_cmp key_cmp k e.0) refl (sym (at_first k e es (eq_by_cmp key_cmp k e.0) refl) ∙ found)
    where
      step : (value_at k es ≡ Some y → list_any p es ≡ true) → (b : Bool) → eq_by_cmp key_cmp k e.0 ≡ b → cond b (Some e.1) (value_at k es) ≡ Some y → (p e || list_any p es) ≡ true
      step more true tied first =
          let value : e.1 ≡ y = cc in
          let key : e.0 ≡ k = sym (same_key k e.0 tied) in
          ap (λ b. b || list_any p es) ((λ i. p (key i, value i)) ∙ is)
      step more false other rest = either (p e) (list_any p es) (more rest)

  -- ---- of ascending entries

  none_above : (k : Key) (es : List (Key × Y)) → AllAbove k es → value_at k es ≡ None
  none_above k [] above = refl
  none_above k (e ∷ es) above = at_first k e es false (ap is_eq above.0) ∙ none_above k es above.1

  -- an entry whose value passes is what stands under its key
  pub record HasValue (t : Y → Bool) (es : List (Key × Y)) : Type 0 where
    pub key : Key
    pub value : Y
    pub passes : t value ≡ true
    pub found : value_at key es ≡ Some value

  pub has_value : (t : Y → Bool) (es : List (Key × Y)) → is_sorted key_cmp es ≡ true → list_any (λ e. t e.1) es ≡ true → HasValue t es
  has_value t [] sorted any = cc
  has_value t (e ∷ es) sorted any = step (has_value t es (rest_sorted e es sorted)) (t e.1) refl any
    where
      behind : (has : HasValue t es) (b : Bool) → eq_by_cmp key_cmp has.key e.0 ≡ b → HasValue t (e ∷ es)
      behind has true tied =
          let never : None ≡ Some has.value =
          sym (none_above e.0 es (first_above e es sorted)) ∙ ap (λ (k : Key). value_at k es) (sym (same_key has.key e.0 tied)) ∙ has.found
          in cc
      behind has false other = record { key = has.key; value = has.value; passes = has.passes; found = at_first has.key e es false other ∙ has.found }

      step : (list_any (λ e. t e.1) es ≡ true → HasValue t es) → (b : Bool) → t e.1 ≡ b → (b || list_any (λ e. t e.1) es) ≡ true → HasValue t (e ∷ es)
      step more true is any = record { key = e.0; value = e.1; passes = is; found = at_itself e es }
      step more false is any =
          let has = more any in
          behind has (eq_by_cmp key_cmp has.key e.0) refl

some_value : {A : Type 0} (o : Option A) → is_some o ≡ true → (x : A) × (o ≡ Some x)
some_value None is = cc
some_value (Some x) is = (x, refl)

no_value : {A : Type 0} (o : Option A) → not (is_some o) ≡ true → o ≡ None
no_value None is = refl
no_value (Some x) is = cc

module _ {X : Type 0} (q : Key → Bool) (cs : List (Key × Option X)) (base : List (Key × X)) where
  abbrev in_range : List (Key × Option X)
  in_range = filter (λ c. q c.0) cs

  left_under : (k : Key) (change : Option (Option X)) (found : Option X) (x : X) → q k ≡ true → value_at k cs ≡ change → value_at k base ≡ found → over change found ≡ Some x
      → list_any (λ o. q o.0) (merged cs base) ≡ true
  left_under k change found x of changed below is =
      any_under (λ o. q o.0) k x (merged cs base) (find-merged k cs base ∙ (λ i. over (changed i) (below i)) ∙ is) of

  -- Where one of the keys was put, one is left.
  pub left_of_put : IsTrue (is_sorted key_cmp cs) → list_any (λ c. is_some c.1) in_range ≡ true → list_any (λ o. q o.0) (merged cs base) ≡ true
  left_of_put ascends put =
      let sorted = true_from_T _ (is_sorted-where_key key_cmp q cs (T_from_true _ ascends)) in
      let has = has_value is_some in_range sorted put in
      let some = some_value has.value has.passes in
      let there : cond (q has.key) (value_at has.key cs) None ≡ Some (Some some.0) = sym (find-filter q has.key cs) ∙ has.found ∙ ap (λ (o : Option X). Some o) some.1 in
      step has.key some.0 (q has.key) refl there
    where
      step : (k : Key) (x : X) (b : Bool) → q k ≡ b → cond b (value_at k cs) None ≡ Some (Some x) → list_any (λ o. q o.0) (merged cs base) ≡ true
      step k x true of changed = left_under k (Some (Some x)) (value_at k base) x of changed refl refl
      step k x false of changed = cc

  -- Where none was put, one is left if one lies below that has no change.
  pub left_below : list_any (λ c. is_some c.1) in_range ≡ false
      → list_any (λ o. q o.0 && not (is_some (value_at o.0 cs))) base ≡ list_any (λ o. q o.0) (merged cs base)
  left_below none = same_tests (list_any (λ o. q o.0 && not (is_some (value_at o.0 cs))) base) (list_any (λ o. q o.0) (merged cs base)) there back
    where
      there : list_any (λ o. q o.0 && not (is_some (value_at o.0 cs))) base ≡ true → list_any (λ o. q o.0) (merged cs base) ≡ true
      there any =
          let under = stands_under (λ k. q k && not (is_some (value_at k cs))) base any in
          let parts = and_parts (q under.key) (not (is_some (value_at under.key cs))) under.of in
          left_under under.key None (Some under.value) under.value parts.0 (no_value (value_at under.key cs) parts.1) under.found refl

      put_none : (k : Key) (x : X) → q k ≡ true → value_at k cs ≡ Some (Some x) → ⊥
      put_none k x of changed =
          let kept : value_at k in_range ≡ Some (Some x) = find-filter q k cs ∙ ap (λ b. cond b (value_at k cs) None) of ∙ changed in
          true≢false (sym (any_under (λ c. is_some c.1) k (Some x) in_range kept refl) ∙ none)

      step : (k : Key) (x : X) (change : Option (Option X)) → q k ≡ true → value_at k cs ≡ change → over change (value_at k base) ≡ Some x
          → list_any (λ o. q o.0 && not (is_some (value_at o.0 cs))) base ≡ true
      step k x (Some change) of changed is = absurd (put_none k x of (changed ∙ ap (λ (o : Option X). Some o) is))
      step k x None of changed is =
          any_under (λ o. q o.0 && not (is_some (value_at o.0 cs))) k x base is ((λ i. of i && not (is_some (changed i))))

      back : list_any (λ o. q o.0) (merged cs base) ≡ true → list_any (λ o. q o.0 && not (is_some (value_at o.0 cs))) base ≡ true
      back any =
          let under = stands_under q (merged cs base) any in
          step under.key under.value (value_at under.key cs) under.of refl (sym (find-merged under.key cs base) ∙ under.found)

-- ---- of what is held

module _ {P : Type 0} (s now : State P) (same : s ≡ now) (r : Resource) (namespace : List ℕ) (lent : List (Key × Option (Stored P))) (put : Bool)
    (are : lent ≡ filter (λ c. is_of r (Some namespace) c.0) s.changes.made) (is : put ≡ list_any (λ c. is_some c.1) lent) (base : List (Key × Stored P)) (v : View P) (shows : Shows now base v) where
  is_put : put ≡ list_any (λ c. is_some c.1) (filter (λ c. is_of r (Some namespace) c.0) now.changes.made)
  is_put = is ∙ ap (list_any (λ c. is_some c.1)) (are ∙ ap (λ (t : State P). filter (λ c. is_of r (Some namespace) c.0) t.changes.made) same)

  -- one that was put stands,
  pub shows_put_any : IsTrue (is_sorted key_cmp s.changes.made) → put ≡ true → true ≡ list_any (λ o. is_of r (Some namespace) o.0) v.objects
  shows_put_any ascends put =
      sym (ap (list_any (λ o. is_of r (Some namespace) o.0)) (sym shows.objects.are)
      ∙ left_of_put (is_of r (Some namespace)) now.changes.made base (subst (λ (t : State P). IsTrue (is_sorted key_cmp t.changes.made)) same ascends) (sym is_put ∙ put))

  -- and where none was, one stands if one lies below that has no change
  pub shows_below_any : {E : Type 0} (result : Result Bool E) → put ≡ false → IfOk result (λ b. b ≡ list_any (λ o. is_unchanged r namespace s.changes.made o.0) base)
      → IfOk result (λ b. b ≡ list_any (λ o. is_of r (Some namespace) o.0) v.objects)
  shows_below_any (Err e) none below = tt
  shows_below_any (Ok b) none below =
      below ∙ ap (λ (t : State P). list_any (λ o. is_unchanged r namespace t.changes.made o.0) base) same
      ∙ left_below (is_of r (Some namespace)) now.changes.made base (sym is_put ∙ none)
      ∙ ap (list_any (λ o. is_of r (Some namespace) o.0)) shows.objects.are
