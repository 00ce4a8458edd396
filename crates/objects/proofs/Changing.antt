-- What is found, put and listed over changes.
use Rattle.std.proofs.Common.{◌≡◌, Bool, true, false, cond, not, List, [], ◌∷◌, refl, sym, ap, ◌∙◌, IsTrue}
use Rattle.std.proofs.lemmas.Cmp.{alike_right, eq_by_cmp_equiv}
use Rattle.std.specs.FinMap.{is_sorted}
use Rattle.std.specs.FinMap.Entries.{is_sorted-put, is_sorted-where_key, find-put, find-where_key, same_entries}
use Rattle.std.specs.List.{filter}
use Rattle.std.specs.Ordering.{eq_by_cmp, is_eq}
use Rattle.std.specs.Prelude.{Option, Some, None, T}
use Rattle.names.specs.Key.{Key, key_cmp}
use Rattle.names.specs.KeyLaws.{key_cmp_total}
use Rattle.names.proofs.KeyOrder.{key_cmp-IsAntisymmetric}
use Rattle.objects.specs.Objects.{value_at, with_value, without_key}
use Rattle.objects.specs.Merged.{changed, merged, over}

pub T_from_true : (b : Bool) → b ≡ true → T b
T_from_true true h = tt
T_from_true false h = cc

pub true_from_T : (b : Bool) → T b → b ≡ true
true_from_T true h = refl
true_from_T false h = absurd h

turned : {A : Type 0} (b : Bool) (x y : A) → cond (not b) x y ≡ cond b y x
turned true x y = refl
turned false x y = refl

module _ {X : Type 0} where
  over-cond : (b : Bool) (change : Option X) (found : Option (Option X)) (base : Option X) → over (cond b (Some change) found) base ≡ cond b change (over found base)
  over-cond true change found base = refl
  over-cond false change found base = refl

  over-both : (b : Bool) (found : Option (Option X)) (base : Option X) → cond b (over found base) None ≡ over (cond b found None) (cond b base None)
  over-both true found base = refl
  over-both false found base = refl

  find-without : (q k : Key) (es : List (Key × X)) → value_at q (without_key k es) ≡ cond (eq_by_cmp key_cmp q k) None (value_at q es)
  find-without q k es =
      find-where_key key_cmp (λ x. not (eq_by_cmp key_cmp k x)) q (λ x tie. ap (λ r. not (is_eq r)) (sym (alike_right key_cmp_total q x k tie))) es
      ∙ turned (eq_by_cmp key_cmp k q) (value_at q es) None
      ∙ ap (λ b. cond b None (value_at q es)) ((eq_by_cmp_equiv key_cmp_total).symm k q)

  pub find-changed : (q k : Key) (change : Option X) (es : List (Key × X)) → value_at q (changed k change es) ≡ cond (eq_by_cmp key_cmp q k) change (value_at q es)
  find-changed q k (Some v) es = find-put key_cmp key_cmp_total q k v es
  find-changed q k None es = find-without q k es

  pub find-merged : (q : Key) (cs : List (Key × Option X)) (base : List (Key × X)) → value_at q (merged cs base) ≡ over (value_at q cs) (value_at q base)
  find-merged q [] base = refl
  find-merged q (c ∷ cs) base =
      find-changed q c.0 c.1 (merged cs base)
      ∙ ap (cond (eq_by_cmp key_cmp q c.0) c.1) (find-merged q cs base)
      ∙ sym (over-cond (eq_by_cmp key_cmp q c.0) c.1 (value_at q cs) (value_at q base))

  pub sorted-changed : (k : Key) (change : Option X) (es : List (Key × X)) → T (is_sorted key_cmp es) → T (is_sorted key_cmp (changed k change es))
  sorted-changed k (Some v) es h = is_sorted-put key_cmp key_cmp_total k v es h
  sorted-changed k None es h = is_sorted-where_key key_cmp (λ x. not (eq_by_cmp key_cmp k x)) es h

  pub sorted-merged : (cs : List (Key × Option X)) (base : List (Key × X)) → T (is_sorted key_cmp base) → T (is_sorted key_cmp (merged cs base))
  sorted-merged [] base h = h
  sorted-merged (c ∷ cs) base h = sorted-changed c.0 c.1 (merged cs base) (sorted-merged cs base h)

  pub merged-put : (k : Key) (change : Option X) (cs : List (Key × Option X)) (base : List (Key × X))
      → IsTrue (is_sorted key_cmp base) → merged (with_value k change cs) base ≡ changed k change (merged cs base)
  merged-put k change cs base h =
      let sorted = T_from_true _ h in
      same_entries key_cmp key_cmp_total key_cmp-IsAntisymmetric (merged (with_value k change cs) base) (changed k change (merged cs base))
      (sorted-merged (with_value k change cs) base sorted)
      (sorted-changed k change (merged cs base) (sorted-merged cs base sorted))
      (λ q.
      find-merged q (with_value k change cs) base
      ∙ ap (λ f. over f (value_at q base)) (find-put key_cmp key_cmp_total q k change cs)
      ∙ over-cond (eq_by_cmp key_cmp q k) change (value_at q cs) (value_at q base)
      ∙ ap (cond (eq_by_cmp key_cmp q k) change) (sym (find-merged q cs base))
      ∙ sym (find-changed q k change (merged cs base)))

pub find-filter : {Y : Type 0} (p : Key → Bool) (q : Key) (es : List (Key × Y)) → value_at q (filter (λ e. p e.0) es) ≡ cond (p q) (value_at q es) None
find-filter p q es = find-where_key key_cmp p q (λ x tie. ap p (sym (key_cmp-IsAntisymmetric q x tie))) es

pub merged-filter : {X : Type 0} (p : Key → Bool) (cs : List (Key × Option X)) (base : List (Key × X)) → IsTrue (is_sorted key_cmp base)
    → filter (λ e. p e.0) (merged cs base) ≡ merged (filter (λ c. p c.0) cs) (filter (λ e. p e.0) base)
merged-filter {X} p cs base h =
    let sorted = T_from_true _ h in
    same_entries key_cmp key_cmp_total key_cmp-IsAntisymmetric (filter (λ e. p e.0) (merged cs base)) (merged (filter (λ c. p c.0) cs) (filter (λ e. p e.0) base))
    (is_sorted-where_key key_cmp p (merged cs base) (sorted-merged cs base sorted))
    (sorted-merged (filter (λ c. p c.0) cs) (filter (λ e. p e.0) base) (is_sorted-where_key key_cmp p base sorted))
    (λ q.
    find-filter p q (merged cs base)
    ∙ ap (λ found. cond (p q) found None) (find-merged q cs base)
    ∙ over-both (p q) (value_at q cs) (value_at q base)
    ∙ ap (λ found. over found (cond (p q) (value_at q base) None)) (sym (find-filter p q cs))
    ∙ ap (over (value_at q (filter (λ c. p c.0) cs))) (sym (find-filter p q base))
    ∙ sym (find-merged q (filter (λ c. p c.0) cs) (filter (λ e. p e.0) base)))
