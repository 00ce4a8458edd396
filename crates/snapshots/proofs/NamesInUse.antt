-- The names of namespaces, as they go into a set, and as they stand among objects.
use Rattle.std.proofs.Common.{◌≡◌, ◌∙◌, refl, sym, ap, ℕ, List, [], ◌∷◌, ◌++◌, length, map, take, drop, append_assoc}
use Rattle.std.specs.Prelude.{IsTrue, T}
use Rattle.std.proofs.lemmas.Bool.{and_parts}
use Rattle.std.proofs.lemmas.List.{take-append-drop, take_at, drop_at}
use Rattle.std.specs.BTreeSet.{insert_key}
use Rattle.std.specs.Cmp.Lexicographic.{slice_cmp, nat_list_cmp_total}
use Rattle.std.specs.FinMap.{put, is_sorted}
use Rattle.std.specs.FinMap.Entries.{by_order, is_sorted-put}
use Rattle.std.specs.List.{AllByRecursion}
use Rattle.std.specs.Ordering.{nat_cmp, match_ordering}
use Rattle.std.specs.declared.cmp.Ordering.{Ordering}
use Rattle.std.specs.declared.cmp.Ordering.TheVariants.{Less, Equal, Greater}
use Rattle.names.specs.declared.resource.Scope.{Scope}
use Rattle.names.specs.declared.resource.Scope.TheVariants.{Namespaced, Cluster}
use Rattle.names.specs.Key.{Key, fits_scope, is_key, is_name_of}
use Rattle.names.specs.Name.{is_namespace}
use Rattle.names.specs.Resource.{row}
use Rattle.histories.specs.declared.stored.Stored.{Stored}
use Rattle.requests.specs.Namespaces.{and_name, names_among}

abbrev pub Name : Type 0
Name = List ℕ × Unit {0}

abbrev pub bytes_cmp : List ℕ → List ℕ → Ordering
bytes_cmp a b = slice_cmp nat_cmp a b

module _ {K : Type 0} (text : K → List ℕ) where
  abbrev pub by_text : K → K → Ordering
  by_text a b = slice_cmp nat_cmp (text a) (text b)

  -- A key goes to its place in a set as its text does among names.
  pub inserted : (k : K) (ks : List K) (names : List Name) → map text ks ≡ map (λ n. n.0) names
      → map text (insert_key by_text ks k) ≡ map (λ n. n.0) (put bytes_cmp (text k) tt names)
  inserted k [] [] same = refl
  inserted k [] (n ∷ ns) same = cc
  inserted k (x ∷ xs) [] same = cc
  inserted k (x ∷ xs) (n ∷ ns) same =
      let first : text x ≡ n.0 = cc in
      let rest : map text xs ≡ map (λ n. n.0) ns = cc in
      step (by_text k x) first (inserted k xs ns rest)
      ∙ ap (λ (t : List ℕ). map (λ (m : Name). m.0) (by_order (bytes_cmp (text k) t) ((text k, tt) ∷ n ∷ ns) ((n.0, tt) ∷ ns) (n ∷ put bytes_cmp (text k) tt ns))) first
    where
      step : (o : Ordering) → text x ≡ n.0 → map text (insert_key by_text xs k) ≡ map (λ n. n.0) (put bytes_cmp (text k) tt ns)
          → map text (match_ordering o (k ∷ x ∷ xs) (x ∷ xs) (x ∷ insert_key by_text xs k))
          ≡ map (λ (m : Name). m.0) (by_order o ((text k, tt) ∷ n ∷ ns) ((n.0, tt) ∷ ns) (n ∷ put bytes_cmp (text k) tt ns))
      step Less first more = ap (λ (rest : List (List ℕ)). text k ∷ rest) same
      step Equal first more = same
      step Greater first more = λ i. first i ∷ more i

-- What holds of a name and of others holds of all of them.
pub put_all : (P : List ℕ → Type 0) (k : List ℕ) (names : List Name) → P k → AllByRecursion P (map (λ n. n.0) names)
    → AllByRecursion P (map (λ n. n.0) (put bytes_cmp k tt names))
put_all P k [] is all = (is, tt)
put_all P k (n ∷ ns) is all = step (bytes_cmp k n.0) (put_all P k ns is all.1)
  where
    step : (o : Ordering) → AllByRecursion P (map (λ n. n.0) (put bytes_cmp k tt ns))
        → AllByRecursion P (map (λ (m : Name). m.0) (by_order o ((k, tt) ∷ n ∷ ns) ((n.0, tt) ∷ ns) (n ∷ put bytes_cmp k tt ns)))
    step Less more = (is, all)
    step Equal more = all
    step Greater more = (all.0, more)

-- ---- the name that an object adds

one_name : (s : Scope) (namespace : List ℕ) (names : List Name) → s ≡ Namespaced → and_name s namespace names ≡ put bytes_cmp namespace tt names
one_name s namespace names is = ap (λ (x : Scope). and_name x namespace names) is

no_name : (s : Scope) (namespace : List ℕ) (names : List Name) → (s ≡ Namespaced → ⊥) → and_name s namespace names ≡ names
no_name Namespaced namespace names other = absurd (other refl)
no_name Cluster namespace names other = refl

pub sound_namespace : (k : Key) → IsTrue (is_key k) → (row k.resource).scope ≡ Namespaced → IsTrue (is_namespace k.namespace)
sound_namespace k is namespaced =
    ap (λ (s : Scope). fits_scope s k.namespace) (sym namespaced) ∙ (and_parts (fits_scope (row k.resource).scope k.namespace) (is_name_of k.resource k.name) is).0

sorted-and_name : (s : Scope) (namespace : List ℕ) (names : List Name) → T (is_sorted bytes_cmp names) → T (is_sorted bytes_cmp (and_name s namespace names))
sorted-and_name Namespaced namespace names sorted = is_sorted-put bytes_cmp nat_list_cmp_total namespace tt names sorted
sorted-and_name Cluster namespace names sorted = sorted

-- The names ascend, each once.
pub sorted_names : {P : Type 0} (os : List (Key × Stored P)) → T (is_sorted bytes_cmp (names_among os))
sorted_names [] = tt
sorted_names (o ∷ os) = sorted-and_name (row o.0.resource).scope o.0.namespace (names_among os) (sorted_names os)

-- ---- from the last object on

module _ {X : Type 0} (xs left rest : List X) (x : X) (was : left ≡ take (length left) xs) (is : left ≡ rest ++ x ∷ []) where
  all_again : rest ++ (x ∷ drop (length left) xs) ≡ xs
  all_again =
      sym (append_assoc rest (x ∷ []) (drop (length left) xs))
      ∙ ap (λ (front : List X). front ++ drop (length left) xs) (sym is ∙ was)
      ∙ take-append-drop (length left) xs

  -- What is left then are the first ones still,
  pub left_then : rest ≡ take (length rest) xs
  left_then = sym (take_at rest (x ∷ drop (length left) xs) (length rest) refl) ∙ ap (take (length rest)) all_again

  -- and one more stands behind them.
  behind_then : drop (length rest) xs ≡ x ∷ drop (length left) xs
  behind_then = sym (ap (drop (length rest)) all_again) ∙ drop_at rest (x ∷ drop (length left) xs) (length rest) refl

module _ {P : Type 0} (os left rest : List (Key × Stored P)) (o : Key × Stored P) (was : left ≡ take (length left) os) (is : left ≡ rest ++ o ∷ []) where
  -- A namespaced object adds its namespace to the names, another one adds none.
  pub names_more : (row o.0.resource).scope ≡ Namespaced → names_among (drop (length rest) os) ≡ put bytes_cmp o.0.namespace tt (names_among (drop (length left) os))
  names_more namespaced =
      ap (λ (some : List (Key × Stored P)). names_among some) (behind_then os left rest o was is)
      ∙ one_name (row o.0.resource).scope o.0.namespace (names_among (drop (length left) os)) namespaced

  pub names_same : ((row o.0.resource).scope ≡ Namespaced → ⊥) → names_among (drop (length rest) os) ≡ names_among (drop (length left) os)
  names_same other =
      ap (λ (some : List (Key × Stored P)). names_among some) (behind_then os left rest o was is)
      ∙ no_name (row o.0.resource).scope o.0.namespace (names_among (drop (length left) os)) other
