-- Cut entries ascend where the entries do.
use Rattle.std.proofs.Common.{arith, ◌≡◌, ◌∙◌, sym, ap, subst, refl, ◌⊎◌, inl, inr, ◌<◌, ◌≤◌, ◌+◌, Bool, true, ◌&&◌, ℕ, zero, suc, List, [], ◌∷◌, ◌++◌, map, length, Option, Some, None, append_assoc}
use Rattle.std.proofs.lemmas.Bool.{and_parts}
use Rattle.std.specs.Cmp.Lexicographic.{slice_cmp}
use Rattle.std.specs.FinMap.{is_sorted, nat_cmp-IsAntisymmetric}
use Rattle.std.specs.FinMap.Entries.{below_all}
use Rattle.std.specs.List.{AllByRecursion, range_with_len}
use Rattle.std.specs.Ordering.{nat_cmp, ordering_then, is_lt}
use Rattle.std.specs.declared.cmp.Ordering.{Ordering}
use Rattle.std.specs.declared.cmp.Ordering.TheVariants.{Less, Equal, Greater}
use Rattle.byteorder.specs.Endian.{big_bytes}
use Rattle.pages.specs.Page.{Entry, bytes_cmp}
use Rattle.records.proofs.Numbers.{less_is, same_is, less_numbers}
use Rattle.chunks.specs.Chunks.{count_of, chunk_entry, stem_of, cut_by, cut_entry, cuts, HasChunks, IsCuttable, AreCuttable}
use Rattle.chunks.proofs.Cuts.{few_chunks}

-- ---- keys whose chunks stand where they do

-- how many zero bytes a text has
abbrev pub zeros : List ℕ → ℕ
zeros [] = 0
zeros (zero ∷ xs) = suc (zeros xs)
zeros (suc x ∷ xs) = zeros xs

-- The key of an object has one zero byte, that of plans any, and that of an event eight bytes behind its mark.
abbrev pub HasPlace : (key : List ℕ) → Type 0
HasPlace key =
    ((rest : List ℕ) × (key ≡ 1 ∷ rest) × (zeros rest ≡ 1)) ⊎ (((rest : List ℕ) × (key ≡ 2 ∷ rest)) ⊎ ((rest : List ℕ) × (key ≡ 3 ∷ rest) × (length rest ≡ 8)))

abbrev pub HavePlaces : List Entry → Type 0
HavePlaces es = AllByRecursion (λ e. HasPlace e.0) es

pub zeros-append : (xs ys : List ℕ) → zeros (xs ++ ys) ≡ zeros xs + zeros ys
zeros-append [] ys = omega arith
zeros-append (zero ∷ xs) ys = omega (arith, zeros-append xs ys)
zeros-append (suc x ∷ xs) ys = zeros-append xs ys

-- ---- the order of keys

-- a zero byte ends a text that goes on with none in the other
ends : (p q us vs : List ℕ) → slice_cmp nat_cmp p q ≡ Less → ((rest : List ℕ) → q ≡ p ++ 0 ∷ rest → ⊥) → slice_cmp nat_cmp (p ++ 0 ∷ us) (q ++ 0 ∷ vs) ≡ Less
ends [] [] us vs less not = cc
ends [] (zero ∷ q) us vs less not = absurd (not q refl)
ends [] (suc y ∷ q) us vs less not = ap (λ o. ordering_then o (slice_cmp nat_cmp us (q ++ 0 ∷ vs))) (less_is 0 (suc y) (omega arith))
ends (x ∷ p) [] us vs less not = cc
ends (x ∷ p) (y ∷ q) us vs less not =
    elim (nat_cmp x y) as (λ o. nat_cmp x y ≡ o → ordering_then o (slice_cmp nat_cmp p q) ≡ Less → ordering_then o (slice_cmp nat_cmp (p ++ 0 ∷ us) (q ++ 0 ∷ vs)) ≡ Less) [
      | Less ↦ λ is h. refl
      | Equal ↦ λ is h. ends p q us vs h (λ rest same. not rest (λ i. sym (nat_cmp-IsAntisymmetric x y is) i ∷ same i))
      | Greater ↦ λ is h. h
    ] refl less

-- texts of one length are told apart before they end
level : (p q us vs : List ℕ) → slice_cmp nat_cmp p q ≡ Less → length p ≡ length q → slice_cmp nat_cmp (p ++ us) (q ++ vs) ≡ Less
level [] [] us vs less same = cc
level [] (y ∷ q) us vs less same = absurd (omega (arith, same))
level (x ∷ p) [] us vs less same = cc
level (x ∷ p) (y ∷ q) us vs less same =
    elim (nat_cmp x y) as (λ o. ordering_then o (slice_cmp nat_cmp p q) ≡ Less → ordering_then o (slice_cmp nat_cmp (p ++ us) (q ++ vs)) ≡ Less) [
      | Less ↦ λ h. refl
      | Equal ↦ λ h. level p q us vs h (omega (arith, same))
      | Greater ↦ λ h. h
    ] less

behind_same : (xs us vs : List ℕ) → slice_cmp nat_cmp (xs ++ us) (xs ++ vs) ≡ slice_cmp nat_cmp us vs
behind_same [] us vs = refl
behind_same (x ∷ xs) us vs = ap (λ o. ordering_then o (slice_cmp nat_cmp (xs ++ us) (xs ++ vs))) (same_is x x refl) ∙ behind_same xs us vs

-- what is a chunk's key of the entry with this key
abbrev pub KeyOf : (key : List ℕ) → (chunk : List ℕ) → Type 0
KeyOf key chunk = ((stem_of key ≡ None) × (chunk ≡ key)) ⊎ ((stem : List ℕ) × (stem_of key ≡ Some stem) × (n : ℕ) × (chunk ≡ stem ++ big_bytes 2 n))

some_is : {A : Type 0} {x y : A} → Some x ≡ Some y → x ≡ y
some_is same = cc

of_object : (rest chunk : List ℕ) → KeyOf (1 ∷ rest) chunk → (us : List ℕ) × (chunk ≡ 1 ∷ (rest ++ 0 ∷ us))
of_object rest chunk (inl whole) = cc
of_object rest chunk (inr c) =
    let stem : (1 ∷ rest) ++ 0 ∷ [] ≡ c.0 = some_is c.1 in
    (big_bytes 2 c.2, c.3 ∙ ap (λ (s : List ℕ). s ++ big_bytes 2 c.2) (sym stem) ∙ append_assoc (1 ∷ rest) (0 ∷ []) (big_bytes 2 c.2))

of_plans : (rest chunk : List ℕ) → KeyOf (2 ∷ rest) chunk → chunk ≡ 2 ∷ rest
of_plans rest chunk (inl whole) = whole.1
of_plans rest chunk (inr c) = cc

of_event : (rest chunk : List ℕ) → KeyOf (3 ∷ rest) chunk → (us : List ℕ) × (chunk ≡ 3 ∷ (rest ++ us))
of_event rest chunk (inl whole) = cc
of_event rest chunk (inr c) =
    let stem : 3 ∷ rest ≡ c.0 = some_is c.1 in
    (big_bytes 2 c.2, c.3 ∙ ap (λ (s : List ℕ). s ++ big_bytes 2 c.2) (sym stem))

module _ (k l a b : List ℕ) where
  abbrev Below : Type 0
  Below = bytes_cmp a b ≡ Less

  object_object : (p q : List ℕ) → zeros p ≡ 1 → zeros q ≡ 1 → bytes_cmp (1 ∷ p) (1 ∷ q) ≡ Less → KeyOf (1 ∷ p) a → KeyOf (1 ∷ q) b → Below
  object_object p q one other less first second =
      let x = of_object p a first in
      let y = of_object q b second in
      (λ i. bytes_cmp (x.1 i) (y.1 i))
      ∙ ends p q x.0 y.0 less (λ rest same. omega (arith, one, other, ap zeros same, zeros-append p (0 ∷ rest)))

  event_event : (p q : List ℕ) → length p ≡ 8 → length q ≡ 8 → bytes_cmp (3 ∷ p) (3 ∷ q) ≡ Less → KeyOf (3 ∷ p) a → KeyOf (3 ∷ q) b → Below
  event_event p q one other less first second =
      let x = of_event p a first in
      let y = of_event q b second in
      (λ i. bytes_cmp (x.1 i) (y.1 i)) ∙ level p q x.0 y.0 less (one ∙ sym other)

  plans_plans : (p q : List ℕ) → bytes_cmp (2 ∷ p) (2 ∷ q) ≡ Less → KeyOf (2 ∷ p) a → KeyOf (2 ∷ q) b → Below
  plans_plans p q less first second = (λ i. bytes_cmp (of_plans p a first i) (of_plans q b second i)) ∙ less

  -- Each chunk of a lesser key is below each of a greater one.
  pub below_chunk : HasPlace k → HasPlace l → bytes_cmp k l ≡ Less → KeyOf k a → KeyOf l b → Below
  below_chunk (inl p) (inl q) less first second =
      object_object p.0 q.0 p.2 q.2 (sym (λ i. bytes_cmp (p.1 i) (q.1 i)) ∙ less) (subst (λ (x : List ℕ). KeyOf x a) p.1 first) (subst (λ (x : List ℕ). KeyOf x b) q.1 second)
  below_chunk (inl p) (inr (inl q)) less first second =
      let x = of_object p.0 a (subst (λ (x : List ℕ). KeyOf x a) p.1 first) in
      let y = of_plans q.0 b (subst (λ (x : List ℕ). KeyOf x b) q.1 second) in
      λ i. bytes_cmp (x.1 i) (y i)
  below_chunk (inl p) (inr (inr q)) less first second =
      let x = of_object p.0 a (subst (λ (x : List ℕ). KeyOf x a) p.1 first) in
      let y = of_event q.0 b (subst (λ (x : List ℕ). KeyOf x b) q.1 second) in
      λ i. bytes_cmp (x.1 i) (y.1 i)
  below_chunk (inr (inl p)) (inl q) less first second = let never : Greater ≡ Less = sym (λ i. bytes_cmp (p.1 i) (q.1 i)) ∙ less in cc
  below_chunk (inr (inl p)) (inr (inl q)) less first second =
      plans_plans p.0 q.0 (sym (λ i. bytes_cmp (p.1 i) (q.1 i)) ∙ less) (subst (λ (x : List ℕ). KeyOf x a) p.1 first) (subst (λ (x : List ℕ). KeyOf x b) q.1 second)
  below_chunk (inr (inl p)) (inr (inr q)) less first second =
      let x = of_plans p.0 a (subst (λ (x : List ℕ). KeyOf x a) p.1 first) in
      let y = of_event q.0 b (subst (λ (x : List ℕ). KeyOf x b) q.1 second) in
      λ i. bytes_cmp (x i) (y.1 i)
  below_chunk (inr (inr p)) (inl q) less first second = let never : Greater ≡ Less = sym (λ i. bytes_cmp (p.1 i) (q.1 i)) ∙ less in cc
  below_chunk (inr (inr p)) (inr (inl q)) less first second = let never : Greater ≡ Less = sym (λ i. bytes_cmp (p.1 i) (q.1 i)) ∙ less in cc
  below_chunk (inr (inr p)) (inr (inr q)) less first second =
      event_event p.0 q.0 p.2 q.2 (sym (λ i. bytes_cmp (p.1 i) (q.1 i)) ∙ less) (subst (λ (x : List ℕ). KeyOf x a) p.1 first) (subst (λ (x : List ℕ). KeyOf x b) q.1 second)

-- ---- lists

abbrev pub IsBelow : List ℕ → List Entry → Type 0
IsBelow key es = below_all bytes_cmp key es ≡ true

abbrev pub Ascends : List Entry → Type 0
Ascends es = is_sorted bytes_cmp es ≡ true

both : (a b : Bool) → a ≡ true → b ≡ true → (a && b) ≡ true
both a b p q = ap (λ x. x && b) p ∙ q

less_test : (o : Ordering) → o ≡ Less → is_lt o ≡ true
less_test o less = ap is_lt less

less_from : (o : Ordering) → is_lt o ≡ true → o ≡ Less
less_from Less is = refl
less_from Equal is = cc
less_from Greater is = cc

below_append : (key : List ℕ) (xs ys : List Entry) → IsBelow key xs → IsBelow key ys → IsBelow key (xs ++ ys)
below_append key [] ys a b = b
below_append key (x ∷ xs) ys a b =
    let parts = and_parts (is_lt (bytes_cmp key x.0)) (below_all bytes_cmp key xs) a in
    both (is_lt (bytes_cmp key x.0)) (below_all bytes_cmp key (xs ++ ys)) parts.0 (below_append key xs ys parts.1 b)

pub below_behind : (key : List ℕ) (xs ys : List Entry) → IsBelow key (xs ++ ys) → IsBelow key ys
below_behind key [] ys below = below
below_behind key (x ∷ xs) ys below = below_behind key xs ys (and_parts (is_lt (bytes_cmp key x.0)) (below_all bytes_cmp key (xs ++ ys)) below).1

pub ascends_behind : (xs ys : List Entry) → Ascends (xs ++ ys) → Ascends ys
ascends_behind [] ys ascends = ascends
ascends_behind (x ∷ xs) ys ascends = ascends_behind xs ys (and_parts (below_all bytes_cmp x.0 (xs ++ ys)) (is_sorted bytes_cmp (xs ++ ys)) ascends).1

ascends_append : (xs ys : List Entry) → Ascends xs → Ascends ys → AllByRecursion (λ x. IsBelow x.0 ys) xs → Ascends (xs ++ ys)
ascends_append [] ys a b below = b
ascends_append (x ∷ xs) ys a b below =
    let parts = and_parts (below_all bytes_cmp x.0 xs) (is_sorted bytes_cmp xs) a in
    both (below_all bytes_cmp x.0 (xs ++ ys)) (is_sorted bytes_cmp (xs ++ ys))
    (below_append x.0 xs ys parts.0 below.0) (ascends_append xs ys parts.1 b below.1)

-- ---- chunks of one entry

module _ (stem value : List ℕ) where
  each_chunk : (Q : Entry → Type 0) → ((n : ℕ) → Q (chunk_entry stem value n)) → (from count : ℕ) → AllByRecursion Q (map (chunk_entry stem value) (range_with_len from count))
  each_chunk Q each from zero = tt
  each_chunk Q each from (suc count) = (each from, each_chunk Q each (from + 1) count)

  below_each : (key : List ℕ) → ((n : ℕ) → bytes_cmp key (stem ++ big_bytes 2 n) ≡ Less) → (from count : ℕ) → IsBelow key (map (chunk_entry stem value) (range_with_len from count))
  below_each key each from zero = refl
  below_each key each from (suc count) =
      both (is_lt (bytes_cmp key (stem ++ big_bytes 2 from))) (below_all bytes_cmp key (map (chunk_entry stem value) (range_with_len (from + 1) count)))
      (less_test (bytes_cmp key (stem ++ big_bytes 2 from)) (each from)) (below_each key each (from + 1) count)

  below_later : (n from count : ℕ) → n < from → from + count ≤ 65536 → IsBelow (stem ++ big_bytes 2 n) (map (chunk_entry stem value) (range_with_len from count))
  below_later n from zero low few = refl
  below_later n from (suc count) low few =
      let less : bytes_cmp (stem ++ big_bytes 2 n) (stem ++ big_bytes 2 from) ≡ Less = behind_same stem (big_bytes 2 n) (big_bytes 2 from) ∙ less_numbers 2 n from low (omega arith) in
      both (is_lt (bytes_cmp (stem ++ big_bytes 2 n) (stem ++ big_bytes 2 from))) (below_all bytes_cmp (stem ++ big_bytes 2 n) (map (chunk_entry stem value) (range_with_len (from + 1) count)))
      (less_test (bytes_cmp (stem ++ big_bytes 2 n) (stem ++ big_bytes 2 from)) less) (below_later n (from + 1) count (omega arith) (omega arith))

  chunks_ascend : (from count : ℕ) → from + count ≤ 65536 → Ascends (map (chunk_entry stem value) (range_with_len from count))
  chunks_ascend from zero few = refl
  chunks_ascend from (suc count) few =
      both (below_all bytes_cmp (stem ++ big_bytes 2 from) (map (chunk_entry stem value) (range_with_len (from + 1) count)))
      (is_sorted bytes_cmp (map (chunk_entry stem value) (range_with_len (from + 1) count)))
      (below_later from (from + 1) count (omega arith) (omega arith)) (chunks_ascend (from + 1) count (omega arith))

-- ---- entries

-- an entry's chunks ascend
one_ascends : (e : Entry) → IsCuttable e → Ascends (cut_entry e)
one_ascends e can = step (stem_of e.0) can
  where
    step : (s : Option (List ℕ)) → HasChunks s e → Ascends (cut_by s e)
    step None can = refl
    step (Some stem) can = chunks_ascend stem e.1 0 (count_of e.1) (omega (arith, (few_chunks e.1 can.0 can.1).1))

-- each of them has a key of the entry
each_key : (e : Entry) (Q : Entry → Type 0) → ((chunk : Entry) → KeyOf e.0 chunk.0 → Q chunk) → AllByRecursion Q (cut_entry e)
each_key e Q each = step (stem_of e.0) refl
  where
    step : (s : Option (List ℕ)) → stem_of e.0 ≡ s → AllByRecursion Q (cut_by s e)
    step None is = (each e (inl (is, refl)), tt)
    step (Some stem) is = each_chunk stem e.1 Q (λ n. each (chunk_entry stem e.1 n) (inr (stem, is, n, refl))) 0 (count_of e.1)

-- a chunk's key is below all chunks of a greater entry
below_one : (k a : List ℕ) (e : Entry) → HasPlace k → HasPlace e.0 → bytes_cmp k e.0 ≡ Less → KeyOf k a → IsBelow a (cut_entry e)
below_one k a e place other less key = step (stem_of e.0) refl
  where
    step : (s : Option (List ℕ)) → stem_of e.0 ≡ s → IsBelow a (cut_by s e)
    step None is = both (is_lt (bytes_cmp a e.0)) true (less_test (bytes_cmp a e.0) (below_chunk k e.0 a e.0 place other less key (inl (is, refl)))) refl
    step (Some stem) is =
        below_each stem e.1 a (λ n. below_chunk k e.0 a (stem ++ big_bytes 2 n) place other less key (inr (stem, is, n, refl))) 0 (count_of e.1)

below_cuts : (k a : List ℕ) (es : List Entry) → HasPlace k → HavePlaces es → IsBelow k es → KeyOf k a → IsBelow a (cuts es)
below_cuts k a [] place places below key = refl
below_cuts k a (e ∷ es) place places below key =
    let parts = and_parts (is_lt (bytes_cmp k e.0)) (below_all bytes_cmp k es) below in
    below_append a (cut_entry e) (cuts es) (below_one k a e place places.0 (less_from (bytes_cmp k e.0) parts.0) key) (below_cuts k a es place places.1 parts.1 key)

-- Cut entries ascend.
pub cuts_ascend : (es : List Entry) → AreCuttable es → HavePlaces es → Ascends es → Ascends (cuts es)
cuts_ascend [] can places ascends = refl
cuts_ascend (e ∷ es) can places ascends =
    let parts = and_parts (below_all bytes_cmp e.0 es) (is_sorted bytes_cmp es) ascends in
    ascends_append (cut_entry e) (cuts es) (one_ascends e can.0) (cuts_ascend es can.1 places.1 parts.1)
    (each_key e (λ x. IsBelow x.0 (cuts es)) (λ x key. below_cuts e.0 x.0 es places.0 places.1 parts.0 key))
