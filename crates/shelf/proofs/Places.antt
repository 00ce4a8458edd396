-- What is found among the first keys of pages.
use denote.Param.Members.{Mut}
use Rattle.std.proofs.Common.{Bor, ◌≡◌, ◌⊎◌, inl, inr, ⊎_elim, ℕ, zero, suc, Bool, true, false, not, ◌||◌, List, [], ◌∷◌, ◌++◌, length, map, get_or, take, ◌+◌, ◌-◌, ◌≤◌, ◌<◌, refl, sym, ap, subst, ◌∙◌, arith}
use Rattle.std.proofs.lemmas.Bool.{cases_lt, true≢false}
use Rattle.std.proofs.lemmas.Cmp.{nat_list_cmp_total}
use Rattle.std.proofs.lemmas.List.{length-map}
use Rattle.std.proofs.lemmas.List.Sorted.{IsPartitionPoint-from_clause}
use Rattle.std.specs.FinMap.{find}
use Rattle.std.specs.Fn.{Called, ComputesKey}
use Rattle.std.specs.List.Sorted.{IsPartitionedBy, IsPartitionPoint}
use Rattle.std.specs.Ordering.{is_lt}
use Rattle.std.specs.Prelude.{None}
use Rattle.std.specs.declared.alloc.Global.{Global}
use Rattle.std.specs.declared.cmp.Ordering.{Ordering}
use Rattle.std.specs.declared.cmp.Ordering.TheVariants.{Less, Equal, Greater}
use Rattle.std.specs.declared.vec.Vec.{Vec}
use Rattle.pages.specs.Page.{Entry, bytes_cmp}
use Rattle.checkpoint.specs.Index.{keys_of}
use Rattle.checkpoint.specs.Pages.{joined, first_key, NoneEmpty, IsIndex}
use Rattle.shelf.specs.Places.{is_at_or_below, may_begin, IsSplit}
use Rattle.shelf.specs.Prefix.{begins, beginning}
use Rattle.shelf.proofs.Order.{AllBelow, turned}
use Rattle.shelf.proofs.Prefixes.{begins_between}
use Rattle.shelf.proofs.Finding.{front_below, found_nowhere, found_at}
use Rattle.shelf.proofs.Ranging.{pages_from, range_all}

-- ---- the tests

low-from_test : (key first : List ℕ) → is_at_or_below key first ≡ true → bytes_cmp key first ≡ Less → ⊥
low-from_test key first h less = true≢false (sym h ∙ ap (λ o. not (is_lt o)) less)

test-from_low : (key first : List ℕ) → (bytes_cmp key first ≡ Less → ⊥) → is_at_or_below key first ≡ true
test-from_low key first h = step (bytes_cmp key first) h
  where
    step : (o : Ordering) → (o ≡ Less → ⊥) → not (is_lt o) ≡ true
    step Less never = absurd (never refl)
    step Equal never = refl
    step Greater never = refl

high-from_test : (key first : List ℕ) → is_at_or_below key first ≡ false → bytes_cmp key first ≡ Less
high-from_test key first h = step (bytes_cmp key first) h
  where
    step : (o : Ordering) → not (is_lt o) ≡ false → o ≡ Less
    step Less is = refl
    step Equal is = cc
    step Greater is = cc

or_left : (a b : Bool) → a ≡ true → (a || b) ≡ true
or_left true b h = refl
or_left false b h = cc

or_right : (a b : Bool) → b ≡ true → (a || b) ≡ true
or_right true b h = refl
or_right false b h = h

neither : (a b : Bool) → (a || b) ≡ false → (a ≡ false) × (b ≡ false)
neither true b h = cc
neither false b h = (refl, h)

either : (a b : Bool) → (a || b) ≡ true → (a ≡ true) ⊎ (b ≡ true)
either true b h = inl refl
either false b h = inr h

-- ---- first keys

get_map : {A B : Type 0} (f : A → B) (xs : List A) (i : ℕ) (d : A) (e : B) → i < length xs → get_or (map f xs) i e ≡ f (get_or xs i d)
get_map f [] i d e inside = absurd (omega arith)
get_map f (x ∷ xs) zero d e inside = refl
get_map f (x ∷ xs) (suc i) d e inside = get_map f xs i d e (omega arith)

get_take : {A : Type 0} (xs : List A) (n i : ℕ) (d : A) → i < n → get_or (take n xs) i d ≡ get_or xs i d
get_take [] zero i d inside = refl
get_take [] (suc n) i d inside = refl
get_take (x ∷ xs) zero i d inside = absurd (omega arith)
get_take (x ∷ xs) (suc n) zero d inside = refl
get_take (x ∷ xs) (suc n) (suc i) d inside = get_take xs n i d (omega arith)

length_taken : {A : Type 0} (xs : List A) (n : ℕ) → n ≤ length xs → length (take n xs) ≡ n
length_taken [] zero inside = refl
length_taken [] (suc n) inside = absurd (omega arith)
length_taken (x ∷ xs) zero inside = refl
length_taken (x ∷ xs) (suc n) inside = ap suc (length_taken xs n (omega arith))

some_taken : (pages : List (List Entry)) (n : ℕ) → NoneEmpty pages → NoneEmpty (take n pages)
some_taken [] zero some = tt
some_taken [] (suc n) some = tt
some_taken (page ∷ pages) zero some = tt
some_taken (page ∷ pages) (suc n) some = (some.0, some_taken pages n some.1)

below_front : (key : List ℕ) (a b : List Entry) → AllBelow key (a ++ b) → AllBelow key b
below_front key [] b below = below
below_front key (entry ∷ a) b below = below_front key a b below.1

first_below : (key : List ℕ) (pages : List (List Entry)) (i : ℕ) → NoneEmpty pages → i < length pages → AllBelow key (joined pages)
    → bytes_cmp (first_key (get_or pages i [])) key ≡ Less
first_below key [] i some inside below = absurd (omega arith)
first_below key ([] ∷ pages) zero some inside below = absurd (some.0 refl)
first_below key ((entry ∷ page) ∷ pages) zero some inside below = below.0
first_below key (page ∷ pages) (suc i) some inside below = first_below key pages i some.1 (omega arith) (below_front key page (joined pages) below)

itself : (key : List ℕ) → bytes_cmp key key ≡ Less → ⊥
itself key h = let never : Less ≡ Greater = sym h ∙ turned key key h in cc

module _ (firsts : List (List ℕ)) (pages : List (List Entry)) (index : IsIndex firsts pages) where
  pub firsts_length : length firsts ≡ length pages
  firsts_length = ap length index.are ∙ length-map pages first_key

  pub first_at : (i : ℕ) → i < length pages → get_or firsts i [] ≡ first_key (get_or pages i [])
  first_at i inside = ap (λ (keys : List (List ℕ)). get_or keys i []) index.are ∙ get_map first_key pages i [] [] inside

  firsts_rise : (i j : ℕ) → i < j → j < length pages → bytes_cmp (get_or firsts i []) (get_or firsts j []) ≡ Less
  firsts_rise i j order inside =
      let key : List ℕ = first_key (get_or pages j []) in
      let below = front_below pages j key index.some index.ascending inside (itself key) in
      let taken : length (take j pages) ≡ j = length_taken pages j (omega arith) in
      let less = first_below key (take j pages) i (some_taken pages j index.some) (omega (arith, taken, order)) below in
      ap (λ (a : List ℕ). bytes_cmp a (get_or firsts j [])) (first_at i (omega arith))
      ∙ ap (bytes_cmp (first_key (get_or pages i []))) (first_at j inside)
      ∙ ap (λ (page : List Entry). bytes_cmp (first_key page) key) (sym (get_take pages j i [] order))
      ∙ less

  -- what is not above a key comes before what is
  at_parted : (key : List ℕ) (i j : ℕ) → i ≤ j → j < length pages → is_at_or_below key (get_or firsts j []) ≡ true → is_at_or_below key (get_or firsts i []) ≡ true
  at_parted key i j order inside h =
      ⊎_elim
      (λ less. test-from_low key (get_or firsts i [])
      (λ above. low-from_test key (get_or firsts j []) h
      (nat_list_cmp_total.trans key (get_or firsts i []) (get_or firsts j []) above (firsts_rise i j less inside))))
      (λ same. let is : i ≡ j = omega (arith, order, same) in ap (λ k. is_at_or_below key (get_or firsts k [])) is ∙ h)
      (cases_lt i j)

  with_parted : (prefix : List ℕ) (i j : ℕ) → i ≤ j → j < length pages → may_begin prefix (get_or firsts j []) ≡ true → may_begin prefix (get_or firsts i []) ≡ true
  with_parted prefix i j order inside h =
      ⊎_elim
      (λ less. ⊎_elim
      (λ low. or_left (is_at_or_below prefix (get_or firsts i [])) (begins prefix (get_or firsts i [])) (at_parted prefix i j order inside low))
      (λ high. step (is_at_or_below prefix (get_or firsts i [])) refl less high)
      (either (is_at_or_below prefix (get_or firsts j [])) (begins prefix (get_or firsts j [])) h))
      (λ same. let is : i ≡ j = omega (arith, order, same) in ap (λ k. may_begin prefix (get_or firsts k [])) is ∙ h)
      (cases_lt i j)
    where
      not_less : (a b : List ℕ) → bytes_cmp a b ≡ Less → bytes_cmp b a ≡ Less → ⊥
      not_less a b p q = let never : Less ≡ Greater = sym q ∙ turned a b p in cc

      step : (b : Bool) → is_at_or_below prefix (get_or firsts i []) ≡ b → i < j → begins prefix (get_or firsts j []) ≡ true → may_begin prefix (get_or firsts i []) ≡ true
      step true low less high = or_left (is_at_or_below prefix (get_or firsts i [])) (begins prefix (get_or firsts i [])) low
      step false above less high =
          or_right (is_at_or_below prefix (get_or firsts i [])) (begins prefix (get_or firsts i []))
          (begins_between prefix (get_or firsts i []) (get_or firsts j []) (high-from_test prefix (get_or firsts i []) above) high
          (not_less (get_or firsts i []) (get_or firsts j []) (firsts_rise i j less inside)))

  -- ---- a key

  pub brought_none : (key : List ℕ) → IsSplit (is_at_or_below key) firsts 0 → find bytes_cmp key (joined pages) ≡ None
  brought_none key split =
      found_nowhere pages key index.some index.ascending
      (λ inside. ap (bytes_cmp key) (sym (first_at 0 inside)) ∙ high-from_test key (get_or firsts 0 []) (split.behind 0 (omega arith) (omega (arith, firsts_length, inside))))

  pub brought_some : (key : List ℕ) (count n : ℕ) → IsSplit (is_at_or_below key) firsts count → n + 1 ≡ count → count ≤ length pages
      → find bytes_cmp key (joined pages) ≡ find bytes_cmp key (get_or pages n [])
  brought_some key count n split is bound =
      let inside : n < length pages = omega (arith, is, bound) in
      found_at pages n key index.some index.ascending inside
      (λ less. low-from_test key (get_or firsts n []) (split.before n (omega (arith, is)) (omega (arith, firsts_length, inside))) (ap (bytes_cmp key) (first_at n inside) ∙ less))
      (λ more. ap (bytes_cmp key) (sym (first_at (n + 1) more)) ∙ high-from_test key (get_or firsts (n + 1) []) (split.behind (n + 1) (omega (arith, is)) (omega (arith, firsts_length, more))))

  -- ---- a prefix

  pub range_order : (prefix : List ℕ) (low high : ℕ) → IsSplit (is_at_or_below prefix) firsts low → IsSplit (may_begin prefix) firsts high → low ≤ length pages → low ≤ high
  range_order prefix low high lows highs bound =
      ⊎_elim
      (λ less.
      let inside : high < length firsts = omega (arith, firsts_length, less, bound) in
      let first : List ℕ = get_or firsts high [] in
      let fails = (neither (is_at_or_below prefix first) (begins prefix first) (highs.behind high (omega arith) inside)).0 in
      absurd (true≢false (sym (lows.before high less inside) ∙ fails)))
      (λ le. le)
      (cases_lt high low)

  pub range_of : (prefix : List ℕ) (low high start : ℕ) → IsSplit (is_at_or_below prefix) firsts low → IsSplit (may_begin prefix) firsts high
      → low ≤ length pages → high ≤ length pages → start ≡ low - 1
      → beginning prefix (joined pages) ≡ beginning prefix (joined (pages_from pages start (high - start)))
  range_of prefix low high start lows highs low_bound high_bound is =
      let order = range_order prefix low high lows highs low_bound in
      range_all pages start high prefix index.some index.ascending (omega (arith, order, is)) (from low lows low_bound is) (to (cases_lt high (length pages)))
    where
      from : (low : ℕ) → IsSplit (is_at_or_below prefix) firsts low → low ≤ length pages → start ≡ low - 1
          → (start ≡ 0) ⊎ ((start < length pages) × (bytes_cmp prefix (first_key (get_or pages start [])) ≡ Less → ⊥))
      from zero lows bound is = inl (omega (arith, is))
      from (suc n) lows bound is =
          let inside : start < length pages = omega (arith, is, bound) in
          inr (
            inside,
            λ less. low-from_test prefix (get_or firsts start []) (lows.before start (omega (arith, is)) (omega (arith, firsts_length, inside)))
                (ap (bytes_cmp prefix) (first_at start inside) ∙ less),
          )

      to : (high < length pages) ⊎ (length pages ≤ high)
          → (length pages ≤ high) ⊎ ((high < length pages) × (bytes_cmp prefix (first_key (get_or pages high [])) ≡ Less) × (begins prefix (first_key (get_or pages high [])) ≡ false))
      to (inl inside) =
          let first : List ℕ = get_or firsts high [] in
          let fails = neither (is_at_or_below prefix first) (begins prefix first) (highs.behind high (omega arith) (omega (arith, firsts_length, inside))) in
          inr (inside, ap (bytes_cmp prefix) (sym (first_at high inside)) ∙ high-from_test prefix first fails.0, ap (begins prefix) (sym (first_at high inside)) ∙ fails.1)
      to (inr all) = inl all

-- ---- as they lie in memory

key_at : (keys : List (Vec ℕ Global)) (i : ℕ) (d : Vec ℕ Global) → i < length keys → get_or (keys_of keys) i [] ≡ (get_or keys i d).items
key_at keys i d inside = get_map (λ (key : Vec ℕ Global). key.items) keys i d [] inside

split_of : (test : List ℕ → Bool) (keys : List (Vec ℕ Global)) (count : ℕ)
    → IsPartitionPoint (λ key. test key.items ≡ true) (λ key. test key.items ≡ false) keys count → IsSplit test (keys_of keys) count
split_of test [] count point = record { before = λ k l m. absurd (omega arith); behind = λ k l m. absurd (omega arith) }
split_of test (key ∷ keys) count point =
    let all : List (Vec ℕ Global) = key ∷ keys in
    let size : length (keys_of all) ≡ length all = length-map all (λ (k : Vec ℕ Global). k.items) in
    record {
      before = λ k l m. ap test (key_at all k key (omega (arith, size, m))) ∙ point.0 k key (omega arith) l;
      behind = λ k l m. ap test (key_at all k key (omega (arith, size, m))) ∙ point.1 k key l (omega (arith, size, m));
    }

-- a vector's first keys are split where a look at its slice finds the first one that fails the test
pub split_found : {F : Type 0} {g : Mut F (Bor (Vec ℕ Global) × Unit {0}) Bool} {f : F} (test : List ℕ → Bool) (slice keys : List (Vec ℕ Global)) (count : ℕ) → slice ≡ keys
    → IsPartitionedBy (λ (first : Vec ℕ Global). test first.items) keys
    → ((q : Vec ℕ Global → Bool) → ComputesKey g q f → IsPartitionedBy q slice → IsPartitionPoint (λ y. q y ≡ true) (λ y. q y ≡ false) slice count)
    → ((a : Bor (Vec ℕ Global) × Unit {0}) (r : Bool) (f' : F) → Called g f a r f' → (r ≡ test a.0.now.items) × (f' ≡ f)) → IsSplit test (keys_of keys) count
split_found test slice keys count is parted found calls =
    let tested : Vec ℕ Global → Bool = λ first. test first.items in
    let Parted : List (Vec ℕ Global) → Type 0 = λ firsts. IsPartitionedBy tested firsts in
    let Split : List (Vec ℕ Global) → Type 0 = λ firsts. IsSplit test (keys_of firsts) count in
    subst Split is (split_of test slice count (IsPartitionPoint-from_clause tested slice count found (subst Parted (sym is) parted) calls))

module _ (keys : List (Vec ℕ Global)) (pages : List (List Entry)) (index : IsIndex (keys_of keys) pages) where
  pub keys_length : length keys ≡ length pages
  keys_length = sym (length-map keys (λ (k : Vec ℕ Global). k.items)) ∙ firsts_length (keys_of keys) pages index

  pub parted_at : (key : List ℕ) → IsPartitionedBy (λ (first : Vec ℕ Global). is_at_or_below key first.items) keys
  parted_at key = λ i j d order inside h.
      ap (is_at_or_below key) (sym (key_at keys i d (omega (arith, order, inside))))
      ∙ at_parted (keys_of keys) pages index key i j order (omega (arith, keys_length, inside)) (ap (is_at_or_below key) (key_at keys j d inside) ∙ h)

  pub parted_with : (prefix : List ℕ) → IsPartitionedBy (λ (first : Vec ℕ Global). may_begin prefix first.items) keys
  parted_with prefix = λ i j d order inside h.
      ap (may_begin prefix) (sym (key_at keys i d (omega (arith, order, inside))))
      ∙ with_parted (keys_of keys) pages index prefix i j order (omega (arith, keys_length, inside)) (ap (may_begin prefix) (key_at keys j d inside) ∙ h)
