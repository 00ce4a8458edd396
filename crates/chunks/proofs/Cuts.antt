-- Cut entries say the entries that they are of.
use Rattle.std.proofs.Common.{arith, ◌≡◌, ◌∙◌, sym, ap, subst, refl, ◌⊎◌, inl, inr, ◌<◌, ◌≤◌, ◌+◌, ◌*◌, ◌==◌, Bool, true, false, if◌then◌else◌, ℕ, zero, suc, List, [], ◌∷◌, ◌++◌, map, take, drop, length, append_assoc, length-append, Option, Some, None}
use Rattle.std.proofs.lemmas.Bool.Decides.{nat_tests}
use Rattle.std.proofs.lemmas.Grind.{div_ceil_times, flat_map-append}
use Rattle.std.proofs.lemmas.List.{append-nil, take-append-drop, drop-drop, drop_all, same_from_push}
use Rattle.std.specs.Int.{div_ceil}
use Rattle.std.specs.List.{flat_map, range_with_len}
use Rattle.byteorder.specs.Endian.{big_bytes, big_from}
use Rattle.byteorder.specs.Numbers.{big_number-reads_back, length-bytes_high_first}
use Rattle.pages.specs.Page.{Entry}
use Rattle.names.specs.declared.format.Format.{Format}
use Rattle.names.specs.Format.{has_chunks}
use Rattle.chunks.specs.Chunks.{chunk_entry, chunks_of, stem_of, cut_by, cut_entry, cuts, cut_if, cut, HasChunks, IsCuttable, AreCuttable, IsLater, BeginsWhole}

-- ---- one value

abbrev cells : List Entry → List ℕ
cells es = flat_map (λ e. e.1) es

joined : (stem value : List ℕ) (from count : ℕ) → length value ≤ 8000 * (from + count)
    → cells (map (chunk_entry stem value) (range_with_len from count)) ≡ drop (8000 * from) value
joined stem value from zero all = sym (drop_all (8000 * from) value (omega arith))
joined stem value from (suc count) all =
    let here : List ℕ = drop (8000 * from) value in
    let next : 8000 * from + 8000 ≡ 8000 * (from + 1) = omega arith in
    let rest : cells (map (chunk_entry stem value) (range_with_len (from + 1) count)) ≡ drop 8000 here =
    joined stem value (from + 1) count (omega arith) ∙ ap (λ (n : ℕ). drop n value) (sym next) ∙ sym (drop-drop 8000 (8000 * from) value) in
    ap (λ (r : List ℕ). take 8000 here ++ r) rest ∙ take-append-drop 8000 here

all_of : (stem value : List ℕ) → cells (chunks_of stem value) ≡ value
all_of stem value = joined stem value 0 (div_ceil (length value) 8000) (omega (arith, (div_ceil_times (length value) 8000 (omega arith)).0))

-- ---- keys of chunks

pub same_parts : (s t x y : List ℕ) → length x ≡ length y → s ++ x ≡ t ++ y → (s ≡ t) × (x ≡ y)
same_parts [] [] x y size same = (refl, same)
same_parts [] (b ∷ t) x y size same = absurd (omega (arith, size, ap length same, length-append t y))
same_parts (a ∷ s) [] x y size same = absurd (omega (arith, size, ap length same, length-append s x))
same_parts (a ∷ s) (b ∷ t) x y size same =
    let head : a ≡ b = cc in
    let rest : s ++ x ≡ t ++ y = cc in
    let parts = same_parts s t x y size rest in
    (λ i. head i ∷ parts.0 i, parts.1)

reads_back : (x : ℕ) → x < 65536 → big_from 0 2 (big_bytes 2 x) ≡ x
reads_back x fits = ap (big_from 0 2) (sym (append-nil (big_bytes 2 x))) ∙ big_number-reads_back 2 x [] (omega (arith, fits))

pub same_chunk : (s t : List ℕ) (n m : ℕ) → n < 65536 → m < 65536 → s ++ big_bytes 2 n ≡ t ++ big_bytes 2 m → (s ≡ t) × (n ≡ m)
same_chunk s t n m a b same =
    let parts = same_parts s t (big_bytes 2 n) (big_bytes 2 m) (length-bytes_high_first 2 n ∙ sym (length-bytes_high_first 2 m)) same in
    (parts.0, sym (reads_back n a) ∙ ap (big_from 0 2) parts.1 ∙ reads_back m b)

-- ---- stems

-- a stem is that of an object's key or of an event's
pub record IsObjects (key stem : List ℕ) : Type 0 where
  pub rest : List ℕ
  pub key_is : key ≡ 1 ∷ rest
  pub stem_is : stem ≡ (1 ∷ rest) ++ 0 ∷ []

pub record IsEvents (key stem : List ℕ) : Type 0 where
  pub rest : List ℕ
  pub key_is : key ≡ 3 ∷ rest
  pub stem_is : stem ≡ 3 ∷ rest

is_one : (mark n : ℕ) → (mark == n) ≡ true → mark ≡ n
is_one mark n is = grind (arith, nat_tests)

some_is : {A : Type 0} {x y : A} → Some x ≡ Some y → x ≡ y
some_is same = cc

pub kinds : (key stem : List ℕ) → stem_of key ≡ Some stem → IsObjects key stem ⊎ IsEvents key stem
kinds [] stem is = cc
kinds (mark ∷ rest) stem is = step (mark == 1) (mark == 3) refl refl is
  where
    step : (a b : Bool) → (mark == 1) ≡ a → (mark == 3) ≡ b → (if a then Some ((mark ∷ rest) ++ 0 ∷ []) else (if b then Some (mark ∷ rest) else None)) ≡ Some stem
        → IsObjects (mark ∷ rest) stem ⊎ IsEvents (mark ∷ rest) stem
    step true b one three is =
        let mark_is : mark ≡ 1 = is_one mark 1 one in
        let stem_is : (mark ∷ rest) ++ 0 ∷ [] ≡ stem = some_is is in
        inl (record { rest = rest; key_is = ap (λ (m : ℕ). m ∷ rest) mark_is; stem_is = sym stem_is ∙ ap (λ (m : ℕ). (m ∷ rest) ++ 0 ∷ []) mark_is })
    step false true one three is =
        let mark_is : mark ≡ 3 = is_one mark 3 three in
        let stem_is : mark ∷ rest ≡ stem = some_is is in
        inr (record { rest = rest; key_is = ap (λ (m : ℕ). m ∷ rest) mark_is; stem_is = sym stem_is ∙ ap (λ (m : ℕ). m ∷ rest) mark_is })
    step false false one three is = cc

apart : (xs ys : List ℕ) → ◌≡◌ {A = List ℕ} (1 ∷ xs) (3 ∷ ys) → ⊥
apart xs ys same = let never : ◌≡◌ {A = ℕ} 1 3 = cc in omega (arith, never)

-- a stem is that of one key
pub same_key : (k l stem : List ℕ) → stem_of k ≡ Some stem → stem_of l ≡ Some stem → k ≡ l
same_key k l stem a b = step (kinds k stem a) (kinds l stem b)
  where
    step : IsObjects k stem ⊎ IsEvents k stem → IsObjects l stem ⊎ IsEvents l stem → k ≡ l
    step (inl x) (inl y) = x.key_is ∙ (same_from_push (1 ∷ x.rest) (1 ∷ y.rest) 0 0 (sym x.stem_is ∙ y.stem_is)).0 ∙ sym y.key_is
    step (inl x) (inr y) = absurd (apart (x.rest ++ 0 ∷ []) y.rest (sym x.stem_is ∙ y.stem_is))
    step (inr x) (inl y) = absurd (apart (y.rest ++ 0 ∷ []) x.rest (sym y.stem_is ∙ x.stem_is))
    step (inr x) (inr y) = x.key_is ∙ sym x.stem_is ∙ y.stem_is ∙ sym y.key_is

-- a key that begins with a stem has one itself
pub none_begins : (key whole stem more : List ℕ) → stem_of key ≡ None → stem_of whole ≡ Some stem → key ≡ stem ++ more → ⊥
none_begins key whole stem more none is same = step (kinds whole stem is)
  where
    absent : (k : List ℕ) → key ≡ k → stem_of k ≡ None
    absent k at = ap stem_of (sym at) ∙ none

    step : IsObjects whole stem ⊎ IsEvents whole stem → ⊥
    step (inl x) = let never : stem_of (1 ∷ ((x.rest ++ 0 ∷ []) ++ more)) ≡ None = absent _ (same ∙ ap (λ (s : List ℕ). s ++ more) x.stem_is) in cc
    step (inr x) = let never : stem_of (3 ∷ (x.rest ++ more)) ≡ None = absent _ (same ∙ ap (λ (s : List ℕ). s ++ more) x.stem_is) in cc

-- ---- where an entry begins

pub few_chunks : (value : List ℕ) → 0 < length value → length value ≤ 8000 * 65536 → (0 < div_ceil (length value) 8000) × (div_ceil (length value) 8000 ≤ 65536)
few_chunks value some few =
    let bounds = div_ceil_times (length value) 8000 (omega arith) in
    (omega (arith, some, bounds.0), omega (arith, few, bounds.1))

pub not_later : (whole stem : List ℕ) → stem_of whole ≡ Some stem → IsLater (stem ++ big_bytes 2 0) → ⊥
not_later whole stem is later =
    let parts = same_chunk stem later.stem 0 later.chunk (omega arith) later.few later.is in
    omega (arith, parts.1, later.some)

first_begins : (whole stem value : List ℕ) (n : ℕ) (es : List Entry) → stem_of whole ≡ Some stem → 0 < n
    → BeginsWhole (map (chunk_entry stem value) (range_with_len 0 n) ++ es)
first_begins whole stem value zero es is some = absurd (omega (arith, some))
first_begins whole stem value (suc n) es is some = not_later whole stem is

pub cut_begins : (e : Entry) (es : List Entry) → IsCuttable e → BeginsWhole (cut_entry e ++ es)
cut_begins e es can = step (stem_of e.0) refl can
  where
    step : (stem : Option (List ℕ)) → stem_of e.0 ≡ stem → HasChunks stem e → BeginsWhole (cut_by stem e ++ es)
    step None none can = λ later. none_begins e.0 later.whole later.stem (big_bytes 2 later.chunk) none later.is_stem later.is
    step (Some stem) is can = first_begins e.0 stem e.1 (div_ceil (length e.1) 8000) es is (few_chunks e.1 can.0 can.1).0

pub all_begin : (es more : List Entry) → AreCuttable es → BeginsWhole more → BeginsWhole (cuts es ++ more)
all_begin [] more can begins = begins
all_begin (e ∷ es) more can begins =
    subst BeginsWhole (sym (append_assoc (cut_entry e) (cuts es) more)) (cut_begins e (cuts es ++ more) can.0)

-- ---- one entry, in front of others

module _ (whole stem : List ℕ) (is : stem_of whole ≡ Some stem) (a b : List ℕ) where
  never_later : (n : ℕ) (e : Entry) (value : List ℕ) → 0 < n → n < 65536 → e ≡ chunk_entry stem value n → (IsLater e.0 → ⊥) → ⊥
  never_later n e value some few same begins =
      begins (record { whole = whole; stem = stem; chunk = n; is_stem = is; some = some; few = few; is = ap (λ (x : Entry). x.0) same })

  pieces : (from n m : ℕ) (us vs : List Entry) → 0 < from → from + n ≤ 65536 → from + m ≤ 65536 → BeginsWhole us → BeginsWhole vs
      → map (chunk_entry stem a) (range_with_len from n) ++ us ≡ map (chunk_entry stem b) (range_with_len from m) ++ vs
      → (map (chunk_entry stem a) (range_with_len from n) ≡ map (chunk_entry stem b) (range_with_len from m)) × (us ≡ vs)
  pieces from zero zero us vs some p q first second same = (refl, same)
  pieces from zero (suc m) [] vs some p q first second same = cc
  pieces from zero (suc m) (u ∷ us) vs some p q first second same =
      let head : u ≡ chunk_entry stem b from = cc in
      absurd (never_later from u b some (omega (arith, q)) head first)
  pieces from (suc n) zero us [] some p q first second same = cc
  pieces from (suc n) zero us (v ∷ vs) some p q first second same =
      let head : v ≡ chunk_entry stem a from = cc in
      absurd (never_later from v a some (omega (arith, p)) head second)
  pieces from (suc n) (suc m) us vs some p q first second same =
      let head : chunk_entry stem a from ≡ chunk_entry stem b from = cc in
      let rest : map (chunk_entry stem a) (range_with_len (from + 1) n) ++ us ≡ map (chunk_entry stem b) (range_with_len (from + 1) m) ++ vs = cc in
      let parts = pieces (from + 1) n m us vs (omega arith) (omega (arith, p)) (omega (arith, q)) first second rest in
      (λ i. head i ∷ parts.0 i, parts.1)

  -- the chunks of two values
  from_first : (n m : ℕ) (us vs : List Entry) → 0 < n → 0 < m → n ≤ 65536 → m ≤ 65536 → BeginsWhole us → BeginsWhole vs
      → map (chunk_entry stem a) (range_with_len 0 n) ++ us ≡ map (chunk_entry stem b) (range_with_len 0 m) ++ vs
      → (map (chunk_entry stem a) (range_with_len 0 n) ≡ map (chunk_entry stem b) (range_with_len 0 m)) × (us ≡ vs)
  from_first zero m us vs some more p q first second same = absurd (omega (arith, some))
  from_first (suc n) zero us vs some more p q first second same = absurd (omega (arith, more))
  from_first (suc n) (suc m) us vs some more p q first second same =
      let head : chunk_entry stem a 0 ≡ chunk_entry stem b 0 = cc in
      let rest : map (chunk_entry stem a) (range_with_len 1 n) ++ us ≡ map (chunk_entry stem b) (range_with_len 1 m) ++ vs = cc in
      let parts = pieces 1 n m us vs (omega arith) (omega (arith, p)) (omega (arith, q)) first second rest in
      (λ i. head i ∷ parts.0 i, parts.1)

pub head_stems : (s t a b : List ℕ) (n m : ℕ) (us vs : List Entry) → 0 < n → 0 < m
    → map (chunk_entry s a) (range_with_len 0 n) ++ us ≡ map (chunk_entry t b) (range_with_len 0 m) ++ vs → s ++ big_bytes 2 0 ≡ t ++ big_bytes 2 0
head_stems s t a b zero m us vs some more same = absurd (omega (arith, some))
head_stems s t a b (suc n) zero us vs some more same = absurd (omega (arith, more))
head_stems s t a b (suc n) (suc m) us vs some more same =
    let head : chunk_entry s a 0 ≡ chunk_entry t b 0 = cc in
    ap (λ (e : Entry). e.0) head

pub head_whole : (t b : List ℕ) (m : ℕ) (x : Entry) (us vs : List Entry) → 0 < m → x ∷ us ≡ map (chunk_entry t b) (range_with_len 0 m) ++ vs → x.0 ≡ t ++ big_bytes 2 0
head_whole t b zero x us vs some same = absurd (omega (arith, some))
head_whole t b (suc m) x us vs some same =
    let head : x ≡ chunk_entry t b 0 = cc in
    ap (λ (e : Entry). e.0) head

pub split_entry : (x y : Entry) (us vs : List Entry) → IsCuttable x → IsCuttable y → BeginsWhole us → BeginsWhole vs
    → cut_entry x ++ us ≡ cut_entry y ++ vs → (x ≡ y) × (us ≡ vs)
split_entry x y us vs can could first second same = step (stem_of x.0) (stem_of y.0) refl refl can could same
  where
    both : (s t : List ℕ) → stem_of x.0 ≡ Some s → stem_of y.0 ≡ Some t → HasChunks (Some s) x → HasChunks (Some t) y
        → chunks_of s x.1 ++ us ≡ chunks_of t y.1 ++ vs → (x ≡ y) × (us ≡ vs)
    both s t a b can could same =
        let few = few_chunks x.1 can.0 can.1 in
        let more = few_chunks y.1 could.0 could.1 in
        let stems : s ≡ t = (same_chunk s t 0 0 (omega arith) (omega arith) (head_stems s t x.1 y.1 (div_ceil (length x.1) 8000) (div_ceil (length y.1) 8000) us vs few.0 more.0 same)).0 in
        let Same : List ℕ → Type 0 = λ r. chunks_of s x.1 ++ us ≡ chunks_of r y.1 ++ vs in
        let parts = from_first x.0 s a x.1 y.1 (div_ceil (length x.1) 8000) (div_ceil (length y.1) 8000) us vs few.0 more.0 few.1 more.1 first second (subst Same (sym stems) same) in
        let values : x.1 ≡ y.1 = sym (all_of s x.1) ∙ ap cells parts.0 ∙ all_of s y.1 in
        let Stem : List ℕ → Type 0 = λ r. stem_of y.0 ≡ Some r in
        let keys : x.0 ≡ y.0 = same_key x.0 y.0 s a (subst Stem (sym stems) b) in
        (λ i. (keys i, values i), parts.1)

    step : (s t : Option (List ℕ)) → stem_of x.0 ≡ s → stem_of y.0 ≡ t → HasChunks s x → HasChunks t y → cut_by s x ++ us ≡ cut_by t y ++ vs → (x ≡ y) × (us ≡ vs)
    step None None a b can could same = let head : x ≡ y = cc in let rest : us ≡ vs = cc in (head, rest)
    step None (Some t) a b can could same =
        absurd (none_begins x.0 y.0 t (big_bytes 2 0) a b (head_whole t y.1 (div_ceil (length y.1) 8000) x us vs (few_chunks y.1 could.0 could.1).0 same))
    step (Some s) None a b can could same =
        absurd (none_begins y.0 x.0 s (big_bytes 2 0) b a (head_whole s x.1 (div_ceil (length x.1) 8000) y vs us (few_chunks x.1 can.0 can.1).0 (sym same)))
    step (Some s) (Some t) a b can could same = both s t a b can could same

-- ---- all entries

long : (t b : List ℕ) (m : ℕ) (vs : List Entry) → 0 < m → [] ≡ map (chunk_entry t b) (range_with_len 0 m) ++ vs → ⊥
long t b zero vs some same = omega (arith, some)
long t b (suc m) vs some same = cc

-- an entry is cut into one at least
pub never_empty : (e : Entry) (vs : List Entry) → IsCuttable e → [] ≡ cut_entry e ++ vs → ⊥
never_empty e vs can same = step (stem_of e.0) can same
  where
    step : (s : Option (List ℕ)) → HasChunks s e → [] ≡ cut_by s e ++ vs → ⊥
    step None can same = cc
    step (Some s) can same = long s e.1 (div_ceil (length e.1) 8000) vs (few_chunks e.1 can.0 can.1).0 same

-- Where cut entries begin with others, the entries do.
pub split_cut : (xs ys more : List Entry) → AreCuttable xs → AreCuttable ys → BeginsWhole more → cuts xs ≡ cuts ys ++ more
    → (rest : List Entry) × (xs ≡ ys ++ rest) × (cuts rest ≡ more)
split_cut xs [] more can could begins same = (xs, refl, same)
split_cut [] (y ∷ ys) more can could begins same =
    absurd (never_empty y (cuts ys ++ more) could.0 (same ∙ append_assoc (cut_entry y) (cuts ys) more))
split_cut (x ∷ xs) (y ∷ ys) more can could begins same =
    let parts = split_entry x y (cuts xs) (cuts ys ++ more) can.0 could.0
    (subst BeginsWhole (append-nil (cuts xs)) (all_begin xs [] can.1 tt)) (all_begin ys more could.1 begins)
    (same ∙ append_assoc (cut_entry y) (cuts ys) more) in
    let others = split_cut xs ys more can.1 could.1 begins parts.1 in
    (others.0, (λ i. parts.0 i ∷ others.1 i), others.2)

pub can_append : (xs ys : List Entry) → AreCuttable xs → AreCuttable ys → AreCuttable (xs ++ ys)
can_append [] ys a b = b
can_append (x ∷ xs) ys a b = (a.0, can_append xs ys a.1 b)

pub can_after : (xs ys : List Entry) → AreCuttable (xs ++ ys) → AreCuttable ys
can_after [] ys can = can
can_after (x ∷ xs) ys can = can_after xs ys can.1

pub cuts-append : (xs ys : List Entry) → cuts (xs ++ ys) ≡ cuts xs ++ cuts ys
cuts-append xs ys = flat_map-append cut_entry xs ys

cut_none : (es : List Entry) → AreCuttable es → cuts es ≡ [] → es ≡ []
cut_none [] can same = refl
cut_none (e ∷ es) can same = absurd (never_empty e (cuts es) can.0 (sym same))

-- At most one list has these cut entries.
pub one_list : (xs ys : List Entry) → AreCuttable xs → AreCuttable ys → cuts xs ≡ cuts ys → xs ≡ ys
one_list xs ys can could same =
    let parts = split_cut xs ys [] can could tt (same ∙ sym (append-nil (cuts ys))) in
    let Can : List Entry → Type 0 = λ es. AreCuttable es in
    let none : parts.0 ≡ [] = cut_none parts.0 (can_after ys parts.0 (subst Can parts.1 can)) parts.2 in
    parts.1 ∙ ap (λ (es : List Entry). ys ++ es) none ∙ append-nil ys

pub one_if : (c : Bool) (xs ys : List Entry) → (c ≡ true → AreCuttable xs) → (c ≡ true → AreCuttable ys) → cut_if c xs ≡ cut_if c ys → xs ≡ ys
one_if false xs ys can could same = same
one_if true xs ys can could same = one_list xs ys (can refl) (could refl) same

pub one_cut : (f : Format) (xs ys : List Entry) → AreCuttable xs → AreCuttable ys → cut f xs ≡ cut f ys → xs ≡ ys
one_cut f xs ys can could same = one_if (has_chunks f) xs ys (λ is. can) (λ is. could) same

-- no entries are cut to none
pub cut_of_none : (f : Format) → cut f [] ≡ []
cut_of_none f = none_if (has_chunks f)
  where
    none_if : (c : Bool) → cut_if c [] ≡ []
    none_if false = refl
    none_if true = refl
