-- Which entry may follow the chunks of one that were told, and which may begin one.
use Rattle.std.proofs.Common.{arith, ◌≡◌, ◌∙◌, sym, ap, subst, refl, ◌⊎◌, inl, inr, ◌<◌, ◌≤◌, ◌+◌, ◌*◌, ◌-◌, min, ℕ, zero, suc, List, [], ◌∷◌, ◌++◌, map, take, drop, length, length-append, Option, Some, None}
use Rattle.std.proofs.lemmas.Grind.{div_ceil_times}
use Rattle.std.proofs.lemmas.List.{append-nil, take-append-le, drop-append-le, length-take, length-drop}
use Rattle.std.proofs.lemmas.List.FromFn.{map-range_with_len_more}
use Rattle.std.specs.Int.{div_ceil}
use Rattle.std.specs.List.{range_with_len}
use Rattle.byteorder.specs.Endian.{big_bytes}
use Rattle.pages.specs.Page.{Entry}
use Rattle.chunks.specs.Chunks.{chunk_entry, chunks_of, stem_of, cut_by, cut_entry, cuts, HasChunks, IsCuttable, AreCuttable, IsLater, BeginsWhole}
use Rattle.chunks.specs.Chunks.{count_of}
use Rattle.chunks.specs.Joining.{GoesOn, held}
use Rattle.chunks.specs.declared.joining.Waiting.{Waiting}
use Rattle.chunks.proofs.Cuts.{split_cut, few_chunks, same_chunk, none_begins, head_stems, head_whole, never_empty, all_begin, can_after}

-- ---- one more chunk

count_is : (size n : ℕ) → 8000 * n < size + 8000 → size ≤ 8000 * n → div_ceil size 8000 ≡ n
count_is size n low high = let bounds = div_ceil_times size 8000 (omega arith) in omega (arith, bounds.0, bounds.1, low, high)

full_length : (from : ℕ) (v : List ℕ) → 8000 * from + 8000 ≤ length v → 8000 ≤ length (drop (8000 * from) v)
full_length from v fits = omega (arith, length-drop (8000 * from) v, fits)

same_chunks : (stem v c : List ℕ) (from n : ℕ) → 8000 * (from + n) ≤ length v
    → map (chunk_entry stem (v ++ c)) (range_with_len from n) ≡ map (chunk_entry stem v) (range_with_len from n)
same_chunks stem v c from zero fits = refl
same_chunks stem v c from (suc n) fits =
    let here : List ℕ = drop (8000 * from) v in
    let front : drop (8000 * from) (v ++ c) ≡ here ++ c = drop-append-le (8000 * from) v c (omega (arith, fits)) in
    let same : take 8000 (drop (8000 * from) (v ++ c)) ≡ take 8000 here =
    ap (take 8000) front ∙ take-append-le 8000 here c (full_length from v (omega (arith, fits))) in
    let rest = same_chunks stem v c (from + 1) n (omega (arith, fits)) in
    λ i. (stem ++ big_bytes 2 from, same i) ∷ rest i

-- A value of whole chunks and one more chunk is cut so.
pub one_more : (stem v c : List ℕ) (n : ℕ) → length v ≡ 8000 * n → 0 < length c → length c ≤ 8000
    → chunks_of stem (v ++ c) ≡ chunks_of stem v ++ (stem ++ big_bytes 2 n, c) ∷ []
one_more stem v c n whole some fits =
    let size : length (v ++ c) ≡ length v + length c = length-append v c in
    let count : div_ceil (length (v ++ c)) 8000 ≡ n + 1 = count_is (length (v ++ c)) (n + 1) (omega (arith, size, whole, some)) (omega (arith, size, whole, fits)) in
    let was : div_ceil (length v) 8000 ≡ n = count_is (length v) n (omega (arith, whole)) (omega (arith, whole)) in
    let Chunk : ℕ → Entry = chunk_entry stem (v ++ c) in
    let past : drop (8000 * n) (v ++ c) ≡ c =
    ap (λ (k : ℕ). drop k (v ++ c)) (sym whole) ∙ drop-append-le (length v) v c (omega arith) ∙ ap (λ (x : List ℕ). x ++ c) (drop_whole v) in
    let last : take 8000 (drop (8000 * n) (v ++ c)) ≡ c = ap (take 8000) past ∙ take_short c fits in
    ap (λ (k : ℕ). map Chunk (range_with_len 0 k)) count
    ∙ map-range_with_len_more Chunk 0 n n (omega arith)
    ∙ ap (λ (e : List ℕ). map Chunk (range_with_len 0 n) ++ (stem ++ big_bytes 2 n, e) ∷ []) last
    ∙ ap (λ (es : List Entry). es ++ (stem ++ big_bytes 2 n, c) ∷ []) (same_chunks stem v c 0 n (omega (arith, whole)) ∙ ap (λ (k : ℕ). map (chunk_entry stem v) (range_with_len 0 k)) (sym was))
  where
    drop_whole : (x : List ℕ) → drop (length x) x ≡ []
    drop_whole [] = refl
    drop_whole (a ∷ x) = drop_whole x

    take_short : (x : List ℕ) → length x ≤ 8000 → take 8000 x ≡ x
    take_short x fits = short 8000 x fits
      where
        short : (n : ℕ) (x : List ℕ) → length x ≤ n → take n x ≡ x
        short zero [] fits = refl
        short zero (a ∷ x) fits = absurd (omega (arith, fits))
        short (suc n) [] fits = refl
        short (suc n) (a ∷ x) fits = ap (λ (y : List ℕ). a ∷ y) (short n x (omega (arith, fits)))

-- ---- what may follow

module _ (whole stem : List ℕ) (is : stem_of whole ≡ Some stem) (a b : List ℕ) (e : Entry) (more : List Entry) (later : IsLater e.0) where
  never_head : (us : List Entry) → BeginsWhole us → us ≡ e ∷ more → ⊥
  never_head us begins same = let Begins : List Entry → Type 0 = λ es. BeginsWhole es in subst Begins same begins later

  cell_of : (value : List ℕ) (from : ℕ) → ℕ
  cell_of value from = length (take 8000 (drop (8000 * from) value))

  fuller : (from n m : ℕ) → from + suc n ≡ count_of a → from + suc m ≡ count_of b → (us : List Entry)
      → map (chunk_entry stem a) (range_with_len (from + 1) n) ++ us ≡ map (chunk_entry stem b) (range_with_len (from + 1) m) ++ e ∷ more → BeginsWhole us
      → chunk_entry stem a from ≡ chunk_entry stem b from → 8000 * (from + 1) ≤ length b
  fuller from zero zero size other us rest begins head = absurd (never_head us begins rest)
  fuller from zero (suc m) size other us rest begins head = let count = div_ceil_times (length b) 8000 (omega arith) in omega (arith, other, count.0, count.1)
  fuller from (suc n) m size other us rest begins head =
      let count = div_ceil_times (length a) 8000 (omega arith) in
      let cells : length (take 8000 (drop (8000 * from) a)) ≡ length (take 8000 (drop (8000 * from) b)) = ap (λ (x : Entry). length x.1) head in
      omega (
        arith,
        size,
        count.0,
        count.1,
        cells,
        length-take 8000 (drop (8000 * from) a),
        length-take 8000 (drop (8000 * from) b),
        length-drop (8000 * from) a,
        length-drop (8000 * from) b,
      )

  -- the chunks of the two from one on: b's end, and e is the next of a's
  next_chunk : (from n m : ℕ) (us : List Entry) → from + n ≡ count_of a → from + m ≡ count_of b → count_of a ≤ 65536 → count_of b ≤ 65536 → 0 < from
      → (8000 * from ≤ length b) → BeginsWhole us
      → map (chunk_entry stem a) (range_with_len from n) ++ us ≡ map (chunk_entry stem b) (range_with_len from m) ++ e ∷ more
      → (e ≡ chunk_entry stem a (count_of b)) × (length b ≡ 8000 * count_of b) × (count_of b < count_of a)
  next_chunk from zero zero us size other few fewer some full begins same = absurd (never_head us begins same)
  next_chunk from zero (suc m) [] size other few fewer some full begins same = cc
  next_chunk from zero (suc m) (u ∷ us) size other few fewer some full begins same =
      let head : u ≡ chunk_entry stem b from = cc in
      let count = div_ceil_times (length b) 8000 (omega arith) in
      absurd (begins (record { whole = whole; stem = stem; chunk = from; is_stem = is; some = some; few = omega (arith, other, fewer); is = ap (λ (x : Entry). x.0) head }))
  next_chunk from (suc n) zero us size other few fewer some full begins same =
      let head : chunk_entry stem a from ≡ e = cc in
      let at : from ≡ count_of b = omega (arith, other) in
      let count = div_ceil_times (length b) 8000 (omega arith) in
      (sym head ∙ ap (λ (k : ℕ). chunk_entry stem a k) at, omega (arith, full, at, count.0, count.1), omega (arith, size, other))
  next_chunk from (suc n) (suc m) us size other few fewer some full begins same =
      let head : chunk_entry stem a from ≡ chunk_entry stem b from = cc in
      let rest : map (chunk_entry stem a) (range_with_len (from + 1) n) ++ us ≡ map (chunk_entry stem b) (range_with_len (from + 1) m) ++ e ∷ more = cc in
      next_chunk (from + 1) n m us (omega (arith, size)) (omega (arith, other)) few fewer (omega arith) (fuller from n m size other us rest begins head) begins rest

-- ---- what was told of one entry, and what is told next

abbrev pub Beginning : Entry → Type 0
Beginning e = (whole : List ℕ) × (stem : List ℕ) × (stem_of whole ≡ Some stem) × (e.0 ≡ stem ++ big_bytes 2 0) × (0 < length e.1) × (length e.1 ≤ 8000)

-- an entry that is not cut, or the first chunk of one
abbrev pub CanBegin : Entry → Type 0
CanBegin e = (stem_of e.0 ≡ None) ⊎ Beginning e

begins_first : (whole stem : List ℕ) → stem_of whole ≡ Some stem → (value : List ℕ) (n : ℕ) (us : List Entry) (e : Entry) (more : List Entry) → 0 < n → 0 < length value
    → map (chunk_entry stem value) (range_with_len 0 n) ++ us ≡ e ∷ more → Beginning e
begins_first whole stem is value zero us e more many some same = absurd (omega (arith, many))
begins_first whole stem is value (suc n) us e more many some same =
    let head : chunk_entry stem value 0 ≡ e = cc in
    let Begins : Entry → Type 0 = λ x. Beginning x in
    let size : length (take 8000 (drop (8000 * 0) value)) ≡ min 8000 (length value) = length-take 8000 value in
    subst Begins head (whole, stem, is, refl, omega (arith, size, some), omega (arith, size))

-- The first of the cut entries of a list begins one.
pub first_of_cut : (es : List Entry) (e : Entry) (more : List Entry) → AreCuttable es → cuts es ≡ e ∷ more → CanBegin e
first_of_cut [] e more can same = cc
first_of_cut (x ∷ es) e more can same = step (stem_of x.0) refl can.0 same
  where
    step : (s : Option (List ℕ)) → stem_of x.0 ≡ s → HasChunks s x → cut_by s x ++ cuts es ≡ e ∷ more → CanBegin e
    step None is can same = let head : x ≡ e = cc in inl (ap (λ (y : Entry). stem_of y.0) (sym head) ∙ is)
    step (Some stem) is can same = inr (begins_first x.0 stem is x.1 (div_ceil (length x.1) 8000) (cuts es) e more (few_chunks x.1 can.0 can.1).0 can.0 same)

-- What follows the chunks of an entry, and is a later one, goes on with its value.
pub follows : (w : Entry) (es : List Entry) (e : Entry) (more : List Entry) → IsCuttable w → AreCuttable es → IsLater e.0
    → cuts es ≡ cut_entry w ++ e ∷ more → (stem : List ℕ) × (stem_of w.0 ≡ Some stem) × GoesOn stem w.1 e
follows w [] e more can could later same = absurd (never_empty w (e ∷ more) can same)
follows w (x ∷ es) e more can could later same = step (stem_of x.0) (stem_of w.0) refl refl could.0 can same
  where
    others : List Entry
    others = cuts es

    begins : BeginsWhole others
    begins = let Begins : List Entry → Type 0 = λ y. BeginsWhole y in subst Begins (append-nil others) (all_begin es [] could.1 tt)

    both : (s t : List ℕ) → stem_of x.0 ≡ Some s → stem_of w.0 ≡ Some t → HasChunks (Some s) x → HasChunks (Some t) w
        → chunks_of s x.1 ++ others ≡ chunks_of t w.1 ++ e ∷ more → GoesOn t w.1 e
    both s t a b more_x more_w same =
        let nx = few_chunks x.1 more_x.0 more_x.1 in
        let nw = few_chunks w.1 more_w.0 more_w.1 in
        let stems : s ≡ t = (same_chunk s t 0 0 (omega arith) (omega arith) (head_stems s t x.1 w.1 (count_of x.1) (count_of w.1) others (e ∷ more) nx.0 nw.0 same)).0 in
        let Same : List ℕ → Type 0 = λ r. chunks_of r x.1 ++ others ≡ chunks_of t w.1 ++ e ∷ more in
        let next = from_first w.0 t b x.1 w.1 e more later (count_of x.1) (count_of w.1) others refl refl nx.1 nw.1 nx.0 nw.0 begins (subst Same stems same) in
        let Goes : Entry → Type 0 = λ y. GoesOn t w.1 y in
        let count = div_ceil_times (length x.1) 8000 (omega arith) in
        let cell : length (take 8000 (drop (8000 * count_of w.1) x.1)) ≡ min 8000 (length (drop (8000 * count_of w.1) x.1)) = length-take 8000 (drop (8000 * count_of w.1) x.1) in
        let rest : length (drop (8000 * count_of w.1) x.1) ≡ length x.1 - 8000 * count_of w.1 = length-drop (8000 * count_of w.1) x.1 in
        subst Goes (sym next.0)
        (record { key = refl; few = omega (arith, next.2, nx.1); whole = next.1; some = omega (arith, cell, rest, next.2, count.1); fits = omega (arith, cell) })
      where
        from_first : (whole stem : List ℕ) (is : stem_of whole ≡ Some stem) (a b : List ℕ) (e : Entry) (more : List Entry) (later : IsLater e.0) (n m : ℕ) (us : List Entry) → n ≡ count_of a
            → m ≡ count_of b → count_of a ≤ 65536 → count_of b ≤ 65536 → 0 < n → 0 < m → BeginsWhole us
            → map (chunk_entry stem a) (range_with_len 0 n) ++ us ≡ map (chunk_entry stem b) (range_with_len 0 m) ++ e ∷ more
            → (e ≡ chunk_entry stem a (count_of b)) × (length b ≡ 8000 * count_of b) × (count_of b < count_of a)
        from_first whole stem is a b e more later zero m us size other few fewer some any begins same = absurd (omega (arith, some))
        from_first whole stem is a b e more later (suc n) zero us size other few fewer some any begins same = absurd (omega (arith, any))
        from_first whole stem is a b e more later (suc n) (suc m) us size other few fewer some any begins same =
            let head : chunk_entry stem a 0 ≡ chunk_entry stem b 0 = cc in
            let rest : map (chunk_entry stem a) (range_with_len 1 n) ++ us ≡ map (chunk_entry stem b) (range_with_len 1 m) ++ e ∷ more = cc in
            next_chunk whole stem is a b e more later 1 n m us (omega (arith, size)) (omega (arith, other)) few fewer (omega arith)
            (fuller whole stem is a b e more later 0 n m (omega (arith, size)) (omega (arith, other)) us rest begins head) begins rest

    step : (s t : Option (List ℕ)) → stem_of x.0 ≡ s → stem_of w.0 ≡ t → HasChunks s x → HasChunks t w → cut_by s x ++ others ≡ cut_by t w ++ e ∷ more
        → (stem : List ℕ) × (t ≡ Some stem) × GoesOn stem w.1 e
    step None None a b can_x can_w same =
        let rest : others ≡ e ∷ more = cc in
        let Begins : List Entry → Type 0 = λ y. BeginsWhole y in
        absurd (subst Begins rest begins later)
    step None (Some t) a b can_x can_w same =
        absurd (none_begins x.0 w.0 t (big_bytes 2 0) a b (head_whole t w.1 (count_of w.1) x others (e ∷ more) (few_chunks w.1 can_w.0 can_w.1).0 same))
    step (Some s) None a b can_x can_w same =
        absurd (none_begins w.0 x.0 s (big_bytes 2 0) b a (head_whole s x.1 (count_of x.1) w (e ∷ more) others (few_chunks x.1 can_x.0 can_x.1).0 (sym same)))
    step (Some s) (Some t) a b can_x can_w same = (t, refl, both s t a b can_x can_w same)

-- ---- whatever was told

-- What no entry begins with, and none goes on with, no entries are cut to.
pub never_cut : (o : Option Waiting) (es : List Entry) (e : Entry) (more : List Entry) → AreCuttable es → AreCuttable (held o) → cuts es ≡ cuts (held o) ++ e ∷ more
    → (CanBegin e → ⊥) → ((w : Entry) (stem : List ℕ) → stem_of w.0 ≡ Some stem → GoesOn stem w.1 e → ⊥) → ⊥
never_cut None es e more can could same none on = none (first_of_cut es e more can same)
never_cut (Some w) es e more can could same none on =
    let one : Entry = (w.key.items, w.value.items) in
    let here : cuts (one ∷ []) ≡ cut_entry one = append-nil (cut_entry one) in
    let not : IsLater e.0 → ⊥ = λ later. let goes = follows one es e more could.0 can later (same ∙ ap (λ (x : List Entry). x ++ e ∷ more) here) in on one goes.0 goes.1 goes.2 in
    let rest = split_cut es (one ∷ []) (e ∷ more) can could not same in
    none (first_of_cut rest.0 e more (can_rest es (one ∷ []) rest.0 rest.1 can) rest.2)
  where
    can_rest : (es xs rest : List Entry) → es ≡ xs ++ rest → AreCuttable es → AreCuttable rest
    can_rest es xs rest is can = let Can : List Entry → Type 0 = λ x. AreCuttable x in can_after xs rest (subst Can is can)

-- A later chunk that does not go on with what waits is of no entries.
pub never_on : (o : Option Waiting) (es : List Entry) (e : Entry) (more : List Entry) → AreCuttable es → AreCuttable (held o) → cuts es ≡ cuts (held o) ++ e ∷ more
    → IsLater e.0 → ((w : Entry) (stem : List ℕ) → held o ≡ w ∷ [] → stem_of w.0 ≡ Some stem → GoesOn stem w.1 e → ⊥) → ⊥
never_on None es e more can could same later on =
    let Begins : List Entry → Type 0 = λ y. BeginsWhole y in
    subst Begins (append-nil (cuts es) ∙ same) (all_begin es [] can tt) later
never_on (Some w) es e more can could same later on =
    let one : Entry = (w.key.items, w.value.items) in
    let here : cuts (one ∷ []) ≡ cut_entry one = append-nil (cut_entry one) in
    let goes = follows one es e more could.0 can later (same ∙ ap (λ (x : List Entry). x ++ e ∷ more) here) in
    on one goes.0 refl goes.1 goes.2

-- ---- what waits then

-- the first chunk of an entry is what it is cut to
pub begun : (whole stem cell : List ℕ) → stem_of whole ≡ Some stem → 0 < length cell → length cell ≤ 8000
    → AreCuttable ((whole, cell) ∷ []) × (cuts ((whole, cell) ∷ []) ≡ (stem ++ big_bytes 2 0, cell) ∷ [])
begun whole stem cell is some fits =
    let Is : Option (List ℕ) → Type 0 = λ s. HasChunks s (whole, cell) × (cut_by s (whole, cell) ++ [] ≡ (stem ++ big_bytes 2 0, cell) ∷ []) in
    let all = subst Is (sym is) ((some, omega (arith, fits)), append-nil (chunks_of stem cell) ∙ one_more stem [] cell 0 refl some fits) in
    ((all.0, tt), all.1)

-- an entry that is not cut is what it is cut to
pub begun_whole : (e : Entry) → stem_of e.0 ≡ None → AreCuttable (e ∷ []) × (cuts (e ∷ []) ≡ e ∷ [])
begun_whole e is =
    let Is : Option (List ℕ) → Type 0 = λ s. HasChunks s e × (cut_by s e ++ [] ≡ e ∷ []) in
    let all = subst Is (sym is) (tt, refl) in
    ((all.0, tt), all.1)

-- with one more chunk
pub gone_on : (w : Entry) (stem cell : List ℕ) (number : ℕ) → stem_of w.0 ≡ Some stem → length w.1 ≡ 8000 * number → number < 65536 → 0 < length cell → length cell ≤ 8000
    → AreCuttable ((w.0, w.1 ++ cell) ∷ []) × (cuts (w ∷ []) ++ (stem ++ big_bytes 2 number, cell) ∷ [] ≡ cuts ((w.0, w.1 ++ cell) ∷ []))
gone_on w stem cell number is whole few some fits =
    let more : Entry = (w.0, w.1 ++ cell) in
    let next : List Entry = (stem ++ big_bytes 2 number, cell) ∷ [] in
    let Is : Option (List ℕ) → Type 0 = λ s. HasChunks s more × ((cut_by s w ++ []) ++ next ≡ cut_by s more ++ []) in
    let size : length (w.1 ++ cell) ≡ length w.1 + length cell = length-append w.1 cell in
    let all = subst Is (sym is) (
      (omega (arith, size, some), omega (arith, size, whole, few, fits)),
      ap (λ (es : List Entry). es ++ next) (append-nil (chunks_of stem w.1)) ∙ sym (one_more stem w.1 cell number whole some fits) ∙ sym (append-nil (chunks_of stem (w.1 ++ cell))),
    ) in
    ((all.0, tt), all.1)
