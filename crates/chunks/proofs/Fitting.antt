-- Cut entries fit pages, and are no fewer than the entries.
use Rattle.std.proofs.Common.{arith, ◌≡◌, ◌⊎◌, inl, inr, ap, ◌≤◌, ◌+◌, ◌*◌, ℕ, zero, suc, List, [], ◌∷◌, ◌++◌, map, drop, length, Option, Some, None, refl}
use Rattle.std.proofs.lemmas.List.{length-append, length-take, length-map}
use Rattle.std.specs.List.{AllByRecursion, range_with_len}
use Rattle.byteorder.specs.Endian.{big_bytes}
use Rattle.byteorder.specs.Numbers.{length-bytes_high_first}
use Rattle.pages.specs.Page.{Entry, room_of}
use Rattle.chunks.specs.Chunks.{count_of, chunk_entry, stem_of, cut_by, cut_entry, cuts, HasChunks, IsCuttable, AreCuttable}
use Rattle.chunks.proofs.Cuts.{few_chunks, kinds, IsObjects, IsEvents}

abbrev pub Fits : Entry → Type 0
Fits e = room_of (e ∷ []) ≤ 32768

-- What is not cut fits a page, and keys are short.
abbrev pub FitsCut : Entry → Type 0
FitsCut e = (length e.0 ≤ 400) × (stem_of e.0 ≡ None → Fits e)

all_append : (xs ys : List Entry) → AllByRecursion Fits xs → AllByRecursion Fits ys → AllByRecursion Fits (xs ++ ys)
all_append [] ys a b = b
all_append (x ∷ xs) ys a b = (a.0, all_append xs ys a.1 b)

stem_short : (key stem : List ℕ) → stem_of key ≡ Some stem → length key ≤ 400 → length stem ≤ 401
stem_short key stem is short = step (kinds key stem is)
  where
    step : IsObjects key stem ⊎ IsEvents key stem → length stem ≤ 401
    step (inl o) = omega (arith, short, ap length o.key_is, ap length o.stem_is, length-append (1 ∷ o.rest) (0 ∷ []))
    step (inr e) = omega (arith, short, ap length e.key_is, ap length e.stem_is)

chunk_fits : (stem value : List ℕ) (n : ℕ) → length stem ≤ 401 → Fits (chunk_entry stem value n)
chunk_fits stem value n short =
    omega (arith, short, length-append stem (big_bytes 2 n), length-bytes_high_first 2 n, length-take 8000 (drop (8000 * n) value))

chunks_fit : (stem value : List ℕ) → length stem ≤ 401 → (from count : ℕ) → AllByRecursion Fits (map (chunk_entry stem value) (range_with_len from count))
chunks_fit stem value short from zero = tt
chunks_fit stem value short from (suc count) = (chunk_fits stem value from short, chunks_fit stem value short (from + 1) count)

one_fits : (e : Entry) → FitsCut e → AllByRecursion Fits (cut_entry e)
one_fits e fits = step (stem_of e.0) refl
  where
    step : (s : Option (List ℕ)) → stem_of e.0 ≡ s → AllByRecursion Fits (cut_by s e)
    step None is = (fits.1 is, tt)
    step (Some stem) is = chunks_fit stem e.1 (stem_short e.0 stem is fits.0) 0 (count_of e.1)

-- Each cut entry fits a page.
pub cuts_fit : (es : List Entry) → AllByRecursion FitsCut es → AllByRecursion Fits (cuts es)
cuts_fit [] fit = tt
cuts_fit (e ∷ es) fit = all_append (cut_entry e) (cuts es) (one_fits e fit.0) (cuts_fit es fit.1)

-- ---- how many there are

length-range : (from count : ℕ) → length (range_with_len from count) ≡ count
length-range from zero = refl
length-range from (suc count) = omega (arith, length-range (from + 1) count)

one_or_more : (e : Entry) → IsCuttable e → 1 ≤ length (cut_entry e)
one_or_more e can = step (stem_of e.0) can
  where
    step : (s : Option (List ℕ)) → HasChunks s e → 1 ≤ length (cut_by s e)
    step None can = omega arith
    step (Some stem) can =
        omega (arith, (few_chunks e.1 can.0 can.1).0, length-map (range_with_len 0 (count_of e.1)) (chunk_entry stem e.1), length-range 0 (count_of e.1))

-- There are no fewer than the entries.
pub no_fewer : (es : List Entry) → AreCuttable es → length es ≤ length (cuts es)
no_fewer [] can = omega arith
no_fewer (e ∷ es) can = omega (arith, one_or_more e can.0, no_fewer es can.1, length-append (cut_entry e) (cuts es))
