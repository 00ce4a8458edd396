-- One more piece of a policy's plans, after those before it.
use Rattle.std.proofs.Common.{arith, ◌≡◌, ◌∙◌, sym, ap, refl, ⊎_elim, ◌<◌, ◌≤◌, ◌+◌, ◌-◌, ◌*◌, ◌%◌, ◌^◌, ℕ, zero, suc, List, [], ◌∷◌, ◌++◌, map, take, drop, length, get_or}
use Rattle.std.proofs.lemmas.Bool.{cases_lt}
use Rattle.std.proofs.lemmas.Grind.{div_ceil_times}
use Rattle.std.proofs.lemmas.List.{take_all, take-append-le, drop_at, drop-append-le, length-take, length-drop, length-append, get_or_at, get_or_append_left}
use Rattle.std.proofs.lemmas.List.FromFn.{length-map-range_with_len, get_or-map-range_with_len, map-range_with_len_more}
use Rattle.std.specs.Int.{div_ceil}
use Rattle.std.specs.List.{range_with_len}
use Rattle.names.specs.Key.{Key}
use Rattle.pages.specs.Page.{Entry}
use Rattle.records.specs.Entries.{plan_entry, plan_entries}

ceil_is : (a m : ℕ) → 16384 * m < a + 16384 → a ≤ 16384 * m → div_ceil a 16384 ≡ m
ceil_is a m low high = let t = div_ceil_times a 16384 (omega arith) in omega (arith, t.0, t.1, low, high)

ceil_high : (a : ℕ) → a ≤ 16384 * div_ceil a 16384
ceil_high a = let t = div_ceil_times a 16384 (omega arith) in omega (arith, t.0)

ceil_low : (a : ℕ) → 16384 * div_ceil a 16384 < a + 16384
ceil_low a = let t = div_ceil_times a 16384 (omega arith) in omega (arith, t.1)

same_pieces : (k : Key) (old cell : List ℕ) (from n : ℕ) → 16384 * (from + n) ≤ length old
    → map (plan_entry k (old ++ cell)) (range_with_len from n) ≡ map (plan_entry k old) (range_with_len from n)
same_pieces k old cell from zero inside = refl
same_pieces k old cell from (suc n) inside =
    let at : ℕ = 16384 * from in
    let long : 16384 ≤ length (drop at old) = omega (arith, length-drop at old) in
    let here : take 16384 (drop at (old ++ cell)) ≡ take 16384 (drop at old) =
    ap (take 16384) (drop-append-le at old cell (omega arith)) ∙ take-append-le 16384 (drop at old) cell long in
    let rest = same_pieces k old cell (from + 1) n (omega arith) in
    λ i. ((plan_entry k old from).0, here i) ∷ rest i

-- After full pieces stands one more.
pub added : (k : Key) (old cell : List ℕ) (m : ℕ) → length old ≡ 16384 * m → 0 < length cell → length cell ≤ 16384
    → plan_entries k (old ++ cell) ≡ plan_entries k old ++ ((plan_entry k [] m).0, cell) ∷ []
added k old cell m exact some few =
    let key : List ℕ = (plan_entry k [] m).0 in
    let all : ℕ = length (old ++ cell) in
    let longer : all ≡ length old + length cell = length-append old cell in
    let counted : div_ceil all 16384 ≡ m + 1 = ceil_is all (m + 1) (omega (arith, longer, exact)) (omega (arith, longer, exact)) in
    let counted_old : div_ceil (length old) 16384 ≡ m = ceil_is (length old) m (omega (arith, exact)) (omega (arith, exact)) in
    let bytes : take 16384 (drop (16384 * m) (old ++ cell)) ≡ cell = ap (take 16384) (drop_at old cell (16384 * m) exact) ∙ take_all 16384 cell few in
    let last : plan_entry k (old ++ cell) m ≡ (key, cell) = λ i. (key, bytes i) in
    ap (λ (n : ℕ). map (plan_entry k (old ++ cell)) (range_with_len 0 n)) counted
    ∙ map-range_with_len_more (plan_entry k (old ++ cell)) 0 m m (omega arith)
    ∙ ap (λ (es : List Entry). es ++ plan_entry k (old ++ cell) m ∷ []) (same_pieces k old cell 0 m (omega (arith, exact)))
    ∙ ap (λ (e : Entry). map (plan_entry k old) (range_with_len 0 m) ++ e ∷ []) last
    ∙ ap (λ (n : ℕ). map (plan_entry k old) (range_with_len 0 n) ++ (key, cell) ∷ []) (sym counted_old)

-- what is known of an entry that stands after the pieces of the bytes before it
module _ (k : Key) (old all key cell : List ℕ) (rest : List Entry)
    (same : plan_entries k all ≡ plan_entries k old ++ (key, cell) ∷ rest) where
  abbrev before : ℕ
  before = div_ceil (length old) 16384

  abbrev pieces : ℕ
  pieces = div_ceil (length all) 16384

  abbrev no_entry : Entry
  no_entry = ([], [])

  length_before : length (plan_entries k old) ≡ before
  length_before = length-map-range_with_len (plan_entry k old) 0 before

  more : before < pieces
  more =
      let left : length (plan_entries k all) ≡ pieces = length-map-range_with_len (plan_entry k all) 0 pieces in
      let right : length (plan_entries k old ++ (key, cell) ∷ rest) ≡ length (plan_entries k old) + length ((key, cell) ∷ rest) =
      length-append (plan_entries k old) ((key, cell) ∷ rest) in
      omega (arith, left, right, length_before, ap length same)

  next : (key, cell) ≡ plan_entry k all before
  next =
      sym (get_or_at (plan_entries k old) (key, cell) rest no_entry before length_before) ∙ ap (λ (es : List Entry). get_or es before no_entry) (sym same)
      ∙ get_or-map-range_with_len (plan_entry k all) 0 pieces before before no_entry more (omega arith)

  beyond : 16384 * before < length all
  beyond = omega (arith, more, ceil_low (length all))

  -- its key is the next one
  pub next_key : key ≡ (plan_entry k [] before).0
  next_key = ap (λ (e : Entry). e.0) next

  cell_is : cell ≡ take 16384 (drop (16384 * before) all)
  cell_is = ap (λ (e : Entry). e.1) next

  -- it has some bytes, and no more than a piece
  some_bytes : 0 < length cell
  some_bytes = omega (arith, beyond, ap length cell_is, length-take 16384 (drop (16384 * before) all), length-drop (16384 * before) all)

  few_bytes : length cell ≤ 16384
  few_bytes = omega (arith, ap length cell_is, length-take 16384 (drop (16384 * before) all), length-drop (16384 * before) all)

  -- each piece before it is full
  full : (j : ℕ) → j < before → 16384 * j + 16384 ≤ length old
  full j low =
      let mine : get_or (plan_entries k old ++ (key, cell) ∷ rest) j no_entry ≡ plan_entry k old j =
      get_or_append_left (plan_entries k old) ((key, cell) ∷ rest) no_entry j (omega (arith, length_before, low))
      ∙ get_or-map-range_with_len (plan_entry k old) 0 before j j no_entry low (omega arith) in
      let theirs : get_or (plan_entries k all) j no_entry ≡ plan_entry k all j =
      get_or-map-range_with_len (plan_entry k all) 0 pieces j j no_entry (omega (arith, low, more)) (omega arith) in
      let alike : plan_entry k old j ≡ plan_entry k all j = sym mine ∙ ap (λ (es : List Entry). get_or es j no_entry) (sym same) ∙ theirs in
      let sizes : length (take 16384 (drop (16384 * j) old)) ≡ length (take 16384 (drop (16384 * j) all)) = ap (λ (e : Entry). length e.1) alike in
      omega (
        arith,
        beyond,
        low,
        sizes,
        length-take 16384 (drop (16384 * j) old),
        length-drop (16384 * j) old,
        length-take 16384 (drop (16384 * j) all),
        length-drop (16384 * j) all,
      )

  pub all_full : length old ≡ 16384 * before
  all_full =
      let high : length old ≤ 16384 * before = ceil_high (length old) in
      ⊎_elim (λ some. let last = full (before - 1) (omega (arith, some)) in omega (arith, last, high, some)) (λ none. omega (arith, none, high)) (cases_lt 0 before)

  -- so it may follow them
  pub may_follow : length all ≤ 2 ^ 30 → (length old % 16384 ≡ 0) × (length old < 2 ^ 30) × (0 < length cell) × (length cell ≤ 16384)
  may_follow small = (omega (arith, all_full), omega (arith, all_full, beyond, small), some_bytes, few_bytes)
