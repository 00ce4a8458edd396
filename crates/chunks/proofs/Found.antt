-- A chunk among cut entries.
use Rattle.std.proofs.Common.{arith, ◌≡◌, ◌∙◌, sym, ap, subst, refl, ◌⊎◌, inl, inr, ◌<◌, ◌≤◌, ◌+◌, ◌-◌, ◌*◌, ℕ, zero, suc, List, [], ◌∷◌, ◌++◌, map, take, drop, Bool, true, false, true≢false, cond, nat_lt, if◌then◌else◌, Option, Some, None}
use Rattle.std.proofs.lemmas.Cmp.{tied_itself}
use Rattle.std.proofs.lemmas.Cmp.{nat_list_cmp_total, tied_itself}
use Rattle.std.proofs.lemmas.Bool.{false_from_ne_true}
use Rattle.std.proofs.lemmas.Option.{same_Some}
use Rattle.std.proofs.lemmas.Slice.Eq.{bytes_eq-Decides}
use Rattle.std.specs.Str.{bytes_eq}
use Rattle.std.specs.FinMap.{find}
use Rattle.std.specs.FinMap.{is_sorted}
use Rattle.std.specs.FinMap.Entries.{below_all}
use Rattle.std.specs.Ordering.{is_eq, is_lt}
use Rattle.std.proofs.lemmas.Bool.{and_parts}
use Rattle.std.specs.declared.cmp.Ordering.{Ordering}
use Rattle.std.specs.declared.cmp.Ordering.TheVariants.{Less, Equal, Greater}
use Rattle.std.specs.List.{range_with_len}
use Rattle.byteorder.specs.Endian.{big_bytes}
use Rattle.pages.specs.Page.{Entry, bytes_cmp}
use Rattle.pages.proofs.Searching.{same_key as tied_key}
use Rattle.chunks.specs.Chunks.{chunk_entry, chunks_of, stem_of, cut_by, cut_entry, cuts, count_of, HasChunks, AreCuttable}
use Rattle.chunks.proofs.Ascending.{IsBelow, Ascends, below_behind, ascends_behind}
use Rattle.chunks.proofs.Cuts.{same_chunk, same_key, none_begins, few_chunks}

pub tied : (o : Ordering) → is_eq o ≡ true → o ≡ Equal
tied Less is = cc
tied Equal is = refl
tied Greater is = cc

-- an entry of another key is passed by
passes : (k : List ℕ) (e : Entry) (es : List Entry) → (k ≡ e.0 → ⊥) → find bytes_cmp k (e ∷ es) ≡ find bytes_cmp k es
passes k e es other =
    ap (λ (b : Bool). cond b (Some e.1) (find bytes_cmp k es)) (false_from_ne_true (is_eq (bytes_cmp k e.0)) (λ is. other (tied_key k e.0 (tied (bytes_cmp k e.0) is))))

pub hits : (k : List ℕ) (e : Entry) (es : List Entry) → k ≡ e.0 → find bytes_cmp k (e ∷ es) ≡ Some e.1
hits k e es same = ap (λ (o : Ordering). cond (is_eq o) (Some e.1) (find bytes_cmp k es)) (ap (bytes_cmp k) (sym same) ∙ tied_itself nat_list_cmp_total k)

-- chunk n, if there are so many
abbrev pub chunk_of : (n : ℕ) → (value : List ℕ) → Option (List ℕ)
chunk_of n value = if nat_lt n (count_of value) then Some (take 8000 (drop (8000 * n) value)) else None

module _ (stem : List ℕ) (n : ℕ) (few : n < 65536) where
  abbrev key : List ℕ
  key = stem ++ big_bytes 2 n

  -- among the chunks of another stem it is not
  past : (s value : List ℕ) (from count : ℕ) (es : List Entry) → from + count ≤ 65536 → (stem ≡ s → ⊥) ⊎ ((n < from) ⊎ (from + count ≤ n))
      → find bytes_cmp key (map (chunk_entry s value) (range_with_len from count) ++ es) ≡ find bytes_cmp key es
  past s value from zero es all apart = refl
  past s value from (suc count) es all apart =
      passes key (chunk_entry s value from) (map (chunk_entry s value) (range_with_len (from + 1) count) ++ es)
      (λ same. let parts = same_chunk stem s n from few (omega (arith, all)) same in never apart parts.0 parts.1)
      ∙ past s value (from + 1) count es (omega (arith, all)) (on apart)
    where
      never : (stem ≡ s → ⊥) ⊎ ((n < from) ⊎ (from + suc count ≤ n)) → stem ≡ s → n ≡ from → ⊥
      never (inl other) stems numbers = other stems
      never (inr (inl below)) stems numbers = omega (arith, below, numbers)
      never (inr (inr above)) stems numbers = omega (arith, above, numbers)

      on : (stem ≡ s → ⊥) ⊎ ((n < from) ⊎ (from + suc count ≤ n)) → (stem ≡ s → ⊥) ⊎ ((n < from + 1) ⊎ ((from + 1) + count ≤ n))
      on (inl other) = inl other
      on (inr (inl below)) = inr (inl (omega (arith, below)))
      on (inr (inr above)) = inr (inr (omega (arith, above)))

  -- among its own it is, if there are so many
  here : (value : List ℕ) (from count : ℕ) (es : List Entry) → from + count ≤ 65536 → from ≤ n → n < from + count
      → find bytes_cmp key (map (chunk_entry stem value) (range_with_len from count) ++ es) ≡ Some (take 8000 (drop (8000 * n) value))
  here value from zero es all low high = absurd (omega (arith, low, high))
  here value from (suc count) es all low high =
      step (nat_eq_or from n low) (λ (more : from + 1 ≤ n). here value (from + 1) count es (omega (arith, all)) more (omega (arith, high)))
    where
      nat_eq_or : (a b : ℕ) → a ≤ b → (b ≡ a) ⊎ (a + 1 ≤ b)
      nat_eq_or a b le = by (b - a) refl
        where
          by : (d : ℕ) → b - a ≡ d → (b ≡ a) ⊎ (a + 1 ≤ b)
          by zero is = inl (omega (arith, is, le))
          by (suc d) is = inr (omega (arith, is))

      step : (n ≡ from) ⊎ (from + 1 ≤ n)
          → (from + 1 ≤ n → find bytes_cmp key (map (chunk_entry stem value) (range_with_len (from + 1) count) ++ es) ≡ Some (take 8000 (drop (8000 * n) value))) → find bytes_cmp key (map (chunk_entry stem value) (range_with_len from (suc count)) ++ es) ≡ Some (take 8000 (drop (8000 * n) value))
      step (inl same) rest =
          hits key (chunk_entry stem value from) (map (chunk_entry stem value) (range_with_len (from + 1) count) ++ es) (ap (λ (k : ℕ). stem ++ big_bytes 2 k) same)
          ∙ ap (λ (k : ℕ). Some (take 8000 (drop (8000 * k) value))) (sym same)
      step (inr more) rest =
          passes key (chunk_entry stem value from) (map (chunk_entry stem value) (range_with_len (from + 1) count) ++ es)
          (λ same. omega (arith, more, (same_chunk stem stem n from few (omega (arith, all)) same).1))
          ∙ rest more

  module _ (whole : List ℕ) (is : stem_of whole ≡ Some stem) where
    -- another entry's chunks are passed by
    other_passed : (e : Entry) (es : List Entry) → (whole ≡ e.0 → ⊥) → HasChunks (stem_of e.0) e → find bytes_cmp key (cut_entry e ++ es) ≡ find bytes_cmp key es
    other_passed e es other can = step (stem_of e.0) refl can
      where
        step : (s : Option (List ℕ)) → stem_of e.0 ≡ s → HasChunks s e → find bytes_cmp key (cut_by s e ++ es) ≡ find bytes_cmp key es
        step None none can = passes key e es (λ same. none_begins e.0 whole stem (big_bytes 2 n) none is (sym same))
        step (Some s) some can =
            past s e.1 0 (count_of e.1) es (omega (arith, (few_chunks e.1 can.0 can.1).1))
            (inl (λ same. other (same_key whole e.0 stem is (some ∙ ap (λ (x : List ℕ). Some x) (sym same)))))

    own_found : (e : Entry) (es : List Entry) → whole ≡ e.0 → HasChunks (stem_of e.0) e → n < count_of e.1
        → find bytes_cmp key (cut_entry e ++ es) ≡ Some (take 8000 (drop (8000 * n) e.1))
    own_found e es same can less =
        let own : stem_of e.0 ≡ Some stem = ap stem_of (sym same) ∙ is in
        let Cuts : Option (List ℕ) → Type 0 = λ s. HasChunks s e → find bytes_cmp key (cut_by s e ++ es) ≡ Some (take 8000 (drop (8000 * n) e.1)) in
        subst Cuts (sym own) (λ has. here e.1 0 (count_of e.1) es (omega (arith, (few_chunks e.1 has.0 has.1).1)) (omega arith) (omega (arith, less))) can

    -- Where a value stands under a key, its chunks stand under theirs.
    pub found_chunk : (es : List Entry) (v : List ℕ) → AreCuttable es → find bytes_cmp whole es ≡ Some v → n < count_of v
        → find bytes_cmp key (cuts es) ≡ Some (take 8000 (drop (8000 * n) v))
    found_chunk [] v can found less = cc
    found_chunk (e ∷ es) v can found less = step (bytes_eq whole e.0) refl (λ (rest : find bytes_cmp whole es ≡ Some v). found_chunk es v can.1 rest less)
      where
        step : (b : Bool) → bytes_eq whole e.0 ≡ b → (find bytes_cmp whole es ≡ Some v → find bytes_cmp key (cuts es) ≡ Some (take 8000 (drop (8000 * n) v))) → find bytes_cmp key (cuts (e ∷ es)) ≡ Some (take 8000 (drop (8000 * n) v))
        step true yes_is more =
            let same : whole ≡ e.0 = (bytes_eq-Decides whole e.0).0 yes_is in
            let value : e.1 ≡ v = same_Some e.1 v (sym (hits whole e es same) ∙ found) in
            let Less : List ℕ → Type 0 = λ x. n < count_of x in
            own_found e (cuts es) same can.0 (subst Less (sym value) less) ∙ ap (λ (x : List ℕ). Some (take 8000 (drop (8000 * n) x))) value
        step false no_is more =
            let other : whole ≡ e.0 → ⊥ = λ same. true≢false (sym ((bytes_eq-Decides whole e.0).1 same) ∙ no_is) in
            other_passed e (cuts es) other can.0 ∙ more (sym (passes whole e es other) ∙ found)

    -- Where none stands under a key, no chunk does.
    pub found_no_chunk : (es : List Entry) → AreCuttable es → find bytes_cmp whole es ≡ None → find bytes_cmp key (cuts es) ≡ None
    found_no_chunk [] can none = refl
    found_no_chunk (e ∷ es) can none =
        let other : whole ≡ e.0 → ⊥ = λ same. let never : Some e.1 ≡ None = sym (hits whole e es same) ∙ none in cc in
        other_passed e (cuts es) other can.0 ∙ found_no_chunk es can.1 (sym (passes whole e es other) ∙ none)

    -- Where chunk 0 of a key is below all, nothing stands under it.
    none_above : (es : List Entry) → AreCuttable es → IsBelow (stem ++ big_bytes 2 0) (cuts es) → find bytes_cmp whole es ≡ None
    none_above [] can below = refl
    none_above (e ∷ es) can below = step (bytes_eq whole e.0) refl (λ (rest : IsBelow (stem ++ big_bytes 2 0) (cuts es)). none_above es can.1 rest)
      where
        never : (s : Option (List ℕ)) → s ≡ Some stem → HasChunks s e → IsBelow (stem ++ big_bytes 2 0) (cut_by s e ++ cuts es) → ⊥
        never None own has below = cc
        never (Some t) own has below =
            let stems : t ≡ stem = same_Some t stem own in
            let Low : List ℕ → Type 0 = λ x. IsBelow (stem ++ big_bytes 2 0) (chunks_of x e.1 ++ cuts es) in
            itself (count_of e.1) (few_chunks e.1 has.0 has.1).0 (subst Low stems below)
          where
            itself : (n : ℕ) → 0 < n → IsBelow (stem ++ big_bytes 2 0) (map (chunk_entry stem e.1) (range_with_len 0 n) ++ cuts es) → ⊥
            itself zero some below = omega (arith, some)
            itself (suc n) some below =
                let first = (and_parts (is_lt (bytes_cmp (stem ++ big_bytes 2 0) (stem ++ big_bytes 2 0))) (below_all bytes_cmp (stem ++ big_bytes 2 0) (map (chunk_entry stem e.1) (range_with_len 1 n) ++ cuts es)) below).0 in
                true≢false (sym first ∙ ap is_lt (tied_itself nat_list_cmp_total (stem ++ big_bytes 2 0)))

        step : (b : Bool) → bytes_eq whole e.0 ≡ b → (IsBelow (stem ++ big_bytes 2 0) (cuts es) → find bytes_cmp whole es ≡ None) → find bytes_cmp whole (e ∷ es) ≡ None
        step true yes_is more =
            let same : whole ≡ e.0 = (bytes_eq-Decides whole e.0).0 yes_is in
            absurd (never (stem_of e.0) (ap stem_of (sym same) ∙ is) can.0 below)
        step false no_is more =
            let other : whole ≡ e.0 → ⊥ = λ same. true≢false (sym ((bytes_eq-Decides whole e.0).1 same) ∙ no_is) in
            passes whole e es other ∙ more (below_behind (stem ++ big_bytes 2 0) (cut_entry e) (cuts es) below)

    -- Behind the last chunk of a value none stands, where the keys ascend.
    pub found_past : (es : List Entry) (v : List ℕ) → AreCuttable es → Ascends (cuts es) → find bytes_cmp whole es ≡ Some v → count_of v ≤ n
        → find bytes_cmp key (cuts es) ≡ None
    found_past [] v can ascends found all = cc
    found_past (e ∷ es) v can ascends found all = step (bytes_eq whole e.0) refl (λ (rest : find bytes_cmp whole es ≡ Some v). found_past es v can.1 (ascends_behind (cut_entry e) (cuts es) ascends) rest all)
      where
        behind_first : (s : Option (List ℕ)) → s ≡ Some stem → HasChunks s e → Ascends (cut_by s e ++ cuts es) → IsBelow (stem ++ big_bytes 2 0) (cuts es)
        behind_first None own has ascends = cc
        behind_first (Some t) own has ascends =
            let stems : t ≡ stem = same_Some t stem own in
            let Low : List ℕ → Type 0 = λ x. Ascends (chunks_of x e.1 ++ cuts es) in
            first (count_of e.1) (few_chunks e.1 has.0 has.1).0 (subst Low stems ascends)
          where
            first : (n : ℕ) → 0 < n → Ascends (map (chunk_entry stem e.1) (range_with_len 0 n) ++ cuts es) → IsBelow (stem ++ big_bytes 2 0) (cuts es)
            first zero some ascends = absurd (omega (arith, some))
            first (suc n) some ascends =
                let rest : List Entry = map (chunk_entry stem e.1) (range_with_len 1 n) in
                below_behind (stem ++ big_bytes 2 0) rest (cuts es)
                (and_parts (below_all bytes_cmp (stem ++ big_bytes 2 0) (rest ++ cuts es)) (is_sorted bytes_cmp (rest ++ cuts es)) ascends).0

        own_past : (s : Option (List ℕ)) → s ≡ Some stem → HasChunks s e → count_of e.1 ≤ n → find bytes_cmp key (cut_by s e ++ cuts es) ≡ find bytes_cmp key (cuts es)
        own_past None own has less = cc
        own_past (Some t) own has less = past t e.1 0 (count_of e.1) (cuts es) (omega (arith, (few_chunks e.1 has.0 has.1).1)) (inr (inr (omega (arith, less))))

        step : (b : Bool) → bytes_eq whole e.0 ≡ b → (find bytes_cmp whole es ≡ Some v → find bytes_cmp key (cuts es) ≡ None) → find bytes_cmp key (cuts (e ∷ es)) ≡ None
        step true yes_is more =
            let same : whole ≡ e.0 = (bytes_eq-Decides whole e.0).0 yes_is in
            let own : stem_of e.0 ≡ Some stem = ap stem_of (sym same) ∙ is in
            let value : e.1 ≡ v = same_Some e.1 v (sym (hits whole e es same) ∙ found) in
            own_past (stem_of e.0) own can.0 (omega (arith, ap (λ (x : List ℕ). count_of x) value, all))
            ∙ found_no_chunk es can.1 (none_above es can.1 (behind_first (stem_of e.0) own can.0 ascends))
        step false no_is more =
            let other : whole ≡ e.0 → ⊥ = λ same. true≢false (sym ((bytes_eq-Decides whole e.0).1 same) ∙ no_is) in
            other_passed e (cuts es) other can.0 ∙ more (sym (passes whole e es other) ∙ found)

-- What stands under a key whose value is not cut is found as it is.
pub found_uncut : (key : List ℕ) → stem_of key ≡ None → (es : List Entry) → find bytes_cmp key (cuts es) ≡ find bytes_cmp key es
found_uncut key uncut [] = refl
found_uncut key uncut (e ∷ es) = step (found_uncut key uncut es) (stem_of e.0) refl
  where
    passed : (s value : List ℕ) (from count : ℕ) (rest : List Entry) → stem_of e.0 ≡ Some s
        → find bytes_cmp key (map (chunk_entry s value) (range_with_len from count) ++ rest) ≡ find bytes_cmp key rest
    passed s value from zero rest is = refl
    passed s value from (suc count) rest is =
        passes key (chunk_entry s value from) (map (chunk_entry s value) (range_with_len (from + 1) count) ++ rest) (λ same. none_begins key e.0 s (big_bytes 2 from) uncut is same)
        ∙ passed s value (from + 1) count rest is

    step : (find bytes_cmp key (cuts es) ≡ find bytes_cmp key es) → (s : Option (List ℕ)) → stem_of e.0 ≡ s → find bytes_cmp key (cut_by s e ++ cuts es) ≡ find bytes_cmp key (e ∷ es)
    step others None is = ap (λ (rest : Option (List ℕ)). cond (is_eq (bytes_cmp key e.0)) (Some e.1) rest) others
    step others (Some s) is =
        passed s e.1 0 (count_of e.1) (cuts es) is ∙ others
        ∙ sym (passes key e es (λ same. let never : None ≡ Some s = sym uncut ∙ ap stem_of same ∙ is in cc))
