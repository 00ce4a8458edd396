-- What one more cell makes of a page.
use Rattle.std.proofs.Common.{arith, ◌≡◌, ◌∙◌, ap, subst, refl, ⊎_elim, ◌<◌, ◌≤◌, ◌+◌, ◌-◌, ◌*◌, ℕ, zero, suc, List, [], ◌∷◌, ◌++◌, map, length, take, drop, slice_index}
use Rattle.std.proofs.lemmas.Bool.{cases_lt}
use Rattle.std.proofs.lemmas.List.FromFn.{fill_by_all, length-map-range_with_len, get_or-map-range_with_len, map-range_with_len_more}
use Rattle.std.specs.List.{range_with_len}
use Rattle.pages.specs.Building.{IsBuilt}
use Rattle.pages.specs.Page.{Entry, number_at, count, offset, size, cell_end, key_size, key_at, value_at, entry_at, entries_in, IsSlot, HasCells}
use Rattle.pages.proofs.Bytes.{number_same, tail_same, front_same}
use Rattle.pages.proofs.Slots.{cell_end_next, ends_fall}

-- a cell in front of the others, with its slot behind theirs, and nothing else
pub record IsAdded (key value : List ℕ) (at : ℕ) (old new : List ℕ) : Type 0 where
  pub long : length new ≡ length old
  pub ends : at + 2 + length key + length value ≡ cell_end (count old) old
  pub behind : 12 + 4 * count old ≤ at
  pub counted : count new ≡ count old + 1
  pub begins : offset (count old) new ≡ at
  pub sized : size (count old) new ≡ 2 + length key + length value
  pub key_sized : number_at at new ≡ length key
  pub key_is : take (length key) (drop (at + 2) new) ≡ key
  pub value_is : take (length value) (drop (at + 2 + length key) new) ≡ value
  pub mark : (k : ℕ) → k < 4 → slice_index new k ≡ slice_index old k
  pub slots : (k : ℕ) → 6 ≤ k → k < 8 + 4 * count old → slice_index new k ≡ slice_index old k
  pub free : (k : ℕ) → 12 + 4 * count old ≤ k → k < at → slice_index new k ≡ slice_index old k
  pub tail : (k : ℕ) → cell_end (count old) old ≤ k → slice_index new k ≡ slice_index old k

module _ {key value : List ℕ} {at : ℕ} {old new : List ℕ} (built : IsBuilt old) (added : IsAdded key value at old new) where
  offset_stays : (i : ℕ) → i < count old → offset i new ≡ offset i old
  offset_stays i l = number_same (8 + 4 * i) old new (λ k low high. added.slots k (omega arith) (omega arith))

  size_stays : (i : ℕ) → i < count old → size i new ≡ size i old
  size_stays i l = number_same (10 + 4 * i) old new (λ k low high. added.slots k (omega arith) (omega arith))

  end_stays : (i : ℕ) → i ≤ count old → cell_end i new ≡ cell_end i old
  end_stays zero l = refl
  end_stays (suc i) l = offset_stays i (omega arith)

  in_tail : (i : ℕ) → i < count old → cell_end (count old) old ≤ offset i old
  in_tail i l = ends_fall old built.each (count old) i l (omega arith)

  key_size_stays : (i : ℕ) → i < count old → key_size i new ≡ key_size i old
  key_size_stays i l =
      let inside = in_tail i l in
      ap (λ at. number_at at new) (offset_stays i l) ∙ number_same (offset i old) old new (λ k low high. added.tail k (omega arith))

  tail_stays : (from : ℕ) → cell_end (count old) old ≤ from → drop from new ≡ drop from old
  tail_stays from low = tail_same from old new added.long (λ k l. added.tail k (omega arith))

  key_stays : (i : ℕ) → i < count old → key_at i new ≡ key_at i old
  key_stays i l =
      let low = in_tail i l in
      ap (λ n. take n (drop (offset i new + 2) new)) (key_size_stays i l)
      ∙ ap (λ o. take (key_size i old) (drop (o + 2) new)) (offset_stays i l)
      ∙ ap (take (key_size i old)) (tail_stays (offset i old + 2) (omega arith))

  value_stays : (i : ℕ) → i < count old → value_at i new ≡ value_at i old
  value_stays i l =
      let low = in_tail i l in
      ap (λ n. take (n - 2 - key_size i new) (drop (offset i new + 2 + key_size i new) new)) (size_stays i l)
      ∙ ap (λ n. take (size i old - 2 - n) (drop (offset i new + 2 + n) new)) (key_size_stays i l)
      ∙ ap (λ o. take (size i old - 2 - key_size i old) (drop (o + 2 + key_size i old) new)) (offset_stays i l)
      ∙ ap (take (size i old - 2 - key_size i old)) (tail_stays (offset i old + 2 + key_size i old) (omega arith))

  entry_stays : (i : ℕ) → i < count old → entry_at new i ≡ entry_at old i
  entry_stays i l = λ j. (key_stays i l j, value_stays i l j)

  new_key_size : key_size (count old) new ≡ length key
  new_key_size = ap (λ o. number_at o new) added.begins ∙ added.key_sized

  new_entry : entry_at new (count old) ≡ (key, value)
  new_entry =
      let n = count old in
      let rest : 2 + length key + length value - 2 - length key ≡ length value = omega arith in
      let key_there : key_at n new ≡ key =
      ap (λ m. take m (drop (offset n new + 2) new)) new_key_size
      ∙ ap (λ o. take (length key) (drop (o + 2) new)) added.begins ∙ added.key_is
      in
      let value_there : value_at n new ≡ value =
      ap (λ m. take (m - 2 - key_size n new) (drop (offset n new + 2 + key_size n new) new)) added.sized
      ∙ ap (λ m. take (2 + length key + length value - 2 - m) (drop (offset n new + 2 + m) new)) new_key_size
      ∙ ap (λ o. take (2 + length key + length value - 2 - length key) (drop (o + 2 + length key) new)) added.begins
      ∙ ap (λ m. take m (drop (at + 2 + length key) new)) rest ∙ added.value_is
      in
      λ j. (key_there j, value_there j)

  pub entries_added : entries_in new ≡ entries_in old ++ (key, value) ∷ []
  unfolding entries_in
  entries_added =
      let n = count old in
      let front : map (entry_at new) (range_with_len 0 n) ≡ map (entry_at old) (range_with_len 0 n) =
      fill_by_all (entry_at old) (map (entry_at new) (range_with_len 0 n)) n (key, value) (length-map-range_with_len (entry_at new) 0 n)
      (λ k l. get_or-map-range_with_len (entry_at new) 0 n k k (key, value) l (omega arith) ∙ entry_stays k l)
      in
      ap (λ m. map (entry_at new) (range_with_len 0 m)) added.counted
      ∙ map-range_with_len_more (entry_at new) 0 n n (omega arith)
      ∙ ap (λ (es : List Entry). es ++ entry_at new n ∷ []) front
      ∙ ap (λ (e : Entry). map (entry_at old) (range_with_len 0 n) ++ e ∷ []) new_entry

  new_end : cell_end (count new) new ≡ at
  new_end = ap (λ n. cell_end n new) added.counted ∙ cell_end_next (count old) new ∙ added.begins

  slot_added : (i : ℕ) → i < count new → IsSlot new i
  slot_added i l = ⊎_elim
      (λ lt. record {
        ends = omega (arith, offset_stays i lt, size_stays i lt, end_stays i (omega arith), (built.each i lt).ends);
        behind = omega (arith, added.counted, added.behind, added.ends, offset_stays i lt, in_tail i lt);
      })
      (λ past.
      let same : count old ≡ i = omega (arith, added.counted) in
      subst (λ n. IsSlot new n) same (record {
        ends = omega (arith, added.begins, added.sized, added.ends, end_stays (count old) (omega arith));
        behind = omega (arith, added.counted, added.behind, added.begins);
      }))
      (cases_lt i (count old))

  cells_added : HasCells new
  cells_added i l = ⊎_elim
      (λ lt. omega (arith, key_size_stays i lt, size_stays i lt, built.cells i lt))
      (λ past.
      let same : count old ≡ i = omega (arith, added.counted) in
      subst (λ n. 2 + key_size n new ≤ size n new) same (omega (arith, new_key_size, added.sized)))
      (cases_lt i (count old))

  pub built_added : IsBuilt new
  built_added = record {
    mark = record {
      whole = added.long ∙ built.mark.whole;
      mark = front_same 4 old new added.long added.mark ∙ built.mark.mark;
    };
    zeros = number_same 6 old new (λ k low high. added.slots k low (omega arith)) ∙ built.zeros;
    each = slot_added;
    room = omega (arith, new_end, added.counted, added.behind);
    cells = cells_added;
    free = λ k low high.
        let below : k < at = omega (arith, new_end) in
        let above : 12 + 4 * count old ≤ k = omega (arith, added.counted) in
        added.free k above below ∙ built.free k (omega arith) (omega (arith, added.ends));
  }
