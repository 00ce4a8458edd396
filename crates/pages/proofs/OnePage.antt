-- Two pages with the same entries are the same byte by byte.
use Rattle.std.proofs.Common.{arith, ◌≡◌, ◌∙◌, sym, ap, subst, refl, ⊎_elim, ◌<◌, ◌≤◌, ◌+◌, ◌-◌, ◌*◌, ℕ, zero, suc, List, length, take, drop, get_or, slice_index}
use Rattle.std.proofs.lemmas.Bool.{cases_lt}
use Rattle.std.proofs.lemmas.List.{ext_get_or, get_or-take, get_or-drop, get_or_past}
use Rattle.pages.specs.Building.{IsBuilt}
use Rattle.pages.specs.Laws.{AreBytes}
use Rattle.pages.specs.Page.{Entry, number_at, count, offset, size, cell_end, key_size, key_at, value_at, entry_at, IsSound, SoundPage}
use Rattle.pages.proofs.Bytes.{length-part}
use Rattle.pages.proofs.Entries.{length-entries_in, get_or-entries_in}
use Rattle.pages.proofs.Numbers.{number_is}
use Rattle.pages.proofs.Room.{size_of_entry}
use Rattle.pages.proofs.Slots.{cell_inside, end_behind}

built_sound : (bytes : List ℕ) → IsSound bytes → IsBuilt bytes
built_sound bytes sound = record {
  mark = sound.mark;
  zeros = sound.slots.zeros;
  each = sound.slots.each;
  room = end_behind bytes sound.slots (count bytes) (omega arith);
  cells = sound.cells;
  free = sound.free;
}

part_byte : (at n : ℕ) (a b : List ℕ) → take n (drop at a) ≡ take n (drop at b)
    → (k : ℕ) → at ≤ k → k < at + n → slice_index a k ≡ slice_index b k
part_byte at n a b same k low high =
    let there : at + (k - at) ≡ k = omega arith in
    let here : k - at < n = omega arith in
    let Same : ℕ → Type 0 = λ j. slice_index a j ≡ slice_index b j in
    subst Same there (
    sym (get_or-take n (drop at a) (k - at) 0 here ∙ get_or-drop at a (k - at) 0)
    ∙ ap (λ x. slice_index x (k - at)) same
    ∙ get_or-take n (drop at b) (k - at) 0 here ∙ get_or-drop at b (k - at) 0)

module _ {entries : List Entry} {a b : List ℕ} (small_a : AreBytes a) (small_b : AreBytes b)
    (page_a : SoundPage a entries) (page_b : SoundPage b entries) where
  number_bytes : (at : ℕ) → number_at at a ≡ number_at at b → (k : ℕ) → at ≤ k → k < at + 2 → slice_index a k ≡ slice_index b k
  number_bytes at same k low high =
      let in_a = number_is at a in
      let in_b = number_is at b in
      let first : slice_index a at ≡ slice_index b at = omega (arith, in_a, in_b, small_a (at + 1), small_b (at + 1)) in
      let second : slice_index a (at + 1) ≡ slice_index b (at + 1) = omega (arith, in_a, in_b, small_a (at + 1), small_b (at + 1)) in
      let Same : ℕ → Type 0 = λ j. slice_index a j ≡ slice_index b j in
      ⊎_elim
      (λ lt. let here : at ≡ k = omega arith in subst Same here first)
      (λ past. let here : at + 1 ≡ k = omega arith in subst Same here second)
      (cases_lt k (at + 1))

  same_count : count a ≡ count b
  same_count = sym (length-entries_in a) ∙ ap length (page_a.are ∙ sym page_b.are) ∙ length-entries_in b

  same_entry : (i : ℕ) → i < count a → entry_at a i ≡ entry_at b i
  same_entry i l =
      sym (get_or-entries_in a i (entry_at a i) l) ∙ ap (λ (es : List Entry). get_or es i (entry_at a i)) (page_a.are ∙ sym page_b.are)
      ∙ get_or-entries_in b i (entry_at a i) (omega (arith, same_count))

  same_size : (i : ℕ) → i < count a → size i a ≡ size i b
  same_size i l =
      let in_b : i < count b = omega (arith, same_count) in
      omega (
        arith,
        size_of_entry a (built_sound a page_a.sound) i l,
        size_of_entry b (built_sound b page_b.sound) i in_b,
        ap (λ (e : Entry). length e.0) (same_entry i l),
        ap (λ (e : Entry). length e.1) (same_entry i l),
      )

  same_end : (i : ℕ) → i ≤ count a → cell_end i a ≡ cell_end i b
  same_end zero l = refl
  same_end (suc i) l =
      let in_b : i < count b = omega (arith, same_count) in
      let ends_a = (page_a.sound.slots.each i (omega arith)).ends in
      let ends_b = (page_b.sound.slots.each i in_b).ends in
      omega (arith, ends_a, ends_b, same_size i (omega arith), same_end i (omega arith))

  same_slots : (n : ℕ) → n ≤ count a → (k : ℕ) → 8 ≤ k → k < 8 + 4 * n → slice_index a k ≡ slice_index b k
  same_slots zero l k low high = absurd (omega arith)
  same_slots (suc n) l k low high = ⊎_elim
      (λ before. same_slots n (omega arith) k low before)
      (λ here. ⊎_elim
      (λ first. number_bytes (8 + 4 * n) (same_end (suc n) l) k here (omega arith))
      (λ second. number_bytes (10 + 4 * n) (same_size n (omega arith)) k second (omega arith))
      (cases_lt k (10 + 4 * n)))
      (cases_lt k (8 + 4 * n))

  same_cell : (n : ℕ) → n < count a → (k : ℕ) → offset n a ≤ k → k < offset n a + size n a → slice_index a k ≡ slice_index b k
  same_cell n l k low high =
      let in_b : n < count b = omega (arith, same_count) in
      let at : offset n a ≡ offset n b = same_end (suc n) (omega arith) in
      let inside : offset n a + size n a ≤ length a = omega (arith, cell_inside a page_a.sound.slots n l, page_a.sound.mark.whole) in
      let inside_b : offset n b + size n b ≤ length b = omega (arith, cell_inside b page_b.sound.slots n in_b, page_b.sound.mark.whole) in
      let room : 2 + key_size n a ≤ size n a = page_a.sound.cells n l in
      let room_b : 2 + key_size n b ≤ size n b = page_b.sound.cells n in_b in
      let keys : key_at n a ≡ key_at n b = ap (λ (e : Entry). e.0) (same_entry n l) in
      let values : value_at n a ≡ value_at n b = ap (λ (e : Entry). e.1) (same_entry n l) in
      let lengths : key_size n a ≡ key_size n b =
      sym (length-part (offset n a + 2) (key_size n a) a (omega arith)) ∙ ap length keys
      ∙ length-part (offset n b + 2) (key_size n b) b (omega arith)
      in
      let sizes : size n a ≡ size n b = same_size n l in
      let number : number_at (offset n a) a ≡ number_at (offset n a) b = lengths ∙ ap (λ o. number_at o b) (sym at) in
      let key_parts : take (key_size n a) (drop (offset n a + 2) a) ≡ take (key_size n a) (drop (offset n a + 2) b) =
      keys ∙ ap (λ m. take m (drop (offset n b + 2) b)) (sym lengths) ∙ ap (λ o. take (key_size n a) (drop (o + 2) b)) (sym at)
      in
      let rest = size n a - 2 - key_size n a in
      let value_parts : take rest (drop (offset n a + 2 + key_size n a) a) ≡ take rest (drop (offset n a + 2 + key_size n a) b) =
      values ∙ ap (λ m. take (m - 2 - key_size n b) (drop (offset n b + 2 + key_size n b) b)) (sym sizes)
      ∙ ap (λ m. take (size n a - 2 - m) (drop (offset n b + 2 + m) b)) (sym lengths)
      ∙ ap (λ o. take rest (drop (o + 2 + key_size n a) b)) (sym at)
      in
      ⊎_elim
      (λ lt. number_bytes (offset n a) number k low lt)
      (λ past. ⊎_elim
      (λ lt. part_byte (offset n a + 2) (key_size n a) a b key_parts k past lt)
      (λ behind. part_byte (offset n a + 2 + key_size n a) rest a b value_parts k behind (omega arith))
      (cases_lt k (offset n a + 2 + key_size n a)))
      (cases_lt k (offset n a + 2))

  same_cells : (n : ℕ) → n ≤ count a → (k : ℕ) → cell_end n a ≤ k → slice_index a k ≡ slice_index b k
  same_cells zero l k low =
      get_or_past a k 0 (omega (arith, page_a.sound.mark.whole)) ∙ sym (get_or_past b k 0 (omega (arith, page_b.sound.mark.whole)))
  same_cells (suc n) l k low = ⊎_elim
      (λ here. same_cell n (omega arith) k low (omega (arith, (page_a.sound.slots.each n (omega arith)).ends)))
      (λ behind. same_cells n (omega arith) k behind)
      (cases_lt k (cell_end n a))

  same_free : (k : ℕ) → 8 + 4 * count a ≤ k → k < cell_end (count a) a → slice_index a k ≡ slice_index b k
  same_free k low high =
      let last : cell_end (count a) a ≡ cell_end (count b) b = same_end (count a) (omega arith) ∙ ap (λ n. cell_end n b) same_count in
      page_a.sound.free k low high ∙ sym (page_b.sound.free k (omega (arith, same_count)) (omega (arith, last)))

  same_byte : (k : ℕ) → slice_index a k ≡ slice_index b k
  same_byte k = ⊎_elim
      (λ lt. part_byte 0 4 a b (page_a.sound.mark.mark ∙ sym page_b.sound.mark.mark) k (omega arith) lt)
      (λ past. ⊎_elim
      (λ lt. number_bytes 4 same_count k past lt)
      (λ past. ⊎_elim
      (λ lt. number_bytes 6 (page_a.sound.slots.zeros ∙ sym page_b.sound.slots.zeros) k past lt)
      (λ past. ⊎_elim
      (λ lt. same_slots (count a) (omega arith) k past lt)
      (λ past. ⊎_elim
      (λ lt. same_free k past lt)
      (λ past. same_cells (count a) (omega arith) k past)
      (cases_lt k (cell_end (count a) a)))
      (cases_lt k (8 + 4 * count a)))
      (cases_lt k 8))
      (cases_lt k 6))
      (cases_lt k 4)

  pub one_page : a ≡ b
  one_page = ext_get_or 0 a b (page_a.sound.mark.whole ∙ sym page_b.sound.mark.whole) (λ k l. same_byte k)
