-- How much room the cells of a page leave.
use Rattle.std.proofs.Common.{arith, ◌≡◌, refl, subst, ◌<◌, ◌≤◌, ◌+◌, ◌*◌, ◌-◌, ℕ, zero, suc, add-one, List, [], ◌∷◌, ◌++◌, map, length, length-append}
use Rattle.std.proofs.lemmas.List.FromFn.{sum_by-map-range_with_len_more}
use Rattle.std.proofs.lemmas.List.Sums.{sum_by_push}
use Rattle.std.specs.List.{range_with_len, sum_by}
use Rattle.pages.specs.Building.{IsBuilt}
use Rattle.pages.specs.Page.{Entry, count, offset, size, cell_end, key_size, entry_at, entries_in, cell_size, room_of}
use Rattle.pages.proofs.Bytes.{length-part}
use Rattle.pages.proofs.Entries.{length-entries_in}
use Rattle.pages.proofs.Slots.{cell_end_next, end_inside}

pub size_of_entry : (bytes : List ℕ) → IsBuilt bytes → (i : ℕ) → i < count bytes → cell_size (entry_at bytes i) ≡ size i bytes
size_of_entry bytes built i l =
    let whole : length bytes ≡ 32768 = built.mark.whole in
    let ends : offset i bytes + size i bytes ≤ 32768 = omega (arith, (built.each i l).ends, end_inside bytes built.each i (omega arith)) in
    let room : 2 + key_size i bytes ≤ size i bytes = built.cells i l in
    let rest = size i bytes - 2 - key_size i bytes in
    let key_length = length-part (offset i bytes + 2) (key_size i bytes) bytes (omega arith) in
    let value_length = length-part (offset i bytes + 2 + key_size i bytes) rest bytes (omega arith) in
    omega (arith, key_length, value_length)

abbrev cells_before : List ℕ → ℕ → ℕ
cells_before bytes n = sum_by cell_size (map (entry_at bytes) (range_with_len 0 n))

cells_to : (bytes : List ℕ) → IsBuilt bytes → (n : ℕ) → n ≤ count bytes → cells_before bytes n + cell_end n bytes ≡ 32768
cells_to bytes built zero l = refl
cells_to bytes built (suc n) l =
    let next : cells_before bytes (n + 1) ≡ cells_before bytes n + cell_size (entry_at bytes n) =
    sum_by-map-range_with_len_more cell_size (entry_at bytes) 0 n n (omega arith)
    in
    let before = cells_to bytes built n (omega arith) in
    let sized = size_of_entry bytes built n (omega arith) in
    let ends = (built.each n (omega arith)).ends in
    let here : cells_before bytes (n + 1) + cell_end (n + 1) bytes ≡ 32768 =
    omega (arith, next, before, sized, ends, cell_end_next n bytes)
    in
    let At : ℕ → Type 0 = λ m. cells_before bytes m + cell_end m bytes ≡ 32768 in
    subst At (add-one n) here

pub cells_fill : (bytes : List ℕ) → IsBuilt bytes → sum_by cell_size (entries_in bytes) + cell_end (count bytes) bytes ≡ 32768
unfolding entries_in
cells_fill bytes built = cells_to bytes built (count bytes) (omega arith)

pub room_pushed : (bytes : List ℕ) (entry : Entry) → IsBuilt bytes
    → room_of (entries_in bytes ++ entry ∷ []) + cell_end (count bytes) bytes ≡ 32768 + (12 + 4 * count bytes + cell_size entry)
room_pushed bytes entry built =
    let entries = entries_in bytes in
    omega (arith, cells_fill bytes built, sum_by_push cell_size entries entry, length-append entries (entry ∷ []), length-entries_in bytes)

-- there is room for one more cell behind the slots
pub record HasNext (bytes key value : List ℕ) : Type 0 where
  pub room : 14 + 4 * count bytes + length key + length value ≤ cell_end (count bytes) bytes
  pub inside : cell_end (count bytes) bytes ≤ 32768

pub next_there : (bytes key value : List ℕ) → IsBuilt bytes → room_of (entries_in bytes ++ (key, value) ∷ []) ≤ 32768
    → HasNext bytes key value
next_there bytes key value built room = record {
  room = omega (arith, room_pushed bytes (key, value) built);
  inside = omega (arith, end_inside bytes built.each (count bytes) (omega arith));
}
