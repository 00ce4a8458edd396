-- Where the cells of a page lie.
use Rattle.std.proofs.Common.{arith, ◌≡◌, ◌∙◌, sym, ap, subst, add-one, ⊎_elim, ◌<◌, ◌≤◌, ◌+◌, ◌*◌, ◌-◌, ℕ, zero, suc, List, length, take, drop, slice_index}
use Rattle.std.proofs.lemmas.Bool.{cases_lt}
use Rattle.std.proofs.lemmas.List.{get_or-take, get_or-drop, length-take, length-drop}
use Rattle.std.specs.Prelude.{EachIndex}
use Rattle.pages.specs.Page.{count, offset, size, cell_end, IsSlot, HasSlots}

abbrev pub AllSlots : List ℕ → Type 0
AllSlots bytes = (i : ℕ) → i < count bytes → IsSlot bytes i

pub cell_end_next : (i : ℕ) (bytes : List ℕ) → cell_end (i + 1) bytes ≡ offset i bytes
cell_end_next i bytes = ap (λ n. cell_end n bytes) (add-one i)

pub end_inside : (bytes : List ℕ) → AllSlots bytes → (i : ℕ) → i ≤ count bytes → cell_end i bytes ≤ 32768
end_inside bytes each zero l = omega arith
end_inside bytes each (suc i) l = omega (arith, (each i (omega arith)).ends, end_inside bytes each i (omega arith))

-- the cells in front of a slot's end are those of the slots behind it
pub ends_fall : (bytes : List ℕ) → AllSlots bytes → (n i : ℕ) → i < n → n ≤ count bytes → cell_end n bytes ≤ offset i bytes
ends_fall bytes each zero i l m = absurd (omega arith)
ends_fall bytes each (suc n) i l m = ⊎_elim
    (λ lt. omega (arith, (each n (omega arith)).ends, ends_fall bytes each n i lt (omega arith)))
    (λ past. let same : n ≡ i = omega arith in omega (arith, ap (λ k. offset k bytes) same))
    (cases_lt i n)

pub end_behind : (bytes : List ℕ) → HasSlots bytes → (i : ℕ) → i ≤ count bytes → 8 + 4 * count bytes ≤ cell_end i bytes
end_behind bytes slots zero l = omega (arith, (slots.each 0 slots.some).behind, (slots.each 0 slots.some).ends)
end_behind bytes slots (suc i) l = omega (arith, (slots.each i (omega arith)).behind)

pub slots_inside : (bytes : List ℕ) → HasSlots bytes → 8 + 4 * count bytes ≤ 32768
slots_inside bytes slots = end_behind bytes slots 0 (omega arith)

pub cell_inside : (bytes : List ℕ) → HasSlots bytes → (i : ℕ) → i < count bytes → offset i bytes + size i bytes ≤ 32768
cell_inside bytes slots i l = omega (arith, (slots.each i l).ends, end_inside bytes slots.each i (omega arith))

-- zeros in a part are zeros in the bytes
pub zeros_of_part : (at n : ℕ) (bytes : List ℕ) → at + n ≤ length bytes
    → EachIndex (take n (drop at bytes)) (λ k. slice_index (take n (drop at bytes)) k ≡ 0)
    → (k : ℕ) → at ≤ k → k < at + n → slice_index bytes k ≡ 0
zeros_of_part at n bytes inside zeros k low high =
    let there : at + (k - at) ≡ k = omega arith in
    let P : ℕ → Type 0 = λ j. slice_index bytes j ≡ 0 in
    subst P there (sym (get_or-take n (drop at bytes) (k - at) 0 (omega arith) ∙ get_or-drop at bytes (k - at) 0)
    ∙ zeros (k - at) (omega (arith, length-take n (drop at bytes), length-drop at bytes)))

pub part_of_zeros : (at n : ℕ) (bytes : List ℕ) → at + n ≤ length bytes → ((k : ℕ) → at ≤ k → k < at + n → slice_index bytes k ≡ 0)
    → EachIndex (take n (drop at bytes)) (λ k. slice_index (take n (drop at bytes)) k ≡ 0)
part_of_zeros at n bytes inside zeros k lt =
    let here : k < n = omega (arith, length-take n (drop at bytes)) in
    get_or-take n (drop at bytes) k 0 here ∙ get_or-drop at bytes k 0 ∙ zeros (at + k) (omega arith) (omega arith)
