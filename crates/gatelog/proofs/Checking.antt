-- How a record's body is checked.
use Rattle.std.proofs.Common.{arith, ◌≡◌, ◌∙◌, sym, ap, subst, ⊎_elim, ◌<◌, ◌≤◌, ◌+◌, ◌*◌, ◌-◌, ℕ, List, length, take, drop, slice_index}
use Rattle.std.proofs.lemmas.Bool.{cases_lt}
use Rattle.std.proofs.lemmas.List.{take_all, length-take, length-drop, get_or-drop, get_or_past, ext_get_or}
use Rattle.byteorder.specs.Endian.{big_number}
use Rattle.byteorder.specs.Numbers.{big_from-take}
use Rattle.gatelog.specs.Record.{part, sectors, body_sectors, IsRecord}
use Rattle.gatelog.specs.Walk.{HoldsRecord}
use Rattle.gatelog.proofs.Parts.{length-part, get-part}
use Rattle.gatelog.proofs.Walking.{size-here}

pub part-part : (from at n m : ℕ) (c : List ℕ) → from + n ≤ m → at + m ≤ length c → part from n (part at m c) ≡ part (at + from) n c
part-part from at n m c within room =
    let outer = length-part at m c room in
    ext_get_or 0 (part from n (part at m c)) (part (at + from) n c)
    (length-part from n (part at m c) (omega (arith, outer)) ∙ sym (length-part (at + from) n c (omega arith)))
    (λ k lt.
    let here : k < n = omega (arith, length-part from n (part at m c) (omega (arith, outer))) in
    let e : at + (from + k) ≡ at + from + k = omega arith in
    get-part from n k (part at m c) here ∙ get-part at m (from + k) c (omega arith) ∙ ap (slice_index c) e ∙ sym (get-part (at + from) n k c here))

number-here : (at n : ℕ) (c : List ℕ) → 4 ≤ n → big_number 4 (part at n c) ≡ big_number 4 (drop at c)
number-here at n c four = big_from-take 0 4 n (drop at c) four

-- the place of a byte in the last sector of a body
in-last : (at count k : ℕ) (c last : List ℕ) → 512 * (count - 1) ≤ k → k < 512 * count → last ≡ part (512 * (at + count - 1)) 512 c
    → slice_index last (k - 512 * (count - 1)) ≡ slice_index c (512 * at + k)
in-last at count k c last low high is_last =
    let e : 512 * (at + count - 1) + (k - 512 * (count - 1)) ≡ 512 * at + k = omega arith in
    ap (λ (x : List ℕ). slice_index x (k - 512 * (count - 1))) is_last ∙ get-part (512 * (at + count - 1)) 512 (k - 512 * (count - 1)) c (omega arith) ∙ ap (slice_index c) e

-- a body that was checked is a record's
pub body-found : (at size end : ℕ) (first last c : List ℕ) → length c ≡ 512 * end → size ≤ 67108864 → at + body_sectors size ≤ end
    → first ≡ part (512 * at) 512 c → size ≡ big_number 4 first → last ≡ part (512 * (at + body_sectors size - 1)) 512 c
    → ((k : ℕ) → slice_index (drop (4 + size - 512 * (body_sectors size - 1)) last) k ≡ 0)
    → (payload : List ℕ) × (body_sectors size ≡ sectors payload) × HoldsRecord at payload c
body-found at size end first last c whole limit room is_first is_size is_last zeros =
    let count = body_sectors size in
    let payload = part (512 * at + 4) size c in
    let length_payload : length payload ≡ size = length-part (512 * at + 4) size c (omega (arith, whole, room)) in
    let same_count : body_sectors size ≡ sectors payload = ap body_sectors (sym length_payload) in
    let P : ℕ → Type 0 = λ n. IsRecord payload (part (512 * at) (512 * n) c) in
    let body_size : length (part (512 * at) (512 * count) c) ≡ 512 * count = length-part (512 * at) (512 * count) c (omega (arith, whole, room)) in
    let bytes_at : ℕ → Type 0 = λ n. part 4 n (part (512 * at) (512 * count) c) ≡ payload in (
      payload,
      same_count,
      subst P same_count record {
        whole = body_size ∙ ap (λ (n : ℕ). 512 * n) same_count;
        limit = omega (arith, length_payload, limit);
        size = number-here (512 * at) (512 * count) c (omega arith) ∙ sym (number-here (512 * at) 512 c (omega arith)) ∙ ap (big_number 4) (sym is_first) ∙ sym is_size ∙ sym length_payload;
        bytes = subst bytes_at (sym length_payload) (part-part 4 (512 * at) size (512 * count) c (omega arith) (omega (arith, whole, room)));
        zeros = λ k high. ⊎_elim
            (λ lt.
            let used = 4 + size - 512 * (count - 1) in
            let past_used : used + (k - 512 * (count - 1) - used) ≡ k - 512 * (count - 1) = omega (arith, length_payload) in
            get-part (512 * at) (512 * count) k c lt ∙ sym (in-last at count k c last (omega (arith, length_payload)) lt is_last)
            ∙ sym (ap (slice_index last) past_used) ∙ sym (get_or-drop used last (k - 512 * (count - 1) - used) 0) ∙ zeros (k - 512 * (count - 1) - used))
            (λ past. get_or_past (part (512 * at) (512 * count) c) k 0 (omega (arith, body_size)))
            (cases_lt k (512 * count));
      },
    )

-- a record's body lies inside of the device
pub body-inside : (at end : ℕ) (payload c : List ℕ) → length c ≡ 512 * end → HoldsRecord at payload c → at + sectors payload ≤ end
body-inside at end payload c whole holds =
    omega (arith, whole, holds.whole, length-take (512 * sectors payload) (drop (512 * at) c), length-drop (512 * at) c)

-- its first sector has its length
pub body-size : (at size : ℕ) (first payload c : List ℕ) → first ≡ part (512 * at) 512 c → size ≡ big_number 4 first → HoldsRecord at payload c → size ≡ length payload
body-size at size first payload c is_first is_size holds = is_size ∙ ap (big_number 4) is_first ∙ number-here (512 * at) 512 c (omega arith) ∙ size-here at payload c holds

-- and its last sector ends in zeros
pub body-zeros : (at size : ℕ) (last payload c : List ℕ) → size ≡ length payload → last ≡ part (512 * (at + body_sectors size - 1)) 512 c → HoldsRecord at payload c
    → (k : ℕ) → slice_index (drop (4 + size - 512 * (body_sectors size - 1)) last) k ≡ 0
body-zeros at size last payload c is_size is_last holds k = get_or-drop used last k 0 ∙ ⊎_elim
    (λ lt.
    let back : used + k ≡ (512 * (count - 1) + (used + k)) - 512 * (count - 1) = omega arith in
    let inner : 512 * (count - 1) + (used + k) < 512 * count = omega arith in
    let same_count : count ≡ sectors payload = ap body_sectors is_size in
    ap (slice_index last) back ∙ in-last at count (512 * (count - 1) + (used + k)) c last (omega arith) inner is_last
    ∙ sym (get-part (512 * at) (512 * sectors payload) (512 * (count - 1) + (used + k)) c (omega (arith, same_count, inner)))
    ∙ holds.zeros (512 * (count - 1) + (used + k)) (omega (arith, is_size)))
    (λ past. get_or_past last (used + k) 0 (omega (arith, ap length is_last, length-take 512 (drop (512 * (at + count - 1)) c))))
    (cases_lt (used + k) 512)
  where
    count : ℕ
    count = body_sectors size

    used : ℕ
    used = 4 + size - 512 * (body_sectors size - 1)

-- past the end there is no byte
pub all-zeros : (bytes : List ℕ) → ((k : ℕ) → k < length bytes → slice_index bytes k ≡ 0) → (k : ℕ) → slice_index bytes k ≡ 0
all-zeros bytes inside k = ⊎_elim (λ lt. inside k lt) (λ past. get_or_past bytes k 0 past) (cases_lt k (length bytes))

-- the end of a slice
pub slice-tail : (size used : ℕ) (bytes : List ℕ) → length bytes ≡ size → take (size - used) (drop used bytes) ≡ drop used bytes
slice-tail size used bytes whole = take_all (size - used) (drop used bytes) (omega (arith, length-drop used bytes, whole))

-- behind the device's end stands none
pub none_behind : (at end : ℕ) (payload c : List ℕ) → length c ≡ 512 * end → HoldsRecord at payload c → end ≤ at → ⊥
none_behind at end payload c whole holds behind = omega (arith, body-inside at end payload c whole holds)
