-- Bytes that agree with others from one place to another.
use Rattle.std.proofs.Common.{arith, ◌≡◌, ◌∙◌, sym, ap, ◌<◌, ◌≤◌, ◌+◌, ℕ, List, [], ◌++◌, length, take, drop, slice_index}
use Rattle.std.proofs.lemmas.List.{ext_get_or, get_or-take, get_or-drop, length-take, length-drop, append-nil}
use Rattle.byteorder.specs.Endian.{big_number, big_bytes}
use Rattle.byteorder.specs.Numbers.{big_number-reads_back}
use Rattle.pages.specs.Page.{number_at}
use Rattle.pages.proofs.Numbers.{number_is}

pub number_same : (at : ℕ) (old new : List ℕ) → ((k : ℕ) → at ≤ k → k ≤ at + 1 → slice_index new k ≡ slice_index old k)
    → number_at at new ≡ number_at at old
number_same at old new same =
    omega (arith, number_is at old, number_is at new, same at (omega arith) (omega arith), same (at + 1) (omega arith) (omega arith))

pub number_put : (at n : ℕ) (two bytes : List ℕ) → n < 65536 → two ≡ big_bytes 2 n → slice_index bytes at ≡ slice_index two 0
    → slice_index bytes (at + 1) ≡ slice_index two 1 → number_at at bytes ≡ n
number_put at n two bytes small written first second =
    let number : big_number 2 (big_bytes 2 n ++ []) ≡ n = big_number-reads_back 2 n [] (omega arith) in
    let spelled : big_number 2 two ≡ n = ap (big_number 2) (written ∙ sym (append-nil (big_bytes 2 n))) ∙ number in
    omega (arith, number_is at bytes, first, second)

pub tail_same : (at : ℕ) (old new : List ℕ) → length new ≡ length old → ((k : ℕ) → at ≤ k → slice_index new k ≡ slice_index old k)
    → drop at new ≡ drop at old
tail_same at old new long same = ext_get_or 0 (drop at new) (drop at old) (omega (arith, length-drop at new, length-drop at old))
    (λ k l. get_or-drop at new k 0 ∙ same (at + k) (omega arith) ∙ sym (get_or-drop at old k 0))

pub front_same : (n : ℕ) (old new : List ℕ) → length new ≡ length old → ((k : ℕ) → k < n → slice_index new k ≡ slice_index old k)
    → take n new ≡ take n old
front_same n old new long same = ext_get_or 0 (take n new) (take n old) (omega (arith, length-take n new, length-take n old))
    (λ k l.
    let here : k < n = omega (arith, length-take n new) in
    get_or-take n new k 0 here ∙ same k here ∙ sym (get_or-take n old k 0 here))

pub length-part : (at n : ℕ) (bytes : List ℕ) → at + n ≤ length bytes → length (take n (drop at bytes)) ≡ n
length-part at n bytes inside = omega (arith, length-take n (drop at bytes), length-drop at bytes)

pub part_is : (at : ℕ) (part bytes : List ℕ) → at + length part ≤ length bytes
    → ((k : ℕ) → k < length part → slice_index bytes (at + k) ≡ slice_index part k) → take (length part) (drop at bytes) ≡ part
part_is at part bytes inside same =
    let size = length-part at (length part) bytes inside in
    ext_get_or 0 (take (length part) (drop at bytes)) part size
    (λ k l.
    let here : k < length part = omega (arith, size) in
    get_or-take (length part) (drop at bytes) k 0 here ∙ get_or-drop at bytes k 0 ∙ same k here)
