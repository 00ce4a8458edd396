-- How a body gathers its payload.
use Rattle.std.proofs.Common.{rules, arith, refl, ◌≡◌, ◌∙◌, sym, ap, ⊎_elim, ◌<◌, ◌≤◌, ◌+◌, ◌-◌, ◌++◌, ℕ, List, length, take, drop, replicate, slice_index}
use Rattle.std.proofs.lemmas.Bool.{cases_lt}
use Rattle.std.proofs.lemmas.List.{places, take_all, same_lists, ext_get_or, length-append, length-replicate, get_or-replicate, get_or_past, get_or_append_left, get_or-append_right}
use Rattle.byteorder.specs.Endian.{big_number}
use Rattle.gatelog.specs.Record.{part}
use Rattle.gatelog.proofs.Parts.{length-part, get-part}

pub replicate-zero : (n k : ℕ) → slice_index (replicate n 0) k ≡ 0
replicate-zero n k = ⊎_elim (λ lt. get_or-replicate n k 0 0 lt) (λ past. get_or_past (replicate n 0) k 0 (omega (arith, length-replicate {A = ℕ} n 0))) (cases_lt k n)

pub big_number-zeros : (bytes : List ℕ) → ((k : ℕ) → slice_index bytes k ≡ 0) → big_number 4 bytes ≡ 0
big_number-zeros bytes zeros = rw (zeros 0, zeros 1, zeros 2, zeros 3) refl

-- zeros at the end change no byte, since there is none past the end
pub get-grown : (n m : ℕ) (bytes : List ℕ) (k : ℕ) → length bytes ≤ n → slice_index (take n bytes ++ replicate m 0) k ≡ slice_index bytes k
get-grown n m bytes k le = rw (take_all n bytes le) (⊎_elim
    (λ lt. get_or_append_left bytes (replicate m 0) 0 k lt)
    (λ past. get_or-append_right bytes (replicate m 0) (length bytes) k 0 refl past ∙ replicate-zero m (k - length bytes) ∙ sym (get_or_past bytes k 0 past))
    (cases_lt k (length bytes)))

-- bytes at the end of what was gathered
pub part-extended : (at n : ℕ) (old new more : List ℕ) → at + n ≤ length old → at + (n + length more) ≤ length new
    → ((k : ℕ) → at ≤ k → k < at + n → slice_index new k ≡ slice_index old k)
    → ((k : ℕ) → k < length more → slice_index new (at + n + k) ≡ slice_index more k) → part at (n + length more) new ≡ part at n old ++ more
part-extended at n old new more in_old in_new same added =
    let sizes = length-part at (n + length more) new in_new in
    let front = length-part at n old in_old in
    ext_get_or 0 (part at (n + length more) new) (part at n old ++ more) (omega (arith, sizes, front, length-append (part at n old) more))
    (λ k lt.
    let here : k < n + length more = omega (arith, sizes) in
    ⊎_elim
    (λ below.
    get-part at (n + length more) k new here ∙ same (at + k) (omega arith) (omega arith) ∙ sym (get-part at n k old below)
    ∙ sym (get_or_append_left (part at n old) more 0 k (omega (arith, front))))
    (λ above.
    let e : at + k ≡ at + n + (k - n) = omega arith in
    get-part at (n + length more) k new here ∙ ap (slice_index new) e ∙ added (k - n) (omega arith)
    ∙ sym (get_or-append_right (part at n old) more n k 0 front above))
    (cases_lt k n))

-- bytes inside of what was gathered
pub part-put : (at n from : ℕ) (with bytes : List ℕ) → from + length with ≤ n → at + n ≤ length bytes
    → part at n (take (at + from) bytes ++ with ++ drop (at + from + length with) bytes) ≡ take from (part at n bytes) ++ with ++ drop (from + length with) (part at n bytes)
part-put at n from with bytes inside room = same_lists _ _ (search (rules, places)) (λ k d h. grind (arith, places))
