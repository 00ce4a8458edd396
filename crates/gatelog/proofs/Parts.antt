-- Parts of contents that agree.
use Rattle.std.proofs.Common.{arith, ◌≡◌, ◌∙◌, sym, ap, subst, ⊎_elim, ◌<◌, ◌≤◌, ◌+◌, ◌*◌, ◌-◌, ℕ, List, length, take, drop, slice_index}
use Rattle.std.proofs.lemmas.List.{length-take, length-drop, get_or-take, get_or-drop, get_or_past, ext_get_or}
use Rattle.std.proofs.lemmas.Bool.{cases_lt}
use Rattle.byteorder.specs.Endian.{big_number}
use Rattle.byteorder.specs.Numbers.{big_from-take}
use Rattle.gatelog.specs.Record.{part, Agree, sectors, IsRecord}

pub length-part : (at n : ℕ) (c : List ℕ) → at + n ≤ length c → length (part at n c) ≡ n
length-part at n c inside = omega (arith, length-take n (drop at c), length-drop at c)

pub get-part : (at n k : ℕ) (c : List ℕ) → k < n → slice_index (part at n c) k ≡ slice_index c (at + k)
get-part at n k c lt = get_or-take n (drop at c) k 0 lt ∙ get_or-drop at c k 0

pub part-agree : (at n : ℕ) (old new : List ℕ) → at + n ≤ length old → at + n ≤ length new → Agree at (at + n) old new → part at n new ≡ part at n old
part-agree at n old new in_old in_new agree = ext_get_or 0 (part at n new) (part at n old)
    (length-part at n new in_new ∙ sym (length-part at n old in_old))
    (λ k lt.
    let here : k < n = omega (arith, length-part at n new in_new) in
    get-part at n k new here ∙ agree (at + k) (omega arith) (omega arith) ∙ sym (get-part at n k old here))

pub agree-part : (at n : ℕ) (old new : List ℕ) → part at n new ≡ part at n old → Agree at (at + n) old new
agree-part at n old new same k low high =
    let e : at + (k - at) ≡ k = omega arith in
    let here : k - at < n = omega arith in
    let P : ℕ → Type 0 = λ j. slice_index new j ≡ slice_index old j in
    subst P e (sym (get-part at n (k - at) new here) ∙ ap (λ (x : List ℕ). slice_index x (k - at)) same ∙ get-part at n (k - at) old here)

pub agree-take : (n : ℕ) (old new : List ℕ) → take n new ≡ take n old → Agree 0 n old new
agree-take n old new same k low high = sym (get_or-take n new k 0 high) ∙ ap (λ (x : List ℕ). slice_index x k) same ∙ get_or-take n old k 0 high

pub reaches-take : (n : ℕ) (old new : List ℕ) → take n new ≡ take n old → n ≤ length old → n ≤ length new
reaches-take n old new same inside = omega (arith, length-take n new, length-take n old, ap length same)

pub record_body : (payload body : List ℕ) → length payload ≤ 67108864 → 512 * sectors payload ≤ length body → big_number 4 body ≡ length payload
    → part 4 (length payload) body ≡ payload → ((k : ℕ) → length payload + 4 ≤ k → slice_index body k ≡ 0) → IsRecord payload (take (512 * sectors payload) body)
record_body payload body limit inside size bytes zeros = record {
  whole = omega (arith, length-take (512 * sectors payload) body);
  limit = limit;
  size = big_from-take 0 4 (512 * sectors payload) body (omega arith) ∙ size;
  bytes = part-agree 4 (length payload) body (take (512 * sectors payload) body) (omega (arith, inside)) (omega (arith, inside, length-take (512 * sectors payload) body))
      (λ k low high. get_or-take (512 * sectors payload) body k 0 (omega arith)) ∙ bytes;
  zeros = λ k high. ⊎_elim
      (λ lt. get_or-take (512 * sectors payload) body k 0 lt ∙ zeros k high)
      (λ past. get_or_past (take (512 * sectors payload) body) k 0 (omega (arith, length-take (512 * sectors payload) body)))
      (cases_lt k (512 * sectors payload));
}
