-- The numbers in bytes.
use Rattle.std.proofs.Common.{arith, ◌≡◌, ◌∙◌, ℕ, suc, add-zero, add-one, ◌+◌, ◌*◌, List, drop, slice_index}
use Rattle.std.proofs.lemmas.List.{get_or-drop}
use Rattle.byteorder.specs.Endian.{big_number}
use Rattle.pages.specs.Page.{number_at}

pub number_is : (at : ℕ) (bytes : List ℕ) → number_at at bytes ≡ slice_index bytes at * 256 + slice_index bytes (at + 1)
unfolding number_at
number_is at bytes =
    let next : slice_index bytes (suc at) ≡ slice_index bytes (at + 1) = rw add-one in
    omega (arith, next)

pub number_read : (at : ℕ) (bytes : List ℕ) → big_number 2 (drop at bytes) ≡ number_at at bytes
number_read at bytes =
    let here : slice_index (drop at bytes) 0 ≡ slice_index bytes at = get_or-drop at bytes 0 0 ∙ rw add-zero in
    omega (arith, number_is at bytes, here, get_or-drop at bytes 1 0)
