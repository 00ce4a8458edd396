-- Zeros from an offset on.
use Rattle.std.proofs.Common.{◌≡◌, ◌+◌, ◌-◌, ◌<◌, ◌≤◌, ◌⊎◌, inl, inr, ℕ, List, length, drop, get_or, ap, sym, ◌∙◌, arith, refl, Bool, true, false, nat_lt}
use Rattle.std.proofs.lemmas.Bool.Decides.{nat_tests}
use Rattle.std.specs.Prelude.{EachIndex, slice_index}
use Rattle.std.proofs.lemmas.List.{get_or-drop, get_or_past}

below_or_past : (k n : ℕ) → (k < n) ⊎ (n ≤ k)
below_or_past k n = decide (nat_lt k n) refl
  where
    decide : (t : Bool) → nat_lt k n ≡ t → (k < n) ⊎ (n ≤ k)
    decide true e = inl (grind (arith, nat_tests))
    decide false e = inr (grind (arith, nat_tests))

pub zeros_from : (n : ℕ) (bytes : List ℕ) → EachIndex (drop n bytes) (λ k. slice_index (drop n bytes) k ≡ 0) → (k : ℕ) → n ≤ k → slice_index bytes k ≡ 0
zeros_from n bytes each k behind =
    let place : n + (k - n) ≡ k = omega arith in
    let here : get_or (drop n bytes) (k - n) 0 ≡ 0 = elim (below_or_past (k - n) (length (drop n bytes))) as (λ _. get_or (drop n bytes) (k - n) 0 ≡ 0) [
      | inl inside ↦ each (k - n) inside
      | inr past ↦ get_or_past (drop n bytes) (k - n) 0 past
    ]
    in
    ap (λ i. get_or bytes i 0) (sym place) ∙ sym (get_or-drop n bytes (k - n) 0) ∙ here

pub each_zero : (n : ℕ) (bytes : List ℕ) → ((k : ℕ) → n ≤ k → slice_index bytes k ≡ 0) → EachIndex (drop n bytes) (λ k. slice_index (drop n bytes) k ≡ 0)
each_zero n bytes zeros = λ k inside. get_or-drop n bytes k 0 ∙ zeros (n + k) (omega arith)
