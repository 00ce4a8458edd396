-- The number that digits name, a digit at a time.
use Rattle.std.proofs.Common.{◌≡◌, ℕ, zero, suc, ◌+◌, ◌*◌, ◌^◌, ◌<◌, ◌≤◌, ◌&&◌, List, [], ◌∷◌, length, get_or, drop, refl, arith, add-one}
use Rattle.std.specs.Prelude.{nat_lt}
use Rattle.std.proofs.Math.Nat.{mul-le-mul_left}
use Rattle.std.proofs.Math.Pow.{pow_mono, pow-add}
use Rattle.std.specs.Char.{digit_value}
use Rattle.std.specs.Str.Parse.{digits_value_after}
use Rattle.celtree.specs.Digits.{all_digits}

-- digits make a number no smaller
pub digits_value_after-ge : (base n : ℕ) (ds : List ℕ) → 1 ≤ base → n ≤ digits_value_after base n ds
digits_value_after-ge base n [] h = omega arith
digits_value_after-ge base n (d ∷ ds) h =
    let more : n * base + digit_value d ≤ digits_value_after base (n * base + digit_value d) ds = digits_value_after-ge base (n * base + digit_value d) ds h in
    let grows : n ≤ n * base + digit_value d = omega (arith, mul-le-mul_left n h) in
    omega arith

module _ (base : ℕ) where
  digits_value_after-suc : (n : ℕ) (ds : List ℕ) (i : ℕ) → i < length ds → digits_value_after base n (drop i ds) ≡ digits_value_after base (n * base + digit_value (get_or ds i 0)) (drop (suc i) ds)
  digits_value_after-suc n [] i h = absurd (omega arith)
  digits_value_after-suc n (d ∷ ds) zero h = refl
  digits_value_after-suc n (d ∷ ds) (suc i) h = digits_value_after-suc n ds i (omega arith)

  pub digits_value_after-drop : (n : ℕ) (ds : List ℕ) (i : ℕ) → i < length ds → digits_value_after base n (drop i ds) ≡ digits_value_after base (n * base + digit_value (get_or ds i 0)) (drop (i + 1) ds)
  digits_value_after-drop n ds i h = rw add-one (digits_value_after-suc n ds i h)

  all_digits-suc : (ds : List ℕ) (i : ℕ) → i < length ds → all_digits base (drop i ds) ≡ nat_lt (digit_value (get_or ds i 0)) base && all_digits base (drop (suc i) ds)
  all_digits-suc [] i h = absurd (omega arith)
  all_digits-suc (d ∷ ds) zero h = refl
  all_digits-suc (d ∷ ds) (suc i) h = all_digits-suc ds i (omega arith)

  pub all_digits-drop : (ds : List ℕ) (i : ℕ) → i < length ds → all_digits base (drop i ds) ≡ nat_lt (digit_value (get_or ds i 0)) base && all_digits base (drop (i + 1) ds)
  all_digits-drop ds i h = rw add-one (all_digits-suc ds i h)

  pub digits_value_after-end : (n : ℕ) (ds : List ℕ) (i : ℕ) → length ds ≤ i → digits_value_after base n (drop i ds) ≡ n
  digits_value_after-end n [] zero h = refl
  digits_value_after-end n [] (suc i) h = refl
  digits_value_after-end n (d ∷ ds) zero h = absurd (omega arith)
  digits_value_after-end n (d ∷ ds) (suc i) h = digits_value_after-end n ds i (omega arith)

  -- a number that is past 64 bits at some digit stays so
  pub too_large : (n v : ℕ) (ds : List ℕ) (i : ℕ) → 1 ≤ base → i < length ds → 2 ^ 64 ≤ n * base + digit_value (get_or ds i 0) → digits_value_after base n (drop i ds) ≡ v → v < 2 ^ 64 → ⊥
  too_large n v ds i h lt large e small =
      omega (arith, digits_value_after-drop n ds i lt, digits_value_after-ge base (n * base + digit_value (get_or ds i 0)) (drop (i + 1) ds) h)

  -- a further digit makes at most sixteen times as much
  pub below_next : (n d i : ℕ) → base ≤ 16 → d < base → n < 2 ^ (4 * i) → n * base + d < 2 ^ (4 * (i + 1))
  below_next n d i h small below =
      let grows : n * base ≤ n * 16 = mul-le-mul_left n h in
      let next : 4 * (i + 1) ≡ 4 * i + 4 = omega arith in
      let power : 2 ^ (4 * i + 4) ≡ 2 ^ (4 * i) * 16 = pow-add 2 (4 * i) 4 in
      rw (next, power) (omega arith)

  -- eight hexadecimal digits fit 32 bits
  pub below_limit : (n i : ℕ) → i ≤ 8 → n < 2 ^ (4 * i) → n < 2 ^ 32
  below_limit n i h small =
      let grows : 2 ^ (4 * i) ≤ 2 ^ 32 = let le : 4 * i ≤ 32 = omega arith in pow_mono le in
      omega arith
