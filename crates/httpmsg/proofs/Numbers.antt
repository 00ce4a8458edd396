-- A number that is read with a ceiling is the number of its digits under that ceiling.
use Rattle.std.proofs.Common.{◌≡◌, ℕ, suc, ◌+◌, ◌-◌, ◌*◌, ◌<◌, List, [], ◌∷◌, true, min, arith, get_or, drop, length, add-one}
use Rattle.std.specs.Char.{digit_value, is_ascii_digit}
use Rattle.std.specs.Str.Parse.{digits_value_after}
use Rattle.std.proofs.Math.Seq.{drop-cons}
use Rattle.std.proofs.lemmas.Bool.Decides.{nat_tests}
use Rattle.std.proofs.lemmas.Str.{digit_value_digit}

-- two beginnings that are one number under the ceiling stay so
pub same_under : (most n m : ℕ) (digits : List ℕ) → min n most ≡ min m most
    → min (digits_value_after 10 n digits) most ≡ min (digits_value_after 10 m digits) most
same_under most n m [] same = same
same_under most n m (digit ∷ digits) same =
    same_under most (n * 10 + digit_value digit) (m * 10 + digit_value digit) digits (omega (arith, same))

-- one more digit
pub digit_step : (most : ℕ) (value : List ℕ) (i n next : ℕ) → i < length value → digit_value (get_or value i 0) + 48 ≡ get_or value i 0
    → next ≡ min (n * 10 + (get_or value i 0 - 48)) most
    → min (digits_value_after 10 next (drop (i + 1) value)) most ≡ min (digits_value_after 10 n (drop i value)) most
digit_step most value i n next below digit is =
    rw (drop-cons value i 0 below, add-one)
    (same_under most next (n * 10 + digit_value (get_or value i 0)) (drop (suc i) value) (omega (arith, is, digit)))

-- an ASCII digit stands 48 above its value
pub digit_above : (b : ℕ) → is_ascii_digit b ≡ true → digit_value b + 48 ≡ b
digit_above b is = digit_value_digit b (grind (arith, nat_tests))
