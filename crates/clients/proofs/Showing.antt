-- A text is shown as one word.
use Rattle.std.proofs.Common.{arith, ◌≡◌, ◌<◌, ◌+◌, ◌/◌, ◌%◌, ℕ, Bool, true, false, cond, nat_lt, refl, List, [], ◌∷◌, ◌++◌}
use Rattle.std.specs.List.{AllByRecursion}
use Rattle.std.proofs.lemmas.Bool.{and_parts}
use Rattle.std.proofs.lemmas.Bool.Decides.{nat_tests}
use Rattle.clients.specs.Journal.{IsVisible, is_plain, hex_digit, shown_byte, shown}

all-append : (xs ys : List ℕ) → AllByRecursion IsVisible xs → AllByRecursion IsVisible ys → AllByRecursion IsVisible (xs ++ ys)
all-append [] ys first second = second
all-append (x ∷ xs) ys first second = (first.0, all-append xs ys first.1 second)

hex_is_visible : (n : ℕ) → n < 16 → IsVisible (hex_digit n)
hex_is_visible n small = on (nat_lt n 10)
  where
    on : (b : Bool) → IsVisible (cond b (48 + n) (55 + n))
    on true = (omega arith, omega (arith, small))
    on false = (omega arith, omega (arith, small))

byte_is_visible : (b : ℕ) → b < 256 → AllByRecursion IsVisible (shown_byte b)
byte_is_visible b small = on (is_plain b) refl
  where
    plain : is_plain b ≡ true → IsVisible b
    plain is =
        let parts = and_parts (nat_lt 32 b) (nat_lt b 127) is in
        let above = parts.0 in
        let below = parts.1 in
        (grind (arith, nat_tests, above), grind (arith, nat_tests, below))

    on : (c : Bool) → is_plain b ≡ c → AllByRecursion IsVisible (cond c (b ∷ []) (37 ∷ hex_digit (b / 16) ∷ hex_digit (b % 16) ∷ []))
    on true is = (plain is, tt)
    on false is = ((omega arith, omega arith), (hex_is_visible (b / 16) (omega (arith, small)), (hex_is_visible (b % 16) (omega arith), tt)))

pub shown_is_visible : (text : List ℕ) → AllByRecursion (λ b. b < 256) text → AllByRecursion IsVisible (shown text)
shown_is_visible [] bytes = tt
shown_is_visible (b ∷ text) bytes = all-append (shown_byte b) (shown text) (byte_is_visible b bytes.0) (shown_is_visible text bytes.1)
