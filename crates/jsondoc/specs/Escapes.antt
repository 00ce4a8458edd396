-- What stands in a text for the bytes of a string (RFC 8259 section 7): the escapes that must be, in their shortest form.
use Rattle.std.specs.Prelude.{◌≡◌, ℕ, ◌+◌, ◌/◌, ◌%◌, ◌==◌, ◌^◌, ◌<◌, List, [], ◌∷◌, codes, if◌then◌else◌, nat_lt, Option, Some, None}
use Rattle.std.specs.Option.{option_map_or}
use Rattle.json.specs.Print.{escape_byte}

-- a byte with a short escape, and the letter after the backslash
abbrev short_escapes : List (ℕ × List ℕ)
short_escapes =
    (34, codes "\"") ∷ (92, codes "\\") ∷ (8, codes "b") ∷ (9, codes "t") ∷ (10, codes "n") ∷ (12, codes "f") ∷ (13, codes "r") ∷ []

abbrev short_escape_in : List (ℕ × List ℕ) → ℕ → Option (List ℕ)
short_escape_in [] b = None
short_escape_in (e ∷ es) b = if e.0 == b then Some (92 ∷ e.1) else short_escape_in es b

-- a hexadecimal digit, in small letters
abbrev hex_digit : ℕ → ℕ
hex_digit n = if nat_lt n 10 then 48 + n else 87 + n

-- What stands for a byte: its short escape, else `\u00` and two digits below 0x20, else the byte itself.
abbrev pub escape_of : ℕ → List ℕ
escape_of b =
    option_map_or (λ s. s) (short_escape_in short_escapes b)
    (if nat_lt b 32 then 92 ∷ 117 ∷ 48 ∷ 48 ∷ hex_digit (b / 16) ∷ hex_digit (b % 16) ∷ [] else b ∷ [])

-- A document's text has these escapes and no other.
abbrev pub EscapesAreStated : Type 0
EscapesAreStated = (b : ℕ) → b < 2 ^ 8 → escape_byte b ≡ escape_of b
