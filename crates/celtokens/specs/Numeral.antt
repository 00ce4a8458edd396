-- The spelling of whole numbers.
use Rattle.std.specs.Prelude.{◌≡◌, ℕ, Bool, true, false, ◌&&◌, ◌||◌, ◌==◌, ◌<◌, ◌⊎◌, length, Option, Some, None, List, ◌∷◌, if◌then◌else◌}
use Rattle.std.specs.Str.Parse.{digits_value}
use Rattle.celtokens.specs.declared.run.Kind.TheVariants as kind
use Rattle.celtokens.specs.Run.{is_in, Run}

-- A digit and some that follow it name a number in base ten, and `0x` with at least one hexadecimal digit one in base sixteen:
-- the first character, what follows it, the number, and what follows that.
pub data Numeral : ℕ → List ℕ → ℕ → List ℕ → Type 0 where
  decimal : {c : ℕ} {i r : List ℕ} (ds : List ℕ) → Run kind.Digit i ds r → Numeral c i (digits_value 10 (c ∷ ds)) r
  hexadecimal : {i r : List ℕ} (h : ℕ) (hs : List ℕ) → is_in kind.HexDigit h ≡ true → Run kind.HexDigit i hs r → Numeral 48 (120 ∷ h ∷ i) (digits_value 16 (h ∷ hs)) r

-- `u` or `U` marks a number as unsigned
abbrev pub is_u : ℕ → Bool
is_u c = c == 117 || c == 85

-- the hexadecimal digits and the rest after `0x`, if there is such a digit
abbrev pub after_hex_prefix : List ℕ → Option (List ℕ)
after_hex_prefix (z ∷ x ∷ d ∷ ds) = if z == 48 && (x == 120 && is_in kind.HexDigit d) then Some (d ∷ ds) else None
after_hex_prefix _ = None

-- the first character passes no test
abbrev pub FirstIsNot : (ℕ → Bool) → List ℕ → Type 0
FirstIsNot test l = (c : ℕ) (i : List ℕ) → l ≡ c ∷ i → test c ≡ false

-- the first character passes a test, and rest follows it
abbrev pub FirstIs : (ℕ → Bool) → List ℕ → List ℕ → Type 0
FirstIs test l rest = (c : ℕ) × (l ≡ c ∷ rest) × (test c ≡ true)

-- The longest numeral at the front of i, its number n, and what follows it. A shorter one goes on with a digit, and so with no `u`.
pub record BestNumeral (i : List ℕ) (n : ℕ) (r : List ℕ) : Type 0 where
  pub first : ℕ
  pub rest : List ℕ
  pub is : i ≡ first ∷ rest
  pub numeral : Numeral first rest n r
  pub others : (m : ℕ) (s : List ℕ) → Numeral first rest m s → ((length r < length s) × FirstIsNot is_u s) ⊎ ((m ≡ n) × (s ≡ r))
