-- Texts (CEL language definition, "String functions" and "Type conversions").
use Rattle.std.specs.Prelude.{ℕ, pos, neg_ℤ, Bool, false, ◌||◌, ◌==◌, if◌then◌else◌, List, [], ◌∷◌, length, chars}
use Rattle.std.specs.List.{starts_with, ends_with}
use Rattle.std.specs.Str.Parse.{digits_value}
use Rattle.celtree.specs.Digits.{all_digits}
use Rattle.celmean.specs.Value.{Outcome, Error}
use Rattle.celmean.specs.Arithmetic.{signed, unsigned}

abbrev pub text_starts_with : List ℕ → List ℕ → Bool
text_starts_with s t = starts_with ◌==◌ s t

abbrev pub text_ends_with : List ℕ → List ℕ → Bool
text_ends_with s t = ends_with ◌==◌ s t

-- t stands at the front of s, or further on
abbrev pub text_contains : List ℕ → List ℕ → Bool
text_contains [] t = text_starts_with [] t
text_contains (c ∷ s) t = text_starts_with (c ∷ s) t || text_contains s t

-- how many code points a text has
abbrev pub text_size : List ℕ → Outcome
text_size s = signed (pos (length (chars s)))

-- one decimal digit or more
abbrev pub is_numeral : List ℕ → Bool
is_numeral [] = false
is_numeral (d ∷ ds) = all_digits 10 (d ∷ ds)

-- decimal digits in 64 bits
abbrev pub unsigned_of_text : List ℕ → Outcome
unsigned_of_text s = if is_numeral s then unsigned (digits_value 10 s) else Error

abbrev positive_of_text : List ℕ → Outcome
positive_of_text s = if is_numeral s then signed (pos (digits_value 10 s)) else Error

abbrev negative_of_text : List ℕ → Outcome
negative_of_text s = if is_numeral s then signed (neg_ℤ (pos (digits_value 10 s))) else Error

-- the same, perhaps after a minus sign, in 64 signed bits
abbrev pub signed_of_text : List ℕ → Outcome
signed_of_text [] = Error
signed_of_text (c ∷ s) = if c == 45 then negative_of_text s else positive_of_text (c ∷ s)
