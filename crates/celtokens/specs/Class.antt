-- What a character can begin: a blank, a word, a number, a string, or a comment or sign.
use Rattle.std.specs.Prelude.{◌≡◌, ℕ, Bool, ◌||◌, ◌==◌, Option, Some, None, List, [], ◌∷◌, if◌then◌else◌}
use Rattle.std.specs.Char.{is_ascii_alphabetic, is_ascii_digit}
use Rattle.celtokens.specs.declared.class.Class.{Class}
use Rattle.celtokens.specs.declared.class.Class.TheVariants as class_of

-- `"` and `'`
abbrev pub is_quote : ℕ → Bool
is_quote c = c == 34 || c == 39

-- tab, LF, FF, CR and space are blanks, letters and `_` begin words, digits numbers, `"` and `'` strings
abbrev pub class : ℕ → Class
class c =
    if c == 9 || (c == 10 || (c == 12 || (c == 13 || c == 32))) then class_of.Blank
    else (if is_ascii_alphabetic c || c == 95 then class_of.Letter
    else (if is_ascii_digit c then class_of.Digit
    else (if is_quote c then class_of.Quote else class_of.Other)))

-- the quote in front
abbrev pub first_quote : List ℕ → Option ℕ
first_quote [] = None
first_quote (c ∷ i) = if is_quote c then Some c else None

-- the first character is of the class
abbrev pub StartsWith : Class → List ℕ → Type 0
StartsWith k [] = ⊥
StartsWith k (c ∷ i) = class c ≡ k
