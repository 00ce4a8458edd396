-- String literals: quotes, escapes, raw and tripled ones.
use Rattle.std.specs.Prelude.{◌≡◌, ℕ, Bool, true, not, ◌&&◌, ◌||◌, ◌==◌, ◌<◌, ◌⊎◌, length, Option, Some, None, List, [], ◌∷◌, if◌then◌else◌}
use Rattle.celtokens.specs.declared.text.Style.{Style}
use Rattle.celtokens.specs.Class.{is_quote}
use Rattle.celtokens.specs.Run.{is_line_end}
use Rattle.celtokens.specs.Escape.{escape}

-- what follows three of the quote, if they stand in front
abbrev pub after_three : ℕ → List ℕ → Option (List ℕ)
after_three q (a ∷ b ∷ c ∷ r) = if a == q && (b == q && c == q) then Some r else None
after_three q _ = None

-- what follows one of the quote, if it stands in front
abbrev pub after_one : ℕ → List ℕ → Option (List ℕ)
after_one q (a ∷ r) = if a == q then Some r else None
after_one q [] = None

-- what follows the delimiter, if it stands in front
abbrev pub after_delimiter : Style → List ℕ → Option (List ℕ)
after_delimiter s i = if s.tripled then after_three s.quote i else after_one s.quote i

-- the character in front of a string's rest: an escape, or itself; no line ends but between tripled quotes, no escapes in a raw string
abbrev pub character : Style → List ℕ → Option (ℕ × List ℕ)
character s [] = None
character s (c ∷ i) =
    if c == 92 && not s.raw then escape i
    else (if is_line_end c && not s.tripled then None else Some (c, i))

-- after the opening delimiter: the characters up to the first closing one, and what follows it
pub data Inside (s : Style) : List ℕ → List ℕ → List ℕ → Type 0 where
  closed : {i r : List ℕ} → after_delimiter s i ≡ Some r → Inside s i [] r
  next : {i m t r : List ℕ} {c : ℕ} → after_delimiter s i ≡ None → character s i ≡ Some (c, m) → Inside s m t r → Inside s i (c ∷ t) r

-- a string of a style: its delimiter and its inside
pub record IsTextOf (style : Style) (i t r : List ℕ) : Type 0 where
  pub inner : List ℕ
  pub opened : after_delimiter style i ≡ Some inner
  pub inside : Inside style inner t r

abbrev pub style_of : Bool → Bool → ℕ → Style
style_of raw tripled quote = record { raw = raw; tripled = tripled; quote = quote }

-- a string in either quote, tripled or not
pub record IsText (raw : Bool) (i t r : List ℕ) : Type 0 where
  pub tripled : Bool
  pub quote : ℕ
  pub is : is_quote quote ≡ true
  pub of : IsTextOf (style_of raw tripled quote) i t r

-- `r` or `R` marks a string as raw
abbrev pub is_r : ℕ → Bool
is_r c = c == 114 || c == 82

-- no closing delimiter follows
abbrev pub HasNoEnd : Style → List ℕ → Type 0
HasNoEnd style i = (t r : List ℕ) → Inside style i t r → ⊥

abbrev pub HasNoTextOf : Style → List ℕ → Type 0
HasNoTextOf style i = (t r : List ℕ) → IsTextOf style i t r → ⊥

abbrev pub HasNoText : Bool → List ℕ → Type 0
HasNoText raw i = (t r : List ℕ) → IsText raw i t r → ⊥

-- the longest string at the front of i, its characters t, and what follows it
pub record BestText (raw : Bool) (i t r : List ℕ) : Type 0 where
  pub text : IsText raw i t r
  pub others : (u s : List ℕ) → IsText raw i u s → (length r < length s) ⊎ ((u ≡ t) × (s ≡ r))

-- `r` or `R`, and after it the longest string
pub record IsRawText (l t r : List ℕ) : Type 0 where
  pub first : ℕ
  pub rest : List ℕ
  pub is : l ≡ first ∷ rest
  pub mark : is_r first ≡ true
  pub best : BestText true rest t r

abbrev pub HasNoRawText : List ℕ → Type 0
HasNoRawText l = (c : ℕ) (i : List ℕ) → l ≡ c ∷ i → is_r c ≡ true → HasNoText true i
