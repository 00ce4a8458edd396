-- The signs of one and of two characters.
use Rattle.std.specs.Prelude.{◌≡◌, ℕ, ◌&&◌, ◌==◌, Option, Some, None, List, ◌∷◌, if◌then◌else◌}
use Rattle.celtokens.specs.declared.sign.Sign.{Sign}
use Rattle.celtokens.specs.declared.sign.Sign.TheVariants as sign

-- ? : < > + - * / % ! . , ( ) [ ] { }
abbrev pub one_char : ℕ → Option Sign
one_char c =
    if c == 63 then Some sign.Question
    else (if c == 58 then Some sign.Colon
    else (if c == 60 then Some sign.Less
    else (if c == 62 then Some sign.Greater
    else (if c == 43 then Some sign.Plus
    else (if c == 45 then Some sign.Minus
    else (if c == 42 then Some sign.Star
    else (if c == 47 then Some sign.Slash
    else (if c == 37 then Some sign.Percent
    else (if c == 33 then Some sign.Bang
    else (if c == 46 then Some sign.Dot
    else (if c == 44 then Some sign.Comma
    else (if c == 40 then Some sign.OpenParenthesis
    else (if c == 41 then Some sign.CloseParenthesis
    else (if c == 91 then Some sign.OpenBracket
    else (if c == 93 then Some sign.CloseBracket
    else (if c == 123 then Some sign.OpenBrace
    else (if c == 125 then Some sign.CloseBrace else None)))))))))))))))))

-- || && <= >= == !=
abbrev pub two_chars : ℕ → ℕ → Option Sign
two_chars c d =
    if c == 124 && d == 124 then Some sign.OrOr
    else (if c == 38 && d == 38 then Some sign.AndAnd
    else (if c == 60 && d == 61 then Some sign.LessEqual
    else (if c == 62 && d == 61 then Some sign.GreaterEqual
    else (if c == 61 && d == 61 then Some sign.EqualEqual
    else (if c == 33 && d == 61 then Some sign.NotEqual else None)))))

-- a sign of two characters stands in front of r
abbrev pub IsSignOfTwo : List ℕ → Sign → List ℕ → Type 0
IsSignOfTwo l s r = (c : ℕ) × (d : ℕ) × (l ≡ c ∷ d ∷ r) × (two_chars c d ≡ Some s)

abbrev pub HasNoSignOfTwo : List ℕ → Type 0
HasNoSignOfTwo l = (c d : ℕ) (r : List ℕ) (s : Sign) → l ≡ c ∷ d ∷ r → two_chars c d ≡ Some s → ⊥

-- a sign of one character stands in front of r
abbrev pub IsSignOfOne : List ℕ → Sign → List ℕ → Type 0
IsSignOfOne l s r = (c : ℕ) × (l ≡ c ∷ r) × (one_char c ≡ Some s)

abbrev pub HasNoSignOfOne : List ℕ → Type 0
HasNoSignOfOne l = (c : ℕ) (r : List ℕ) (s : Sign) → l ≡ c ∷ r → one_char c ≡ Some s → ⊥

-- two slashes stand in front of r
abbrev pub IsComment : List ℕ → List ℕ → Type 0
IsComment l r = l ≡ 47 ∷ 47 ∷ r

-- two slashes do not stand in front
abbrev pub IsNoComment : List ℕ → Type 0
IsNoComment l = (i : List ℕ) → l ≡ 47 ∷ 47 ∷ i → ⊥
