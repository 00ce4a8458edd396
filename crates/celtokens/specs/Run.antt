-- Runs of characters of one kind.
use Rattle.std.specs.Prelude.{◌≡◌, ℕ, Bool, true, not, ◌||◌, ◌==◌, List, [], ◌∷◌, if◌then◌else◌}
use Rattle.std.specs.Char.{is_ascii_alphanumeric, is_ascii_digit, is_ascii_hexdigit}
use Rattle.celtokens.specs.declared.run.Kind.{Kind}
use Rattle.celtokens.specs.declared.run.Kind.TheVariants as kind

-- LF and CR
abbrev pub is_line_end : ℕ → Bool
is_line_end c = c == 10 || c == 13

-- a letter, digit or `_`; a digit; a hexadecimal digit; anything but a line end
abbrev pub is_in : Kind → ℕ → Bool
is_in kind.InWord c = is_ascii_alphanumeric c || c == 95
is_in kind.Digit c = is_ascii_digit c
is_in kind.HexDigit c = is_ascii_hexdigit c
is_in kind.InLine c = not (is_line_end c)

-- characters of a kind, as many as one likes, and what follows them
pub data Run (k : Kind) : List ℕ → List ℕ → List ℕ → Type 0 where
  stop : {r : List ℕ} → Run k r [] r
  more : {c : ℕ} {i cs r : List ℕ} → is_in k c ≡ true → Run k i cs r → Run k (c ∷ i) (c ∷ cs) r

-- all the characters of a kind at the front
abbrev pub front : Kind → List ℕ → List ℕ
front k [] = []
front k (c ∷ i) = if is_in k c then c ∷ front k i else []

-- what follows all the characters of a kind at the front
abbrev pub beyond : Kind → List ℕ → List ℕ
beyond k [] = []
beyond k (c ∷ i) = if is_in k c then beyond k i else c ∷ i
