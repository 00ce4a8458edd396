-- The tokens of a text: its longest lexemes, front to back, without blanks and comments.
use Rattle.std.specs.Prelude.{◌≡◌, ℕ, List, [], ◌∷◌}
use Rattle.celtokens.specs.Terminal.{Terminal}
use Rattle.celtokens.specs.Lexeme.{Gap, Whole, Longest}

pub data Lexes : List ℕ → List Terminal → Type 0 where
  end : Lexes [] []
  over : {i r : List ℕ} {ts : List Terminal} → Longest i Gap r → Lexes r ts → Lexes i ts
  next : {i r : List ℕ} {t : Terminal} {ts : List Terminal} → Longest i (Whole t) r → Lexes r ts → Lexes i (t ∷ ts)

-- the text has no token sequence
abbrev pub HasNoTokens : List ℕ → Type 0
HasNoTokens i = (ts : List Terminal) → Lexes i ts → ⊥

-- a text has at most one token sequence
abbrev pub OneReading : Type 0
OneReading = (i : List ℕ) (ts us : List Terminal) → Lexes i ts → Lexes i us → us ≡ ts
