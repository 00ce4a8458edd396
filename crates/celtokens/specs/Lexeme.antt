-- The lexical rules, and the longest lexeme at the front of a text.
use Rattle.std.specs.Prelude.{◌≡◌, ℕ, true, false, ◌<◌, ◌⊎◌, length, Some, List, [], ◌∷◌}
use Rattle.celtokens.specs.declared.class.Class.{Class}
use Rattle.celtokens.specs.declared.class.Class.TheVariants as class_of
use Rattle.celtokens.specs.declared.run.Kind.TheVariants as kind
use Rattle.celtokens.specs.declared.sign.Sign.{Sign}
use Rattle.celtokens.specs.Class.{class}
use Rattle.celtokens.specs.Run.{Run}
use Rattle.celtokens.specs.Numeral.{Numeral, is_u}
use Rattle.celtokens.specs.Text.{IsText, is_r}
use Rattle.celtokens.specs.Sign.{one_char, two_chars}
use Rattle.celtokens.specs.Terminal.{Terminal, Int, Uint, Quoted, Mark, word_of}

-- what a lexeme is: a blank or a comment, which is dropped, or a token
pub data Part : Type 0 where
  Gap : Part
  Whole : (terminal : Terminal) → Part

-- A lexeme of any length, by the class of its first character: that character, what follows it, what the lexeme is, and what follows the lexeme.
pub data Lexeme : Class → ℕ → List ℕ → Part → List ℕ → Type 0 where
  blank : {c : ℕ} {r : List ℕ} → Lexeme class_of.Blank c r Gap r
  word : {c : ℕ} {i r : List ℕ} (cs : List ℕ) → Run kind.InWord i cs r → Lexeme class_of.Letter c i (Whole (word_of (c ∷ cs))) r
  raw_text : {c : ℕ} {i t r : List ℕ} → is_r c ≡ true → IsText true i t r → Lexeme class_of.Letter c i (Whole (Quoted t)) r
  int : {c n : ℕ} {i r : List ℕ} → Numeral c i n r → Lexeme class_of.Digit c i (Whole (Int n)) r
  uint : {c n u : ℕ} {i r : List ℕ} → Numeral c i n (u ∷ r) → is_u u ≡ true → Lexeme class_of.Digit c i (Whole (Uint n)) r
  text : {c : ℕ} {i t r : List ℕ} → IsText false (c ∷ i) t r → Lexeme class_of.Quote c i (Whole (Quoted t)) r
  comment : {i cs r : List ℕ} → Run kind.InLine i cs r → Lexeme class_of.Other 47 (47 ∷ i) Gap r
  one_sign : {c : ℕ} {s : Sign} {r : List ℕ} → one_char c ≡ Some s → Lexeme class_of.Other c r (Whole (Mark s)) r
  two_signs : {c d : ℕ} {s : Sign} {r : List ℕ} → two_chars c d ≡ Some s → Lexeme class_of.Other c (d ∷ r) (Whole (Mark s)) r

-- a lexeme, and each other one that begins here is shorter
pub record LongestOf (k : Class) (c : ℕ) (i : List ℕ) (p : Part) (r : List ℕ) : Type 0 where
  pub lexeme : Lexeme k c i p r
  pub others : (q : Part) (s : List ℕ) → Lexeme k c i q s → (length r < length s) ⊎ ((q ≡ p) × (s ≡ r))

-- the longest lexeme at the front, and what follows it
abbrev pub Longest : List ℕ → Part → List ℕ → Type 0
Longest [] p r = ⊥
Longest (c ∷ i) p r = LongestOf (class c) c i p r

-- no lexeme begins here
abbrev pub HasNoLexeme : List ℕ → Type 0
HasNoLexeme [] = Unit {0}
HasNoLexeme (c ∷ i) = (p : Part) (r : List ℕ) → Lexeme (class c) c i p r → ⊥
