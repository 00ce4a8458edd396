-- The writer's escapes are the stated ones, byte by byte.
use Rattle.std.proofs.Common.{◌≡◌, ℕ, zero, suc, ◌<◌, Bool, true, ◌&&◌, bytes_eq, refl, ap, sym, ◌∙◌, arith, ◌⊎◌, inl, inr}
use Rattle.std.proofs.lemmas.Slice.Eq.{bytes_eq-Decides}
use Rattle.json.specs.Print.{escape_byte}
use Rattle.jsondoc.specs.Escapes.{escape_of}
use Rattle.jsondoc.proofs.Json.{both}

-- below n each byte is written as stated
abbrev agrees_below : ℕ → Bool
agrees_below zero = true
agrees_below (suc n) = bytes_eq (escape_byte n) (escape_of n) && agrees_below n

each_agrees : agrees_below 256 ≡ true
unfolding escape_byte
each_agrees = refl

last_or_below : (b n : ℕ) → b < suc n → (b ≡ n) ⊎ (b < n)
last_or_below b n h = Prim.grind arith

from_test : (n b : ℕ) → agrees_below n ≡ true → b < n → escape_byte b ≡ escape_of b
from_test zero b e h = absurd (omega arith)
from_test (suc n) b e h =
    let parts = both (bytes_eq (escape_byte n) (escape_of n)) (agrees_below n) e in
    elim (last_or_below b n h) [
      | inl same ↦ ap escape_byte same ∙ (bytes_eq-Decides (escape_byte n) (escape_of n)).0 parts.0 ∙ ap escape_of (sym same)
      | inr below ↦ from_test n b parts.1 below
    ]

pub escape_byte-escape_of : (b : ℕ) → b < 256 → escape_byte b ≡ escape_of b
escape_byte-escape_of b h = from_test 256 b each_agrees h
