-- Literals (CEL language definition, "Syntax"): tokens, the tree that they spell, and what follows them.
use Rattle.std.specs.Prelude.{◌≡◌, ℕ, pos, neg_ℤ, ◌≤◌, ◌^◌, nat_lt, true, false, Option, Some, None, List, ◌∷◌, encode_utf8_all, if◌then◌else◌}
use Rattle.celtokens.specs.declared.sign.Sign.TheVariants as sign
use Rattle.celtokens.specs.Terminal.{Terminal}
use Rattle.celtokens.specs.Terminal as token
use Rattle.celtree.specs.Tree.{Expr, Null, Truth, Int, Uint, Text}

-- the tree of a literal of one token: a signed one lies in 64 bits, and so does an unsigned one
abbrev pub literal_of : Terminal → Option Expr
literal_of (token.Int n) = if nat_lt n (2 ^ 63) then Some (Int (pos n)) else None
literal_of (token.Uint n) = if nat_lt n (2 ^ 64) then Some (Uint n) else None
literal_of (token.Quoted t) = Some (Text (encode_utf8_all t))
literal_of token.True = Some (Truth true)
literal_of token.False = Some (Truth false)
literal_of token.Null = Some Null
literal_of _ = None

-- a literal: one token, or `-` and an INT token
pub data Literal : List Terminal → Expr → List Terminal → Type 0 where
  -- LITERAL = INT | UINT | STRING | "true" | "false" | "null"
  one_token : {w : Terminal} {r : List Terminal} {t : Expr} → literal_of w ≡ Some t → Literal (w ∷ r) t r
  -- INT = ["-"] DIGIT {DIGIT} | ..
  negative_int : {n : ℕ} {r : List Terminal} → n ≤ 2 ^ 63 → Literal (token.Mark sign.Minus ∷ token.Int n ∷ r) (Int (neg_ℤ (pos n))) r
