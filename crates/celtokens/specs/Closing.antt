-- The ends of lists (CEL language definition, "Syntax").
use Rattle.std.specs.Prelude.{◌≡◌, Bool, true, false, List, ◌∷◌}
use Rattle.celtokens.specs.declared.sign.Sign.{Sign}
use Rattle.celtokens.specs.declared.sign.Sign.TheVariants as sign
use Rattle.celtokens.specs.Terminal.{Terminal}
use Rattle.celtokens.specs.Terminal as token
use Rattle.celtokens.specs.declared.closing.Closing.{Closing}
use Rattle.celtokens.specs.declared.closing.Closing.TheVariants as closing

-- the sign that ends a list
abbrev pub close_sign : Closing → Sign
close_sign closing.Parenthesis = sign.CloseParenthesis
close_sign closing.Bracket = sign.CloseBracket
close_sign closing.Brace = sign.CloseBrace

-- a comma may stand after the last item of a list or map literal, but not of a call's arguments
abbrev pub trails : Closing → Bool
trails closing.Parenthesis = false
trails closing.Bracket = true
trails closing.Brace = true

-- the end of a list that has an item, and what follows it
pub data Ending (c : Closing) : List Terminal → List Terminal → Type 0 where
  -- ")"  |  "]"  |  "}"
  close : {r : List Terminal} → Ending c (token.Mark (close_sign c) ∷ r) r
  -- "," "]"  |  "," "}"
  trailing : {r : List Terminal} → trails c ≡ true → Ending c (token.Mark sign.Comma ∷ token.Mark (close_sign c) ∷ r) r
