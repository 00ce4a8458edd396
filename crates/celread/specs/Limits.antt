-- How deep brackets may nest. This limit, and that of macros, are apart from the grammar.
use Rattle.std.specs.Prelude.{ℕ, suc, ◌-◌, Bool, ◌||◌, nat_lt, List, [], ◌∷◌}
use Rattle.celtokens.specs.declared.sign.Sign.TheVariants as sign
use Rattle.celtokens.specs.Terminal.{Terminal}
use Rattle.celtokens.specs.Terminal as token

-- how many brackets are open after a token, where n are open before it: a closing one never takes the count below 0
abbrev pub open_after : ℕ → Terminal → ℕ
open_after n (token.Mark sign.OpenParenthesis) = suc n
open_after n (token.Mark sign.OpenBracket) = suc n
open_after n (token.Mark sign.OpenBrace) = suc n
open_after n (token.Mark sign.CloseParenthesis) = n - 1
open_after n (token.Mark sign.CloseBracket) = n - 1
open_after n (token.Mark sign.CloseBrace) = n - 1
open_after n _ = n

-- more than 32 brackets are open at once, where n are open at the start
abbrev pub opens_too_many : ℕ → List Terminal → Bool
opens_too_many n [] = nat_lt 32 n
opens_too_many n (w ∷ ws) = nat_lt 32 n || opens_too_many (open_after n w) ws
