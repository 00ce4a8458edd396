-- Operators, by what stands in front.
use Rattle.std.specs.Prelude.{ℕ, Bool, true, false, Option, Some, None, List, ◌∷◌, encode_utf8_all, if◌then◌else◌}
use Rattle.celtokens.specs.declared.sign.Sign.{Sign}
use Rattle.celtokens.specs.declared.sign.Sign.TheVariants as sign
use Rattle.celtokens.specs.Terminal.{Terminal}
use Rattle.celtokens.specs.Terminal as token
use Rattle.celtree.specs.declared.tree.Prefix.{Prefix}
use Rattle.celtree.specs.declared.tree.Prefix.TheVariants as prefix_of
use Rattle.celtree.specs.declared.tree.Operator.{Operator}
use Rattle.celtree.specs.declared.tree.Operator.TheVariants as operator_of

abbrev pub infix_sign : Sign → Option (ℕ × Operator)
infix_sign sign.Star = Some (0, operator_of.Multiply)
infix_sign sign.Slash = Some (0, operator_of.Divide)
infix_sign sign.Percent = Some (0, operator_of.Remainder)
infix_sign sign.Plus = Some (1, operator_of.Add)
infix_sign sign.Minus = Some (1, operator_of.Subtract)
infix_sign sign.Less = Some (2, operator_of.Less)
infix_sign sign.LessEqual = Some (2, operator_of.LessEqual)
infix_sign sign.Greater = Some (2, operator_of.Greater)
infix_sign sign.GreaterEqual = Some (2, operator_of.GreaterEqual)
infix_sign sign.EqualEqual = Some (2, operator_of.Equal)
infix_sign sign.NotEqual = Some (2, operator_of.NotEqual)
infix_sign sign.AndAnd = Some (3, operator_of.And)
infix_sign sign.OrOr = Some (4, operator_of.Or)
infix_sign _ = None

-- the operator that a token is between two operands, and the height of these: 0 `* / %`, 1 `+ -`, 2 the relations and `in`, 3 `&&`, 4 `||`
abbrev pub infix_of : Terminal → Option (ℕ × Operator)
infix_of (token.Mark s) = infix_sign s
infix_of token.In = Some (2, operator_of.In)
infix_of _ = None

-- an INT token stands in front
abbrev pub begins_with_int : List Terminal → Bool
begins_with_int (token.Int n ∷ r) = true
begins_with_int _ = false

-- what follows a prefix operator, if it stands in front. The operand of `-` does not begin with an INT token, so `-1` is one literal.
abbrev pub after_prefix : Prefix → List Terminal → Option (List Terminal)
after_prefix prefix_of.Not (token.Mark sign.Bang ∷ i) = Some i
after_prefix prefix_of.Negate (token.Mark sign.Minus ∷ i) = if begins_with_int i then None else Some i
after_prefix _ _ = None

-- the name that may follow a dot: a word that is no keyword
abbrev pub selector : Terminal → Option (List ℕ)
selector (token.Ident name) = Some (encode_utf8_all name)
selector (token.Reserved name) = Some (encode_utf8_all name)
selector _ = None
