-- What stands in front of the tokens that are left.
use Rattle.std.specs.Prelude.{◌≡◌, ℕ, ◌<◌, ◌≤◌, ◌^◌, ℤ, pos, neg_ℤ, ◌⊎◌, length, true, Some, None, List, ◌∷◌, encode_utf8_all}
use Rattle.celtokens.specs.declared.sign.Sign.{Sign}
use Rattle.celtokens.specs.declared.sign.Sign.TheVariants as sign
use Rattle.celtokens.specs.declared.token.Token.{Token}
use Rattle.celtokens.specs.Seen.{terminals}
use Rattle.celtokens.specs.Terminal.{Terminal}
use Rattle.celtokens.specs.Terminal as token
use Rattle.celtree.specs.declared.tree.Operator.{Operator}
use Rattle.celtree.specs.declared.tree.Prefix.TheVariants as prefix_of
use Rattle.celtokens.specs.declared.ahead.Start.{Start}
use Rattle.celtokens.specs.declared.ahead.Start.TheVariants as start
use Rattle.celtokens.specs.declared.closing.Closing.{Closing}
use Rattle.celtokens.specs.declared.ahead.Separator.{Separator}
use Rattle.celtokens.specs.declared.ahead.Separator.TheVariants as separator
use Rattle.celtokens.specs.declared.ahead.Suffix.{Suffix}
use Rattle.celtokens.specs.declared.ahead.Suffix.TheVariants as suffix
use Rattle.celtree.specs.Tree.{Expr}
use Rattle.celtokens.specs.Operators.{infix_of, after_prefix, selector}
use Rattle.celtokens.specs.Literal.{Literal}
use Rattle.celtokens.specs.Closing.{Ending, close_sign, trails}

-- the sign does not stand in front
abbrev pub IsNotNext : Sign → List Terminal → Type 0
IsNotNext s l = (m : List Terminal) → l ≡ token.Mark s ∷ m → ⊥

abbrev pub IsOperator : ℕ → List Terminal → Operator → List Terminal → Type 0
IsOperator h l o r = (w : Terminal) × (l ≡ w ∷ r) × (infix_of w ≡ Some (h, o))

abbrev pub HasNoOperator : ℕ → List Terminal → Type 0
HasNoOperator h l = (w : Terminal) (r : List Terminal) (o : Operator) → l ≡ w ∷ r → infix_of w ≡ Some (h, o) → ⊥

abbrev pub HasNoPrefix : List Terminal → Type 0
HasNoPrefix l = (after_prefix prefix_of.Not l ≡ None) × (after_prefix prefix_of.Negate l ≡ None)

abbrev pub HasNoName : List Terminal → Type 0
HasNoName l = (x : List ℕ) (r : List Terminal) → l ≡ token.Ident x ∷ r → ⊥

abbrev pub IsSelector : List Terminal → List ℕ → List Terminal → Type 0
IsSelector l f r = (w : Terminal) × (l ≡ w ∷ r) × (selector w ≡ Some (encode_utf8_all f))

abbrev pub HasNoSelector : List Terminal → Type 0
HasNoSelector l = (w : Terminal) (r : List Terminal) → l ≡ w ∷ r → selector w ≡ None

-- how a primary expression that is no literal begins
abbrev pub IsStart : List Token → Start → Type 0
IsStart ts (start.Name x r) = (terminals ts ≡ token.Ident x.now ∷ terminals r.now) × IsNotNext sign.OpenParenthesis (terminals r.now) × (length r.now < length ts)
IsStart ts (start.Call x r) = (terminals ts ≡ token.Ident x.now ∷ token.Mark sign.OpenParenthesis ∷ terminals r.now) × (length r.now < length ts)
IsStart ts (start.Parenthesis r) = (terminals ts ≡ token.Mark sign.OpenParenthesis ∷ terminals r.now) × (length r.now < length ts)
IsStart ts (start.Bracket r) = (terminals ts ≡ token.Mark sign.OpenBracket ∷ terminals r.now) × (length r.now < length ts)
IsStart ts (start.Brace r) = (terminals ts ≡ token.Mark sign.OpenBrace ∷ terminals r.now) × (length r.now < length ts)
IsStart ts start.Nothing =
    HasNoName (terminals ts) × IsNotNext sign.OpenParenthesis (terminals ts) × IsNotNext sign.OpenBracket (terminals ts) × IsNotNext sign.OpenBrace (terminals ts)

-- what follows a tree: a suffix, one that the grammar does not have, or none
abbrev pub IsSuffix : List Token → Suffix → Type 0
IsSuffix ts (suffix.Field f r) =
    (w : Terminal) × (terminals ts ≡ token.Mark sign.Dot ∷ w ∷ terminals r.now) × (selector w ≡ Some (encode_utf8_all f.now)) × IsNotNext sign.OpenParenthesis (terminals r.now) × (length r.now < length ts)
IsSuffix ts (suffix.Method f r) =
    (w : Terminal) × (terminals ts ≡ token.Mark sign.Dot ∷ w ∷ token.Mark sign.OpenParenthesis ∷ terminals r.now) × (selector w ≡ Some (encode_utf8_all f.now)) × (length r.now < length ts)
IsSuffix ts (suffix.Index r) = (terminals ts ≡ token.Mark sign.OpenBracket ∷ terminals r.now) × (length r.now < length ts)
IsSuffix ts suffix.Wrong =
    (m : List Terminal) × ((terminals ts ≡ token.Mark sign.OpenParenthesis ∷ m) ⊎ ((terminals ts ≡ token.Mark sign.Dot ∷ m) × HasNoSelector m))
IsSuffix ts suffix.Nothing = IsNotNext sign.Dot (terminals ts) × IsNotNext sign.OpenBracket (terminals ts) × IsNotNext sign.OpenParenthesis (terminals ts)

abbrev pub HasNoLiteral : List Terminal → Type 0
HasNoLiteral l = (t : Expr) (r : List Terminal) → Literal l t r → ⊥

abbrev pub IsNegative : List Terminal → ℤ → List Terminal → Type 0
IsNegative l v r = (n : ℕ) × (l ≡ token.Mark sign.Minus ∷ token.Int n ∷ r) × (n ≤ 2 ^ 63) × (v ≡ neg_ℤ (pos n))

abbrev pub HasNoNegative : List Terminal → Type 0
HasNoNegative l = (n : ℕ) (r : List Terminal) → l ≡ token.Mark sign.Minus ∷ token.Int n ∷ r → n ≤ 2 ^ 63 → ⊥

abbrev pub IsNegativeInt : Terminal → ℤ → Type 0
IsNegativeInt w v = (n : ℕ) × (w ≡ token.Int n) × (n ≤ 2 ^ 63) × (v ≡ neg_ℤ (pos n))

abbrev pub IsNoNegativeInt : Terminal → Type 0
IsNoNegativeInt w = (n : ℕ) → w ≡ token.Int n → n ≤ 2 ^ 63 → ⊥

-- what follows an item: the end, a comma before another item, or neither
abbrev pub IsSeparator : Closing → List Token → Separator → Type 0
IsSeparator c ts (separator.End r) = Ending c (terminals ts) (terminals r.now) × (length r.now < length ts)
IsSeparator c ts (separator.Comma r) =
    (terminals ts ≡ token.Mark sign.Comma ∷ terminals r.now) × (trails c ≡ true → IsNotNext (close_sign c) (terminals r.now)) × (length r.now < length ts)
IsSeparator c ts separator.Wrong = IsNotNext (close_sign c) (terminals ts) × IsNotNext sign.Comma (terminals ts)
