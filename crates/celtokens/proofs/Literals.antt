-- The literal in front.
use Rattle.std.proofs.Common.{◌≡◌, ◌∙◌, ℤ, List, ◌∷◌, None, sym, refl}
use Rattle.celtokens.specs.Terminal.{Terminal}
use Rattle.celtree.specs.Tree.{Int}
use Rattle.celtokens.specs.Literal.{Literal, one_token, negative_int, literal_of}
use Rattle.celtokens.specs.Ahead.{HasNoLiteral, IsNegative, HasNoNegative}

-- no literal where the first token is none, and no negative number stands there
no_literal_at : (w : Terminal) (m : List Terminal) → literal_of w ≡ None → HasNoNegative (w ∷ m) → HasNoLiteral (w ∷ m)
no_literal_at w m none negative t r (one_token e) = absurd (let p = sym none ∙ e in cc)
no_literal_at w m none negative t r (negative_int {n = n} le) = negative n r refl le

pub no_literal : (l : List Terminal) (w : Terminal) (m : List Terminal) → l ≡ w ∷ m → literal_of w ≡ None → HasNoNegative l → HasNoLiteral l
no_literal l w m e none negative = rw e (no_literal_at w m none (rw e at negative))

pub negative_literal : (l : List Terminal) (v : ℤ) (r : List Terminal) → IsNegative l v r → Literal l (Int v) r
negative_literal l v r h = rw (h.1, h.3) (negative_int h.2)
