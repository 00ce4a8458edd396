-- What can be read at a level, where no token follows that would go on there.
use Rattle.std.specs.Prelude.{◌≡◌, ℕ, suc, Bool, true, false, ◌||◌, nat_lt, Option, Some, None, List, [], ◌∷◌}
use Rattle.celtokens.specs.declared.sign.Sign.{Sign}
use Rattle.celtokens.specs.declared.sign.Sign.TheVariants as sign
use Rattle.celtokens.specs.Terminal.{Terminal}
use Rattle.celtokens.specs.Terminal as token
use Rattle.celtree.specs.declared.tree.Operator.{Operator}
use Rattle.celtokens.specs.declared.closing.Closing.{Closing}
use Rattle.celread.specs.declared.parse_fault.ParseFault.{ParseFault}
use Rattle.celread.specs.declared.parse_fault.ParseFault.TheVariants as fault
use Rattle.celtree.specs.Tree.{Expr, Exprs, Pairs}
use Rattle.celtokens.specs.Operators.{infix_of}
use Rattle.celtokens.specs.Literal.{Literal}
use Rattle.celread.specs.Grammar.{Level, Primary, Member, Whole, Suffixes, Prefixed, Height, Chain, Spells, Items, Entries}

abbrev pub is_open : Terminal → Bool
is_open (token.Mark sign.OpenParenthesis) = true
is_open _ = false

abbrev pub is_suffix : Terminal → Bool
is_suffix (token.Mark sign.OpenParenthesis) = true
is_suffix (token.Mark sign.Dot) = true
is_suffix (token.Mark sign.OpenBracket) = true
is_suffix _ = false

abbrev pub is_question : Terminal → Bool
is_question (token.Mark sign.Question) = true
is_question _ = false

abbrev pub is_below : ℕ → Option (ℕ × Operator) → Bool
is_below h None = false
is_below h (Some x) = nat_lt x.0 h

-- a token that goes on where a tree of the level stands: a suffix, or an operator whose operands are lower
abbrev pub continues : Level → Terminal → Bool
continues Primary w = is_open w
continues Member w = is_suffix w
continues (Suffixes e) w = is_suffix w
continues (Prefixed p) w = is_suffix w
continues (Height h) w = is_suffix w || is_below h (infix_of w)
continues (Chain h a) w = is_suffix w || is_below (suc h) (infix_of w)
continues Whole w = (is_suffix w || is_below 5 (infix_of w)) || is_question w

-- the rest begins with no token that would go on
abbrev pub Ends : Level → List Terminal → Type 0
Ends l [] = Unit {0}
Ends l (w ∷ r) = continues l w ≡ false

-- the one tree at the level, and what follows it
pub record Read (l : Level) (i : List Terminal) (t : Expr) (r : List Terminal) : Type 0 where
  pub spelled : Spells l i t r
  pub ends : Ends l r
  pub only : (u : Expr) (s : List Terminal) → Spells l i u s → Ends l s → (u ≡ t) × (s ≡ r)

abbrev pub HasNoTree : Level → List Terminal → Type 0
HasNoTree l i = (u : Expr) (s : List Terminal) → Spells l i u s → Ends l s → ⊥

-- no expression is followed by the sign
abbrev pub HasNoTreeBefore : Sign → List Terminal → Type 0
HasNoTreeBefore x i = (u : Expr) (s : List Terminal) → Spells Whole i u (token.Mark x ∷ s) → Ends Whole (token.Mark x ∷ s) → ⊥

-- the same of a primary expression, after which suffixes may stand
pub record ReadPrimary (i : List Terminal) (t : Expr) (r : List Terminal) : Type 0 where
  pub spelled : Spells Primary i t r
  pub only : (u : Expr) (s : List Terminal) → Spells Primary i u s → Ends Primary s → (u ≡ t) × (s ≡ r)

abbrev pub HasNoPrimary : List Terminal → Type 0
HasNoPrimary i = (u : Expr) (s : List Terminal) → Spells Primary i u s → Ends Primary s → ⊥

-- the same of a primary expression that is no literal
pub record ReadComposite (i : List Terminal) (t : Expr) (r : List Terminal) : Type 0 where
  pub spelled : Spells Primary i t r
  pub only : (u : Expr) (s : List Terminal) → Spells Primary i u s → Ends Primary s → (Literal i u s → ⊥) → (u ≡ t) × (s ≡ r)

abbrev pub HasNoComposite : List Terminal → Type 0
HasNoComposite i = (u : Expr) (s : List Terminal) → Spells Primary i u s → Ends Primary s → (Literal i u s → ⊥) → ⊥

-- a key, a colon and a value
pub record ReadEntry (i : List Terminal) (k v : Expr) (r : List Terminal) : Type 0 where
  pub colon : List Terminal
  pub key : Read Whole i k (token.Mark sign.Colon ∷ colon)
  pub value : Read Whole colon v r

abbrev pub HasNoEntry : List Terminal → Type 0
HasNoEntry i = (k v : Expr) (m s : List Terminal) → Spells Whole i k (token.Mark sign.Colon ∷ m) → Spells Whole m v s → Ends Whole s → ⊥

pub record ReadItems (c : Closing) (i : List Terminal) (ts : Exprs) (r : List Terminal) : Type 0 where
  pub spelled : Items c i ts r
  pub only : (us : Exprs) (s : List Terminal) → Items c i us s → (us ≡ ts) × (s ≡ r)

abbrev pub HasNoItems : Closing → List Terminal → Type 0
HasNoItems c i = (us : Exprs) (s : List Terminal) → Items c i us s → ⊥

pub record ReadEntries (i : List Terminal) (ps : Pairs) (r : List Terminal) : Type 0 where
  pub spelled : Entries i ps r
  pub only : (qs : Pairs) (s : List Terminal) → Entries i qs s → (qs ≡ ps) × (s ≡ r)

abbrev pub HasNoEntries : List Terminal → Type 0
HasNoEntries i = (qs : Pairs) (s : List Terminal) → Entries i qs s → ⊥

-- a refusal while reading: no tree, or out of memory
abbrev pub Refuses : ParseFault → Type 0 → Type 0
Refuses fault.NotInGrammar P = P
Refuses fault.Memory P = Unit {0}
