-- The grammar of CEL, one constructor a production: tokens, the tree that they spell, and what follows them.
use Rattle.std.specs.Prelude.{◌≡◌, ℕ, suc, Some, List, [], ◌∷◌, encode_utf8_all}
use Rattle.celtokens.specs.declared.sign.Sign.TheVariants as sign
use Rattle.celtokens.specs.Terminal.{Terminal}
use Rattle.celtokens.specs.Terminal as token
use Rattle.celtree.specs.declared.tree.Prefix.{Prefix}
use Rattle.celtree.specs.declared.tree.Operator.{Operator}
use Rattle.celtokens.specs.declared.closing.Closing.{Closing}
use Rattle.celtokens.specs.declared.closing.Closing.TheVariants as closing
use Rattle.celtree.specs.Tree.{Expr, Name, Field, Index, Sequence, Mapping, Unary, Infix, Conditional, Exprs, no_items, item, Pairs, no_pairs, pair}
use Rattle.celtree.specs.Calls.{call_of, method_of}
use Rattle.celtokens.specs.Operators.{infix_of, after_prefix, selector}
use Rattle.celtokens.specs.Literal.{Literal}
use Rattle.celtokens.specs.Closing.{close_sign, Ending}

-- The levels of the grammar. Heights: 0 Unary, 1 Mul, 2 Add, 3 Rel, 4 And, 5 Or. Suffixes stand after a tree, and a chain of operands of height h after its left side.
pub data Level : Type 0 where
  Primary Member Whole : Level
  Suffixes : (of : Expr) → Level
  Prefixed : (prefix : Prefix) → Level
  Height : (height : ℕ) → Level
  Chain : (height : ℕ) (left : Expr) → Level

mutual
  pub data Spells : Level → List Terminal → Expr → List Terminal → Type 0 where
    -- Primary = LITERAL
    literal : {i r : List Terminal} {t : Expr} → Literal i t r → Spells Primary i t r
    -- Primary = IDENT
    name : {x : List ℕ} {r : List Terminal} → Spells Primary (token.Ident x ∷ r) (Name (encode_utf8_all x)) r
    -- Primary = IDENT "(" [ExprList] ")"
    call : {x : List ℕ} {i r : List Terminal} {ts : Exprs} {t : Expr} → Items closing.Parenthesis i ts r → call_of (encode_utf8_all x) ts ≡ Some t
        → Spells Primary (token.Ident x ∷ token.Mark sign.OpenParenthesis ∷ i) t r
    -- Primary = "(" Expr ")"
    brackets : {i r : List Terminal} {t : Expr} → Spells Whole i t (token.Mark sign.CloseParenthesis ∷ r) → Spells Primary (token.Mark sign.OpenParenthesis ∷ i) t r
    -- Primary = "[" [ExprList] [","] "]"
    list : {i r : List Terminal} {ts : Exprs} → Items closing.Bracket i ts r → Spells Primary (token.Mark sign.OpenBracket ∷ i) (Sequence ts) r
    -- Primary = "{" [MapInits] [","] "}"
    map : {i r : List Terminal} {ps : Pairs} → Entries i ps r → Spells Primary (token.Mark sign.OpenBrace ∷ i) (Mapping ps) r
    -- Member = Primary {Suffix}
    member : {i m r : List Terminal} {e t : Expr} → Spells Primary i e m → Spells (Suffixes e) m t r → Spells Member i t r
    -- no further Suffix
    no_suffix : {r : List Terminal} {e : Expr} → Spells (Suffixes e) r e r
    -- Member = Member "." SELECTOR
    field : {w : Terminal} {m r : List Terminal} {e t : Expr} {f : List ℕ} → selector w ≡ Some f → Spells (Suffixes (Field e f)) m t r
        → Spells (Suffixes e) (token.Mark sign.Dot ∷ w ∷ m) t r
    -- Member = Member "." SELECTOR "(" [ExprList] ")"
    method : {w : Terminal} {i m r : List Terminal} {e u t : Expr} {f : List ℕ} {ts : Exprs} → selector w ≡ Some f → Items closing.Parenthesis i ts m
        → method_of e f ts ≡ Some u → Spells (Suffixes u) m t r → Spells (Suffixes e) (token.Mark sign.Dot ∷ w ∷ token.Mark sign.OpenParenthesis ∷ i) t r
    -- Member = Member "[" Expr "]"
    index : {i m r : List Terminal} {e x t : Expr} → Spells Whole i x (token.Mark sign.CloseBracket ∷ m) → Spells (Suffixes (Index e x)) m t r
        → Spells (Suffixes e) (token.Mark sign.OpenBracket ∷ i) t r
    -- Unary = Member
    plain : {i r : List Terminal} {t : Expr} → Spells Member i t r → Spells (Height 0) i t r
    -- Unary = "!" {"!"} Member  |  "-" {"-"} Member
    prefixed : {p : Prefix} {i m r : List Terminal} {t : Expr} → after_prefix p i ≡ Some m → Spells (Prefixed p) m t r → Spells (Height 0) i (Unary p t) r
    -- {} Member
    bare : {p : Prefix} {i r : List Terminal} {t : Expr} → Spells Member i t r → Spells (Prefixed p) i t r
    -- "!" {"!"} Member  |  "-" {"-"} Member, after one of the same
    again : {p : Prefix} {i m r : List Terminal} {t : Expr} → after_prefix p i ≡ Some m → Spells (Prefixed p) m t r → Spells (Prefixed p) i (Unary p t) r
    -- Mul, Add, Rel, And, Or = Chain, whose first operand is of the height below
    operand : {h : ℕ} {i m r : List Terminal} {a t : Expr} → Spells (Height h) i a m → Spells (Chain h a) m t r → Spells (Height (suc h)) i t r
    -- no further operator of the height
    last : {h : ℕ} {r : List Terminal} {a : Expr} → Spells (Chain h a) r a r
    -- Mul = [Mul ("*" | "/" | "%")] Unary;  Add = [Add ("+" | "-")] Mul;  Rel = [Rel RELOP] Add;  And = [And "&&"] Rel;  Or = [Or "||"] And
    infixed : {h : ℕ} {w : Terminal} {o : Operator} {i m r : List Terminal} {a b t : Expr} → infix_of w ≡ Some (h, o) → Spells (Height h) i b m
        → Spells (Chain h (Infix o a b)) m t r → Spells (Chain h a) (w ∷ i) t r
    -- Expr = Or
    simple : {i r : List Terminal} {t : Expr} → Spells (Height 5) i t r → Spells Whole i t r
    -- Expr = Or "?" Or ":" Expr
    conditional : {i m n r : List Terminal} {c a b : Expr} → Spells (Height 5) i c (token.Mark sign.Question ∷ m) → Spells (Height 5) m a (token.Mark sign.Colon ∷ n)
        → Spells Whole n b r → Spells Whole i (Conditional c a b) r

  -- the items of a list up to its end
  pub data Items : Closing → List Terminal → Exprs → List Terminal → Type 0 where
    -- [ExprList] = nothing
    empty : {c : Closing} {r : List Terminal} → Items c (token.Mark (close_sign c) ∷ r) no_items r
    -- ExprList = Expr {"," Expr}
    some : {c : Closing} {i m r : List Terminal} {t : Expr} {ts : Exprs} → Spells Whole i t m → MoreItems c m ts r → Items c i (item t ts) r

  -- what follows an item, up to the end
  pub data MoreItems : Closing → List Terminal → Exprs → List Terminal → Type 0 where
    -- no further item
    end : {c : Closing} {m r : List Terminal} → Ending c m r → MoreItems c m no_items r
    -- "," Expr {"," Expr}
    comma : {c : Closing} {i m r : List Terminal} {t : Expr} {ts : Exprs} → Spells Whole i t m → MoreItems c m ts r → MoreItems c (token.Mark sign.Comma ∷ i) (item t ts) r

  -- the entries of a map literal up to its end
  pub data Entries : List Terminal → Pairs → List Terminal → Type 0 where
    -- [MapInits] = nothing
    no_entry : {r : List Terminal} → Entries (token.Mark sign.CloseBrace ∷ r) no_pairs r
    -- MapInits = Expr ":" Expr {"," Expr ":" Expr}
    entries : {i m n r : List Terminal} {k v : Expr} {ps : Pairs} → Spells Whole i k (token.Mark sign.Colon ∷ m) → Spells Whole m v n → MoreEntries n ps r → Entries i (pair k v ps) r

  pub data MoreEntries : List Terminal → Pairs → List Terminal → Type 0 where
    -- no further entry
    end_entries : {m r : List Terminal} → Ending closing.Brace m r → MoreEntries m no_pairs r
    -- "," Expr ":" Expr {"," Expr ":" Expr}
    comma_entry : {i m n r : List Terminal} {k v : Expr} {ps : Pairs} → Spells Whole i k (token.Mark sign.Colon ∷ m) → Spells Whole m v n → MoreEntries n ps r
        → MoreEntries (token.Mark sign.Comma ∷ i) (pair k v ps) r

-- all of the tokens spell the tree
abbrev pub IsSpelling : List Terminal → Expr → Type 0
IsSpelling ws t = Spells Whole ws t []
