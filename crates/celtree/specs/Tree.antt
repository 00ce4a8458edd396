-- The tree of an expression, as pure data. Names and texts are bytes of UTF-8.
use Rattle.std.specs.Prelude.{ℕ, ℤ, Bool, List}
use Rattle.celtree.specs.declared.tree.Prefix.{Prefix}
use Rattle.celtree.specs.declared.tree.Operator.{Operator}
use Rattle.celtree.specs.declared.tree.Macro.{Macro}

mutual
  pub data Expr : Type 0 where
    Null : Expr
    Truth : (value : Bool) → Expr
    Int : (value : ℤ) → Expr
    Uint : (value : ℕ) → Expr
    Text : (text : List ℕ) → Expr
    Name : (name : List ℕ) → Expr
    Field Has : (of : Expr) (name : List ℕ) → Expr
    Index : (of index : Expr) → Expr
    Sequence : (items : Exprs) → Expr
    Mapping : (entries : Pairs) → Expr
    Unary : (prefix : Prefix) (of : Expr) → Expr
    Infix : (operator : Operator) (left right : Expr) → Expr
    Conditional : (test first second : Expr) → Expr
    Call : (name : List ℕ) (arguments : Exprs) → Expr
    Method : (of : Expr) (name : List ℕ) (arguments : Exprs) → Expr
    Over : (macro : Macro) (of : Expr) (variable : List ℕ) (body : Expr) → Expr

  pub data Exprs : Type 0 where
    no_items : Exprs
    item : (first : Expr) (rest : Exprs) → Exprs

  pub data Pairs : Type 0 where
    no_pairs : Pairs
    pair : (key value : Expr) (rest : Pairs) → Pairs
