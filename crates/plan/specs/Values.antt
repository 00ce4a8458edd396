-- The values that stand in a tree.
use Rattle.std.specs.Prelude.{◌<◌, ◌^◌, FitsSigned, IsUtf8}
use Rattle.std.specs.Int.{w64}
use Rattle.celtree.specs.Tree.{Expr, Null, Truth, Int, Uint, Text, Name, Field, Has, Index, Sequence, Mapping, Unary, Infix, Conditional, Call, Method, Over, Exprs, no_items, item, Pairs, no_pairs, pair}

-- each number in the tree has 64 bits, and each string and field name is UTF-8: so it is in each tree of the program
abbrev mutual
  pub HasValues : Expr → Type 0
  HasValues Null = Unit {0}
  HasValues (Truth b) = Unit {0}
  HasValues (Int z) = FitsSigned w64 z
  HasValues (Uint n) = n < 2 ^ 64
  HasValues (Text s) = IsUtf8 s
  HasValues (Name x) = Unit {0}
  HasValues (Field e f) = HasValues e × IsUtf8 f
  HasValues (Has e f) = HasValues e × IsUtf8 f
  HasValues (Index e i) = HasValues e × HasValues i
  HasValues (Sequence es) = HaveValues es
  HasValues (Mapping ps) = PairsHaveValues ps
  HasValues (Unary p e) = HasValues e
  HasValues (Infix o a b) = HasValues a × HasValues b
  HasValues (Conditional c a b) = HasValues c × HasValues a × HasValues b
  HasValues (Call f es) = HaveValues es
  HasValues (Method e f es) = HasValues e × HaveValues es
  HasValues (Over m e x body) = HasValues e × HasValues body

  pub HaveValues : Exprs → Type 0
  HaveValues no_items = Unit {0}
  HaveValues (item e es) = HasValues e × HaveValues es

  pub PairsHaveValues : Pairs → Type 0
  PairsHaveValues no_pairs = Unit {0}
  PairsHaveValues (pair k v ps) = HasValues k × HasValues v × PairsHaveValues ps
