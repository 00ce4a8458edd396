-- How large a tree is.
use Rattle.std.specs.Prelude.{ℕ, ◌+◌, length}
use Rattle.celtree.specs.Tree.{Expr, Null, Truth, Int, Uint, Text, Name, Field, Has, Index, Sequence, Mapping, Unary, Infix, Conditional, Call, Method, Over, Exprs, no_items, item, Pairs, no_pairs, pair}

-- how many nodes a tree has: one for each expression in it
abbrev mutual
  pub nodes : Expr → ℕ
  nodes Null = 1
  nodes (Truth b) = 1
  nodes (Int v) = 1
  nodes (Uint v) = 1
  nodes (Text t) = 1
  nodes (Name x) = 1
  nodes (Field e f) = 1 + nodes e
  nodes (Has e f) = 1 + nodes e
  nodes (Index e x) = 1 + nodes e + nodes x
  nodes (Sequence ts) = 1 + nodes_of_items ts
  nodes (Mapping ps) = 1 + nodes_of_pairs ps
  nodes (Unary p e) = 1 + nodes e
  nodes (Infix o a b) = 1 + nodes a + nodes b
  nodes (Conditional c a b) = 1 + nodes c + nodes a + nodes b
  nodes (Call f ts) = 1 + nodes_of_items ts
  nodes (Method e f ts) = 1 + nodes e + nodes_of_items ts
  nodes (Over m e x b) = 1 + nodes e + nodes b

  pub nodes_of_items : Exprs → ℕ
  nodes_of_items no_items = 0
  nodes_of_items (item t ts) = nodes t + nodes_of_items ts

  pub nodes_of_pairs : Pairs → ℕ
  nodes_of_pairs no_pairs = 0
  nodes_of_pairs (pair k v ps) = nodes k + nodes v + nodes_of_pairs ps

-- how many bytes stand in the string literals and field names of a tree
abbrev mutual
  pub text_bytes : Expr → ℕ
  text_bytes Null = 0
  text_bytes (Truth b) = 0
  text_bytes (Int v) = 0
  text_bytes (Uint v) = 0
  text_bytes (Text t) = length t
  text_bytes (Name x) = 0
  text_bytes (Field e f) = text_bytes e + length f
  text_bytes (Has e f) = text_bytes e + length f
  text_bytes (Index e x) = text_bytes e + text_bytes x
  text_bytes (Sequence ts) = text_bytes_of_items ts
  text_bytes (Mapping ps) = text_bytes_of_pairs ps
  text_bytes (Unary p e) = text_bytes e
  text_bytes (Infix o a b) = text_bytes a + text_bytes b
  text_bytes (Conditional c a b) = text_bytes c + text_bytes a + text_bytes b
  text_bytes (Call f ts) = text_bytes_of_items ts
  text_bytes (Method e f ts) = text_bytes e + text_bytes_of_items ts
  text_bytes (Over m e x b) = text_bytes e + text_bytes b

  pub text_bytes_of_items : Exprs → ℕ
  text_bytes_of_items no_items = 0
  text_bytes_of_items (item t ts) = text_bytes t + text_bytes_of_items ts

  pub text_bytes_of_pairs : Pairs → ℕ
  text_bytes_of_pairs no_pairs = 0
  text_bytes_of_pairs (pair k v ps) = text_bytes k + text_bytes v + text_bytes_of_pairs ps
