-- How deep macros nest.
use Rattle.std.specs.Prelude.{ℕ, zero, suc, Bool, true, false, ◌&&◌}
use Rattle.celtree.specs.Tree.{Expr, Null, Truth, Int, Uint, Text, Name, Field, Has, Index, Sequence, Mapping, Unary, Infix, Conditional, Call, Method, Over, Exprs, no_items, item, Pairs, no_pairs, pair}

-- macros nest at most n deep: one whose body has macros nests one deeper than they do
abbrev mutual
  pub nests_within : Expr → ℕ → Bool
  nests_within Null n = true
  nests_within (Truth b) n = true
  nests_within (Int v) n = true
  nests_within (Uint v) n = true
  nests_within (Text t) n = true
  nests_within (Name x) n = true
  nests_within (Field e f) n = nests_within e n
  nests_within (Has e f) n = nests_within e n
  nests_within (Index e x) n = nests_within e n && nests_within x n
  nests_within (Sequence ts) n = all_within ts n
  nests_within (Mapping ps) n = pairs_within ps n
  nests_within (Unary p e) n = nests_within e n
  nests_within (Infix o a b) n = nests_within a n && nests_within b n
  nests_within (Conditional c a b) n = nests_within c n && (nests_within a n && nests_within b n)
  nests_within (Call f ts) n = all_within ts n
  nests_within (Method e f ts) n = nests_within e n && all_within ts n
  nests_within (Over m e x b) zero = false
  nests_within (Over m e x b) (suc n) = nests_within e (suc n) && nests_within b n

  pub all_within : Exprs → ℕ → Bool
  all_within no_items n = true
  all_within (item t ts) n = nests_within t n && all_within ts n

  pub pairs_within : Pairs → ℕ → Bool
  pairs_within no_pairs n = true
  pairs_within (pair k v ps) n = (nests_within k n && nests_within v n) && pairs_within ps n
