-- Which expression the variables of a policy stand after.
use Rattle.std.specs.Prelude.{Bool, false, codes, bytes_eq}
use Rattle.celtree.specs.Tree.{Expr, Name}

-- the name after which a policy's variables stand
abbrev pub is_variables : Expr → Bool
is_variables (Name x) = bytes_eq x (codes "variables")
is_variables _ = false
