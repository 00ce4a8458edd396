-- When code gives what an expression means.
use Rattle.std.specs.Prelude.{◌≡◌, true, List, []}
use Rattle.celtree.specs.Tree.{Expr}
use Rattle.celtree.specs.Nesting.{nests_within}
use Rattle.celmean.specs.Meaning.{Environment}
use Rattle.celtypes.specs.Typing.{Scope}
use Rattle.instructions.specs.Op.{Op}
use Rattle.plan.specs.Compilation.{compiled}
use Rattle.plan.specs.Correct.{IsWorldOf, names_of}
use Rattle.instructions.specs.Machine.{World}
use Rattle.plan.specs.Seen.{HasSomeType}

-- It is the code of an expression that has a type in a scope outside all macros, whose macros nest at most two deep; and the machine's names stand
-- for what they stand for in the environment.
pub record IsRunOf (code : List Op) (w : World) (e : Expr) (env : Environment) : Type 0 where
  pub scope : Scope
  pub outside : scope.locals ≡ []
  pub typed : HasSomeType scope e
  pub nested : nests_within e 2 ≡ true
  pub world : IsWorldOf w (names_of scope) env
  pub code_is : code ≡ compiled e 0 (names_of scope)
