-- What the program's names stand for, and which trees are compiled.
use Rattle.std.specs.Prelude.{◌≡◌, ℕ, ◌+◌, ◌≤◌, true, List, map, string_bytes}
use Rattle.celtree.specs.Tree.{Expr}
use Rattle.celtree.specs.Nesting.{nests_within}
use Rattle.celtree.specs.Size.{nodes, text_bytes}
use Rattle.celtypes.specs.declared.scope.Variable.{Variable}
use Rattle.celtypes.specs.Types.{ValueType}
use Rattle.celtypes.specs.Typing.{Scope, HasType}
use Rattle.plan.specs.declared.scope.Names as program
use Rattle.plan.specs.Names.{Names}

abbrev pub variable_names : List Variable → List (List ℕ)
variable_names vs = map (λ v. string_bytes v.name) vs

abbrev pub names_seen : program.Names → Names
names_seen n = record { locals = map (λ s. s.now) n.locals.now; variables = variable_names n.variables.now }

-- the tree has a type
abbrev pub HasSomeType : Scope → Expr → Type 0
HasSomeType g e = (t : ValueType) × HasType g e t

-- The tree is no larger than a text of 4096 bytes can spell, and its macros nest at most two deep: so is each tree that was read.
pub record IsSmall (e : Expr) : Type 0 where
  pub short : nodes e + text_bytes e ≤ 4096
  pub nested : nests_within e 2 ≡ true
