-- Plans that were judged.
use Rattle.std.specs.Prelude.{ℕ, List}
use Rattle.std.specs.List.{AllByRecursion}
use Rattle.instructions.specs.declared.instruction.Name.{Name}
use Rattle.instructions.specs.Op.{Op}
use Rattle.instructions.specs.Bytes.{HaveRoom}
use Rattle.instructions.specs.Reading.{NamesUpTo}
use Rattle.instructions.specs.WellFormed.{IsWellFormed}

-- A plan uses no declared name after this one.
abbrev pub UsesNamesUpTo : Name → List Op → Type 0
UsesNamesUpTo greatest ops = AllByRecursion (NamesUpTo greatest) ops

-- A plan, and how many variables the place has that it was judged for.
pub record Judged : Type 0 where
  pub vars : ℕ
  pub ops : List Op

-- A well-formed plan that some bytes spell.
pub record IsVerified (vars : ℕ) (ops : List Op) : Type 0 where
  pub well_formed : IsWellFormed vars ops
  pub room : HaveRoom ops
