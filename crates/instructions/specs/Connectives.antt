-- The truth table of each connective.
use Rattle.celmean.specs.Value.{Outcome}
use Rattle.celmean.specs.Macros.{both, either}
use Rattle.instructions.specs.declared.connective.Connective.{Connective}
use Rattle.instructions.specs.declared.connective.Connective.TheVariants as connective

-- what the instruction of a connective puts in the place of two outcomes
abbrev pub connected : Connective → Outcome → Outcome → Outcome
connected connective.And = both
connected connective.Or = either
