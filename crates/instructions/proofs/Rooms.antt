-- The instructions of a plan that has bytes, one by one.
use Rattle.std.proofs.Common.{List, [], ◌∷◌, All}
use Rattle.std.specs.List.{AllByRecursion}
use Rattle.std.proofs.lemmas.List.Elements.{All-from_recursion}
use Rattle.instructions.specs.declared.instruction.Instruction.{Instruction}
use Rattle.instructions.specs.Seen.{op_of, ops_of}
use Rattle.instructions.specs.Bytes.{Fits}

fit : (is : List Instruction) → AllByRecursion Fits (ops_of is) → AllByRecursion (λ i. Fits (op_of i)) is
fit [] fits = tt
fit (i ∷ is) fits = (fits.0, fit is fits.1)

pub fits_each : (is : List Instruction) → AllByRecursion Fits (ops_of is) → All (λ i. Fits (op_of i)) is
fits_each is fits = All-from_recursion (λ i. Fits (op_of i)) is (fit is fits)
