-- The numbers that the program ends with.
use Rattle.std.specs.Prelude.{ℕ}
use Rattle.gated.specs.declared.status.Status.{Status}
use Rattle.gated.specs.declared.status.Status.TheVariants as status

abbrev pub code_of : Status → ℕ
code_of status.Success = 0
code_of status.Usage = 2
code_of status.NoStore = 3
code_of status.Failed = 4
code_of status.OutOfMemory = 5
