-- What is told of code that no plan has.
use Rattle.instructions.specs.declared.fault.CodeFault.{CodeFault}
use Rattle.instructions.specs.declared.fault.CodeFault.TheVariants as code
use Rattle.plancode.specs.declared.list_reading.ReadPlansFault.{ReadPlansFault}
use Rattle.plancode.specs.declared.list_reading.ReadPlansFault.TheVariants.{Damaged, Memory}

-- Each fault of the bytes is damage.
abbrev pub of_code_fault : CodeFault → ReadPlansFault
of_code_fault code.Truncated = Damaged
of_code_fault code.BadOperand = Damaged
of_code_fault code.TextNotUtf8 = Damaged
of_code_fault code.TrailingBytes = Damaged
of_code_fault code.BadJump = Damaged
of_code_fault code.BadName = Damaged
of_code_fault code.BadStack = Damaged
of_code_fault code.Memory = Memory
