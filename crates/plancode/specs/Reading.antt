-- The instructions that bytes spell, read front to back, with the first fault that is met.
use Rattle.std.specs.Prelude.{ℕ, zero, suc, ◌==◌, if◌then◌else◌, List, [], ◌∷◌, length, Result, Ok, Err}
use Rattle.std.specs.Int.{w16}
use Rattle.instructions.specs.declared.instruction.Name.{Name}
use Rattle.instructions.specs.declared.fault.CodeFault.{CodeFault}
use Rattle.instructions.specs.declared.fault.CodeFault.TheVariants as fault
use Rattle.instructions.specs.Op.{Op}
use Rattle.instructions.specs.Faults.{◌>>=◌}
use Rattle.instructions.specs.Judging.{first_fault}
use Rattle.instructions.specs.Reading.{number_at, op_at}

-- This many instructions, and the bytes after them.
unfoldable pub ops_at : Name → ℕ → List ℕ → Result (List Op × List ℕ) CodeFault
ops_at greatest zero bytes = Ok ([], bytes)
ops_at greatest (suc n) bytes = op_at greatest bytes >>= λ first. ops_at greatest n first.1 >>= λ others. Ok (first.0 ∷ others.0, others.1)

abbrev pub nothing_after : List Op × List ℕ → Result (List Op) CodeFault
nothing_after x = if length x.1 == 0 then Ok x.0 else Err fault.TrailingBytes

-- The number of instructions, this many instructions, and nothing after them.
unfoldable pub plan_of : Name → List ℕ → Result (List Op) CodeFault
plan_of greatest bytes = number_at w16 bytes >>= λ n. ops_at greatest n.0 n.1 >>= λ x. nothing_after x

-- The well-formed plan that bytes spell, or the first fault, in a place with this many variables and with the declared names up to this one.
unfoldable pub decoded : ℕ → Name → List ℕ → Result (List Op) CodeFault
decoded vars greatest bytes = plan_of greatest bytes >>= λ ops. first_fault vars ops >>= λ _. Ok ops
