-- An error that is the expected one stays so where the expected one does.
use Rattle.std.proofs.Common.{◌≡◌, Result, Err}
use Rattle.instructions.specs.declared.fault.CodeFault.{CodeFault}
use Rattle.instructions.specs.declared.fault.CodeFault.TheVariants as fault
use Rattle.instructions.specs.Faults.{Fails}

pub fails : {X Y : Type 0} (e : CodeFault) (r : Result X CodeFault) (s : Result Y CodeFault) → ((f : CodeFault) → r ≡ Err f → s ≡ Err f) → Fails e r → Fails e s
fails fault.Truncated r s same h = same fault.Truncated h
fails fault.BadOperand r s same h = same fault.BadOperand h
fails fault.TextNotUtf8 r s same h = same fault.TextNotUtf8 h
fails fault.TrailingBytes r s same h = same fault.TrailingBytes h
fails fault.BadJump r s same h = same fault.BadJump h
fails fault.BadName r s same h = same fault.BadName h
fails fault.BadStack r s same h = same fault.BadStack h
fails fault.Memory r s same h = tt
