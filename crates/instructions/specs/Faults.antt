-- What may fail, and what a function of the program returns for it.
use Rattle.std.specs.Prelude.{◌≡◌, Result, Ok, Err}
use Rattle.instructions.specs.declared.fault.CodeFault.{CodeFault}
use Rattle.instructions.specs.declared.fault.CodeFault.TheVariants as fault

-- The next step, if the first did not fail.
infixl 10 ◌>>=◌
abbrev pub ◌>>=◌ : {A B : Type 0} → Result A CodeFault → (A → Result B CodeFault) → Result B CodeFault
(Ok x) >>= f = f x
(Err e) >>= f = Err e

-- An error is the one that is expected, unless out of memory.
abbrev pub Fails : {Y : Type 0} → CodeFault → Result Y CodeFault → Type 0
Fails fault.Truncated expected = expected ≡ Err fault.Truncated
Fails fault.BadOperand expected = expected ≡ Err fault.BadOperand
Fails fault.TextNotUtf8 expected = expected ≡ Err fault.TextNotUtf8
Fails fault.TrailingBytes expected = expected ≡ Err fault.TrailingBytes
Fails fault.BadJump expected = expected ≡ Err fault.BadJump
Fails fault.BadName expected = expected ≡ Err fault.BadName
Fails fault.BadStack expected = expected ≡ Err fault.BadStack
Fails fault.Memory expected = Unit {0}

-- What a function returned, seen by view, is what is expected, unless out of memory.
abbrev pub Gives : {X Y : Type 0} → (X → Y) → Result X CodeFault → Result Y CodeFault → Type 0
Gives view (Ok x) expected = expected ≡ Ok (view x)
Gives view (Err e) expected = Fails e expected
