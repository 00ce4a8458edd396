use Rattle.std.proofs.Common.{arith, subst}
use Rattle.httpmsg.proofs.Cuts.{awaits_more}
use Rattle.httpmsg.specs.declared.cutter.Awaited.{Awaited}
use Rattle.httpmsg.specs.declared.cutter.Awaited.TheVariants.{Bytes}
use Rattle.httpmsg.specs.Awaited.{IsAwaited}
use Rattle.httpmsg.proofs.cutter.Awaited.after.Goals as goal

pub returns-in-Bytes : goal.returns-in-Bytes
returns-in-Bytes c = λ pending size awaited.
    let Here : Awaited → Type 0 = λ a. IsAwaited pending a in
    let awaits : Here (Bytes c.in-Bytes.need) = subst Here c.in-Bytes.is awaited in
    awaits_more pending c.args.bytes.now c.in-Bytes.need awaits (omega (arith, size, c.if-len-need.true))
