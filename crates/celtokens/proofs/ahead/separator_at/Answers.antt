use Rattle.std.proofs.Common.{sym, arith}
use Rattle.celtokens.specs.Closing.{close, trailing}
use Rattle.celtokens.proofs.ahead.separator_at.Goals as goal

pub returns-in-Some : goal.returns-in-Some
returns-in-Some c = (rw (c.in-Some.ensures.value, c.close_sign.ensures) close, c.in-Some.ensures.shorter)

pub returns-then-trails : goal.returns-then-trails
returns-then-trails c = (
  rw (c.in-Some-after.ensures.value, c.in-Some-after-2.ensures.value, c.close_sign-in-Some-after.ensures) (trailing (sym c.if-trails.ensures)),
  omega (arith, c.in-Some-after.ensures.shorter, c.in-Some-after-2.ensures.shorter),
)
