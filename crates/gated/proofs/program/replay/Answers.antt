use Rattle.std.proofs.Common.{inl, inr}
use Rattle.gated.proofs.Leaving.{on_err}
use Rattle.gated.proofs.program.replay.Goals as goal

pub returns-in_err-device-clause-left : goal.returns-in_err-device-clause-left
returns-in_err-device-clause-left g c = on_err c.from_residual.result (inl c.in_err-device.ensures.missed)

pub returns-in-Err-clause-left : goal.returns-in-Err-clause-left
returns-in-Err-clause-left g c = inr (record {
  found = c.in_ok-device.device;
  left = c.in-Err.device;
  was_opened = c.in_ok-device.ensures.opened;
  was_closed = c.close-in-Err.ensures.closed;
  is_so = c.in-Err.ensures.ended_early;
})
