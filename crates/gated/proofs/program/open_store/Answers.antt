use Rattle.std.proofs.Common.{inl, inr}
use Rattle.store.proofs.Keeping.{kept_unopened}
use Rattle.gated.proofs.Leaving.{on_err}
use Rattle.gated.proofs.program.open_store.Goals as goal

pub returns-in-Ok-clause-opened : goal.returns-in-Ok-clause-opened
returns-in-Ok-clause-opened g c = record {
  found = c.in_ok-device.device;
  was_opened = c.in_ok-device.ensures.opened;
  settled = λ rules h holds. c.in-Ok.ensures.settled rules h holds.keeps holds.read;
  moments = c.in-Ok.ensures.any_moment;
}

pub returns-in_err-device-clause-left : goal.returns-in_err-device-clause-left
returns-in_err-device-clause-left g c = on_err c.from_residual.result (inl c.in_err-device.ensures.missed)

pub returns-in-Err-clause-left : goal.returns-in-Err-clause-left
returns-in-Err-clause-left g c = inr (record {
  found = c.in_ok-device.device;
  left = c.in-Err.device;
  was_opened = c.in_ok-device.ensures.opened;
  was_closed = c.close.ensures.closed;
  is_so = λ rules h holds.
      kept_unopened rules g.D.Device.disk c.in_ok-device.device c.in-Err.device h holds (c.in-Err.ensures.any_moment_err holds.keeps) (c.in-Err.ensures.content_err holds.keeps)
      (c.in-Err.ensures.left_err holds.keeps);
})
