use Rattle.std.proofs.Common.{inl, inr}
use Rattle.gated.proofs.Leaving.{on_err}
use Rattle.gated.proofs.program.create_store.Goals as goal

pub returns-in-Ok-clause-made : goal.returns-in-Ok-clause-made
returns-in-Ok-clause-made g c = record {
  empty = c.in_ok-device.device;
  left = c.create-2.new.device;
  was_made = c.in_ok-device.ensures.made;
  was_closed = c.close.ensures.closed;
  holds = λ keeps. record {
    keeps = c.create-2.ensures.kept keeps;
    read = c.in-Ok.ensures.stands keeps;
    left = c.in-Ok.ensures.left keeps;
  };
}

pub returns-in_err-device-clause-left : goal.returns-in_err-device-clause-left
returns-in_err-device-clause-left g c = on_err c.from_residual.result (inl c.in_err-device.ensures.missed)

pub returns-in-Err-clause-left : goal.returns-in-Err-clause-left
returns-in-Err-clause-left g c = inr (record {
  empty = c.in_ok-device.device;
  left = c.create-2.new.device;
  was_made = c.in_ok-device.ensures.made;
  was_discarded = c.discard.ensures.discarded;
  written = c.create-2.ensures.ran;
  stays = c.create-2.ensures.sectors_stay;
})
