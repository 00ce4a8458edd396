use Rattle.std.proofs.Common.{ap, inl}
use Rattle.gated.proofs.Watching.{kept_watched, wrote_watched}
use Rattle.gated.proofs.Leaving.{on_err}
use Rattle.gated.proofs.program.write_anew.Goals as goal

pub returns-in-Ok-clause-written : goal.returns-in-Ok-clause-written
returns-in-Ok-clause-written g c =
    wrote_watched g.D.Device.disk g.S.Storage.made g.S.Storage.opened g.S.Storage.closed c.args.storage.now c.args.file.now c.in_ok-device.device c.into_device.result
    c.new-watched.result c.in-Ok.watched c.in-Ok.compacted (ap (λ w. w.device) c.new-watched.ensures) c.into_device.ensures c.in_ok-device.ensures.opened c.close.ensures.closed
    c.in-Ok.ensures.ok c.in-Ok.ensures.written

pub returns-in_err-device-clause-left : goal.returns-in_err-device-clause-left
returns-in_err-device-clause-left g c = on_err c.from_residual.result (inl c.in_err-device.ensures.missed)

pub returns-in-Err-clause-left : goal.returns-in-Err-clause-left
returns-in-Err-clause-left g c =
    kept_watched g.D.Device.disk g.S.Storage.missed g.S.Storage.opened g.S.Storage.closed c.args.storage.now c.args.file.now c.in_ok-device.device c.into_device-in-Err.result c.new-watched.result c.in-Err.watched
    (ap (λ w. w.device) c.new-watched.ensures) c.into_device-in-Err.ensures c.in_ok-device.ensures.opened c.close-in-Err.ensures.closed
    c.in-Err.ensures.failed
