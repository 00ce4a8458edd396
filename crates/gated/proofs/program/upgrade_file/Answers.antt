use Rattle.std.proofs.Common.{ap, inl, ◌∙◌}
use Rattle.gated.proofs.Watching.{either_watched, kept_watched, upgraded_watched}
use Rattle.gated.specs.Problem.{of_upgrade}
use Rattle.gated.proofs.Leaving.{on_err, on_each}
use Rattle.gated.proofs.program.upgrade_file.Goals as goal

pub returns-in-Ok-clause-upgraded : goal.returns-in-Ok-clause-upgraded
returns-in-Ok-clause-upgraded g c =
    upgraded_watched g.D.Device.disk g.S.Storage.made g.S.Storage.opened g.S.Storage.closed c.args.storage.now c.args.file.now c.in_ok-device.device c.into_device.result
    c.new-watched.result c.in-Ok.watched c.in-Ok.upgraded (ap (λ w. w.device) c.new-watched.ensures) c.into_device.ensures c.in_ok-device.ensures.opened c.close.ensures.closed
    c.in-Ok.ensures.ok c.in-Ok.ensures.told

pub returns-in_err-device-clause-left : goal.returns-in_err-device-clause-left
returns-in_err-device-clause-left g c = on_err c.from_residual.result (inl c.in_err-device.ensures.missed)

pub returns-in_err-device-clause-kept : goal.returns-in_err-device-clause-kept
returns-in_err-device-clause-kept g c = on_each c.from_residual.result (λ problem other. inl c.in_err-device.ensures.missed)

pub returns-in-Err-clause-left : goal.returns-in-Err-clause-left
returns-in-Err-clause-left g c =
    either_watched g.D.Device.disk g.S.Storage.missed g.S.Storage.opened g.S.Storage.closed c.args.storage.now c.args.file.now c.in_ok-device.device c.into_device-in-Err.result c.new-watched.result c.in-Err.watched
    (ap (λ w. w.device) c.new-watched.ensures) c.into_device-in-Err.ensures c.in_ok-device.ensures.opened c.close-in-Err.ensures.closed
    c.in-Err.ensures.failed

pub returns-in-Err-clause-kept : goal.returns-in-Err-clause-kept
returns-in-Err-clause-kept g c other =
    kept_watched g.D.Device.disk g.S.Storage.missed g.S.Storage.opened g.S.Storage.closed c.args.storage.now c.args.file.now c.in_ok-device.device c.into_device-in-Err.result c.new-watched.result c.in-Err.watched
    (ap (λ w. w.device) c.new-watched.ensures) c.into_device-in-Err.ensures c.in_ok-device.ensures.opened c.close-in-Err.ensures.closed
    (λ rules h holds. c.in-Err.ensures.kept rules h holds (λ is. other (c.from.ensures ∙ ap of_upgrade is)))
