use Rattle.gated.proofs.Leaving.{on_err, upgraded_left}
use Rattle.gated.proofs.program.upgrade.Goals as goal

pub returns-in_err-upgraded-clause-left : goal.returns-in_err-upgraded-clause-left
returns-in_err-upgraded-clause-left g c = on_err c.from_residual.result c.in_err-upgraded.ensures.left

pub returns-clause-left : goal.returns-clause-left
returns-clause-left g c =
    on_err c.print_upgraded.result
    (upgraded_left g.D.Device.disk g.S.Storage.missed g.S.Storage.opened g.S.Storage.closed c.args.storage.now c.args.file.now g.S.Storage.made
    c.in_ok-upgraded.upgraded c.in_ok-upgraded.ensures.upgraded)
