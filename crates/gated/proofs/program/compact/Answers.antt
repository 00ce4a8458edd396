use Rattle.gated.proofs.Leaving.{on_err, wrote_left}
use Rattle.gated.proofs.program.compact.Goals as goal

pub returns-in_err-compacted-clause-left : goal.returns-in_err-compacted-clause-left
returns-in_err-compacted-clause-left g c = on_err c.from_residual.result c.in_err-compacted.ensures.left

pub returns-clause-left : goal.returns-clause-left
returns-clause-left g c =
    on_err c.print_compacted.result
    (wrote_left g.D.Device.disk g.S.Storage.missed g.S.Storage.opened g.S.Storage.closed c.args.storage.now c.args.file.now g.S.Storage.made
    c.in_ok-compacted.compacted c.in_ok-compacted.ensures.written)
