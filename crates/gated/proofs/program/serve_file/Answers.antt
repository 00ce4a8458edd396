use Rattle.gated.proofs.Served.{served_file}
use Rattle.gated.proofs.Leaving.{kept_part, left_file, left_weaker, on_err}
use Rattle.gated.proofs.program.serve_file.Goals as goal

pub returns-clause-served : goal.returns-clause-served
returns-clause-served g c =
    served_file g.S.Storage.made g.S.Storage.opened g.S.Storage.closed c.args.storage.now c.args.file.now c.in_ok-store.store c.serve_opened-served.new.store
    c.in_ok-store.ensures.opened c.into_device.result c.into_device.ensures c.close.ensures.closed c.serve_opened-served.result c.serve_opened-served.ensures.served

pub returns-in_err-store-clause-left : goal.returns-in_err-store-clause-left
returns-in_err-store-clause-left g c =
    on_err c.from_residual.result
    (left_weaker g.D.Device.disk g.S.Storage.missed g.S.Storage.opened g.S.Storage.closed c.args.storage.now c.args.file.now _ _
    (λ rules old new h. kept_part rules g.D.Device.disk old new h) c.in_err-store.ensures.left)

pub returns-clause-left : goal.returns-clause-left
returns-clause-left g c =
    left_file g.S.Storage.missed g.S.Storage.opened g.S.Storage.closed c.args.storage.now c.args.file.now c.in_ok-store.store c.serve_opened-served.new.store
    c.in_ok-store.ensures.opened c.into_device.result c.into_device.ensures c.close.ensures.closed c.serve_opened-served.result c.serve_opened-served.ensures.stopped
