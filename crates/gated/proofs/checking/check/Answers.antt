use Rattle.std.proofs.Common.{subst}
use Rattle.gated.specs.Doing.{HasFound}
use Rattle.gated.proofs.Leaving.{on_err, damaged_left, whole_left}
use Rattle.gated.proofs.checking.check.Goals as goal

pub returns-in_err-print_checked-in-Whole-clause-left : goal.returns-in_err-print_checked-in-Whole-clause-left
returns-in_err-print_checked-in-Whole-clause-left g c =
    on_err c.from_residual-in_err-print_checked-in-Whole.result
    (whole_left g.D.Device.disk g.S.Storage.missed g.S.Storage.opened g.S.Storage.closed c.args.storage.now c.args.file.now g.S.Storage.made
    c.in-Whole.checked
    (subst (HasFound g.D.Device.disk g.S.Storage.made g.S.Storage.opened g.S.Storage.closed c.args.storage.now c.args.file.now) c.in-Whole.is c.in_ok-checked.ensures.found))

pub returns-in_err-print_damaged-in-Damaged-clause-left : goal.returns-in_err-print_damaged-in-Damaged-clause-left
returns-in_err-print_damaged-in-Damaged-clause-left g c =
    on_err c.from_residual-in_err-print_damaged-in-Damaged.result
    (damaged_left g.D.Device.disk g.S.Storage.missed g.S.Storage.opened g.S.Storage.closed c.args.storage.now c.args.file.now g.S.Storage.made
    c.in-Damaged.damage c.in-Damaged.place
    (subst (HasFound g.D.Device.disk g.S.Storage.made g.S.Storage.opened g.S.Storage.closed c.args.storage.now c.args.file.now) c.in-Damaged.is c.in_ok-checked.ensures.found))
