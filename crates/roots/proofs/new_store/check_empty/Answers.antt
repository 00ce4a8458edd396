use Rattle.std.proofs.Common.{arith}
use Rattle.std.proofs.lemmas.List.{nil_from_length}
use Rattle.roots.proofs.new_store.check_empty.Goals as goal

pub returns-clause-empty : goal.returns-clause-empty
returns-clause-empty g c keeps =
    nil_from_length (g.D.Device.disk.content c.args.device.now) (omega (arith, c.in_ok-len.ensures.sectors keeps, c.if-branch-ne0.false))
