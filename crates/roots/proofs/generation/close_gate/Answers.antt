use Rattle.std.proofs.Common.{◌*◌}
use Rattle.roots.specs.Root.{gate_sector}
use Rattle.roots.proofs.Staging.{look_torn, look_then_torn}
use Rattle.roots.proofs.generation.close_gate.Goals as goal

pub returns-in_err-reads_open-clause-ran : goal.returns-in_err-reads_open-clause-ran
returns-in_err-reads_open-clause-ran g c =
    look_torn g.D.Device.disk c.args.device.now c.reads_open.new.device (512 * gate_sector c.args.slot) 512 c.reads_open.ensures.ran

pub returns-then-not-branch-clause-ran : goal.returns-then-not-branch-clause-ran
returns-then-not-branch-clause-ran g c =
    look_torn g.D.Device.disk c.args.device.now c.reads_open.new.device (512 * gate_sector c.args.slot) 512 c.reads_open.ensures.ran

pub returns-clause-ran : goal.returns-clause-ran
returns-clause-ran g c =
    look_then_torn g.D.Device.disk c.args.device.now c.reads_open.new.device c.write_gate.new.device (512 * gate_sector c.args.slot) 512
    c.reads_open.ensures.ran c.write_gate.ensures.ran
