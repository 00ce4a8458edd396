use Rattle.std.proofs.Common.{◌*◌, ℕ, replicate, subst}
use Rattle.std.specs.Prelude.{OnOk}
use Rattle.device.specs.Step.{Holds}
use Rattle.roots.proofs.generation.write_first_gate.Goals as goal

pub returns-clause-written : goal.returns-clause-written
returns-clause-written g c keeps =
    let disk = g.D.Device.disk in
    let At : ℕ → Type 0 = λ at. OnOk c.write.result (Holds (disk.content c.args.device.now) (512 * at) (replicate 512 0) (disk.content c.write.new.self)) in
    subst At c.log_sector.ensures.place (c.write.ensures.written keeps)
