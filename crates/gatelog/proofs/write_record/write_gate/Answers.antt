use Rattle.std.proofs.Common.{◌*◌, List, ℕ, subst}
use Rattle.std.specs.Prelude.{OnOk}
use Rattle.device.specs.Step.{Holds}
use Rattle.gatelog.proofs.write_record.write_gate.Goals as goal

pub returns-clause-written : goal.returns-clause-written
returns-clause-written g c keeps =
    let disk = g.D.Device.disk in
    let P : List ℕ → Type 0 = λ sector. OnOk c.write_through.result (Holds (disk.content c.args.device.now) (512 * c.args.gate) sector (disk.content c.write_through.new.device)) in
    subst P c.open_gate.ensures.bytes (c.write_through.ensures.written keeps)
