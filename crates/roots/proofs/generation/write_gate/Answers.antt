use Rattle.std.proofs.Common.{◌*◌, ◌∷◌, List, ℕ, replicate, subst}
use Rattle.std.specs.Prelude.{OnOk}
use Rattle.device.specs.Step.{Holds}
use Rattle.roots.proofs.generation.write_gate.Goals as goal

pub returns-clause-written : goal.returns-clause-written
returns-clause-written g c keeps =
    let disk = g.D.Device.disk in
    let Written : List ℕ → Type 0 = λ gate. OnOk c.write_through.result (Holds (disk.content c.args.device.now) (512 * c.gate_sector.result) gate (disk.content c.write_through.new.device)) in
    let At : ℕ → Type 0 = λ sector. OnOk c.write_through.result
    (Holds (disk.content c.args.device.now) (512 * sector) (c.args.first_byte ∷ replicate 511 0) (disk.content c.write_through.new.device))
    in
    subst At c.gate_sector.ensures (subst Written c.gate_of.ensures.bytes (c.write_through.ensures.written keeps))
