use Rattle.std.proofs.Common.{arith, ◌*◌, ℕ, subst}
use Rattle.std.proofs.lemmas.Result.{on_ok_weaker}
use Rattle.std.specs.Prelude.{OnOk}
use Rattle.gatelog.specs.Record.{part}
use Rattle.roots.specs.Root.{IsRoot}
use Rattle.roots.proofs.Steps.{in_front}
use Rattle.roots.proofs.Staging.{spelled}
use Rattle.roots.proofs.generation.spell_root.Goals as goal

pub returns-clause-spelled : goal.returns-clause-spelled
returns-clause-spelled g c keeps =
    let disk = g.D.Device.disk in
    let root = c.args.root.now in
    let places = in_front root.slot in
    let At : ℕ → Type 0 = λ s. OnOk c.write_through.result (IsRoot root (part (512 * s) 512 (disk.content c.write_through.new.device))) in
    subst At c.root_sector.ensures
    (on_ok_weaker c.write_through.result
    (spelled root (512 * c.root_sector.result) c.root_bytes.result (disk.content c.args.device.now) (disk.content c.write_through.new.device) c.root_bytes.ensures.root
    (omega (arith, c.requires.inside keeps, places.root, c.root_sector.ensures)))
    (c.write_through.ensures.written keeps))
