use Rattle.roots.proofs.Installing.{on_ok}
use Rattle.roots.proofs.Staging.{gate_run, gate_and_root_run, pages_and_gate, length-gate}
use Rattle.roots.proofs.generation.write_root.Goals as goal

pub returns-in_err-write_first_gate-clause-ran : goal.returns-in_err-write_first_gate-clause-ran
returns-in_err-write_first_gate-clause-ran g c =
    gate_run c.args.root.now g.D.Device.disk c.args.device.now c.write_first_gate.new.device c.write_first_gate.ensures.ran

pub returns-clause-ran : goal.returns-clause-ran
returns-clause-ran g c =
    gate_and_root_run c.args.root.now g.D.Device.disk c.args.device.now c.write_first_gate.new.device c.spell_root.new.device
    c.write_first_gate.ensures.ran c.spell_root.ensures.ran

pub returns-clause-pages : goal.returns-clause-pages
returns-clause-pages g c keeps pages size has =
    let disk = g.D.Device.disk in
    let kept = c.write_first_gate.ensures.ran.kept keeps in
    on_ok c.spell_root.result
    (pages_and_gate c.args.root.now pages (disk.content c.args.device.now) (disk.content c.write_first_gate.new.device) (disk.content c.spell_root.new.device)
    c.requires.in_data size has (c.requires.inside keeps) (c.in_ok-write_first_gate.ensures.written keeps)
    (c.write_first_gate.ensures.ran.seen keeps) (c.spell_root.ensures.ran.seen kept))

pub returns-clause-length : goal.returns-clause-length
returns-clause-length g c keeps =
    let disk = g.D.Device.disk in
    let kept = c.write_first_gate.ensures.ran.kept keeps in
    on_ok c.spell_root.result
    (length-gate c.args.root.now (disk.content c.args.device.now) (disk.content c.write_first_gate.new.device) (disk.content c.spell_root.new.device)
    c.requires.in_data (c.requires.inside keeps) (c.in_ok-write_first_gate.ensures.written keeps) (c.spell_root.ensures.ran.seen kept))
