use Rattle.std.proofs.Common.{◌*◌, subst}
use Rattle.std.specs.Prelude.{OnOk}
use Rattle.device.specs.Disk.{Only}
use Rattle.device.specs.Run.{Ran}
use Rattle.device.specs.Step.{Same, Torn}
use Rattle.gatelog.specs.Log.{IsOpen}
use Rattle.roots.specs.declared.root.Slot.{Slot}
use Rattle.roots.specs.Root.{gate_sector}
use Rattle.roots.proofs.Chain.{gate_written, gate_closed_on}
use Rattle.roots.proofs.generation.clear_slot.Goals as goal

pub returns-clause-ran : goal.returns-clause-ran
returns-clause-ran g c =
    let disk = g.D.Device.disk in
    let At : Slot → Type 0 = λ s. Ran disk c.args.device.now c.close_gate.new.device (Torn (512 * gate_sector s) 512) in
    subst At c.other.ensures c.close_gate.ensures.ran

pub returns-clause-untouched : goal.returns-clause-untouched
returns-clause-untouched g c keeps =
    let disk = g.D.Device.disk in
    let At : Slot → Type 0 = λ s. (IsOpen (gate_sector s) (disk.content c.args.device.now) → ⊥) → Ran disk c.args.device.now c.close_gate.new.device Same in
    subst At c.other.ensures (c.close_gate.ensures.untouched keeps)

pub returns-clause-any_moment : goal.returns-clause-any_moment
returns-clause-any_moment g c keeps last in_use =
    gate_written g.D.Device.disk c.args.device.now c.close_gate.new.device c.args.current.now last keeps
    (λ content since. g.met.D.Device.only_now c.args.device.now content keeps since) in_use (returns-clause-ran g c) (returns-clause-untouched g c keeps)

pub returns-clause-ok : goal.returns-clause-ok
returns-clause-ok g c keeps last in_use =
    let disk = g.D.Device.disk in
    let Synced : Slot → Type 0 = λ s. IsOpen (gate_sector s) (disk.content c.args.device.now)
    → OnOk c.close_gate.result (Only (disk.content c.close_gate.new.device) (disk.left c.close_gate.new.device)) in
    let Closed : Slot → Type 0 = λ s. OnOk c.close_gate.result (IsOpen (gate_sector s) (disk.content c.close_gate.new.device) → ⊥) in
    gate_closed_on disk c.args.device.now c.close_gate.new.device c.args.current.now last keeps
    (λ content since. g.met.D.Device.only_now c.args.device.now content keeps since) in_use c.close_gate.result
    (returns-clause-ran g c) (returns-clause-untouched g c keeps)
    (subst Synced c.other.ensures (c.close_gate.ensures.durable keeps)) (subst Closed c.other.ensures (c.close_gate.ensures.closed keeps))
