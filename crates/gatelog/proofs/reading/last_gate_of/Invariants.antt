use Rattle.std.proofs.Common.{◌≤◌, ◌-◌, ◌*◌, ◌^◌, ◌≡◌, length}
use Rattle.device.specs.Step.{Same}
use Rattle.device.specs.Run.{Ran}
use Rattle.gatelog.specs.Walk.{Leads}
use Rattle.gatelog.proofs.reading.last_gate_of.Given as goal

abbrev pub invariant-loop-gate : goal.invariant-loop-gate
invariant-loop-gate g l = record {
  ran : Ran g.D.Device.disk l.fn.device l.device Same;
  end : g.D.Device.disk.keeps l.fn.device → length (g.D.Device.disk.content l.fn.device) ≡ 512 * l.end;
  at_most : l.end ≤ 2 ^ 54;
  steady : g.D.Device.disk.failures l.device ≡ g.D.Device.disk.failures l.fn.device;
  later : l.fn.at ≤ l.gate;
  counted : l.count ≤ l.gate;
  leads : g.D.Device.disk.keeps l.fn.device → Leads l.fn.at l.gate l.count (g.D.Device.disk.content l.fn.device);
}

abbrev pub decreases-loop-gate : goal.decreases-loop-gate
decreases-loop-gate g l = l.end - l.gate
