use Rattle.std.proofs.Common.{◌≤◌, ◌-◌, ◌*◌, ◌^◌, ◌≡◌, length, map}
use Rattle.device.specs.Step.{Same}
use Rattle.device.specs.Run.{Ran}
use Rattle.gatelog.specs.Walk.{Passes}
use Rattle.gatelog.proofs.reading.payloads_of.Given as goal

abbrev pub invariant-each : goal.invariant-each
invariant-each g l = record {
  ran : Ran g.D.Device.disk l.fn.device l.device Same;
  end : g.D.Device.disk.keeps l.fn.device → length (g.D.Device.disk.content l.fn.device) ≡ 512 * l.end;
  at_most : l.end ≤ 2 ^ 54;
  steady : g.D.Device.disk.failures l.device ≡ g.D.Device.disk.failures l.fn.device;
  passes : g.D.Device.disk.keeps l.fn.device → Passes l.fn.start (map (λ payload. payload.items) l.found.items) l.gate l.last (g.D.Device.disk.content l.fn.device);
}

abbrev pub decreases-each : goal.decreases-each
decreases-each g l = l.last - l.gate
