use Rattle.std.proofs.Common.{◌-◌, ℕ, List}
use Rattle.std.specs.List.{AllByRecursion}
use Rattle.device.specs.Run.{Ran}
use Rattle.device.specs.Step.{Same}
use Rattle.roots.specs.Root.{log_sector}
use Rattle.damage.specs.Records.{IsOfWrites}
use Rattle.damage.proofs.Walking.{Walked}
use Rattle.damage.proofs.record_search.first_damaged.Given as goal

-- the payloads so far are of writes
abbrev pub invariant-each : goal.invariant-each
invariant-each g l = record {
  ran : Ran g.D.Device.disk l.fn.device l.device Same;
  passed : List (List ℕ);
  walked : g.D.Device.disk.keeps l.fn.device → Walked (g.D.Device.disk.content l.fn.device) (log_sector l.root) l.gate l.log.last_gate_sector passed;
  sound : AllByRecursion IsOfWrites passed;
}

abbrev pub decreases-each : goal.decreases-each
decreases-each g l = l.log.last_gate_sector - l.gate
