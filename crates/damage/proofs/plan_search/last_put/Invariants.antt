use Rattle.std.proofs.Common.{◌-◌, ℕ, List}
use Rattle.std.specs.Option.{IfSome}
use Rattle.device.specs.Run.{Ran}
use Rattle.device.specs.Step.{Same}
use Rattle.roots.specs.Root.{log_sector}
use Rattle.damage.specs.Plans.{PutsOtherPlans}
use Rattle.damage.proofs.Walking.{Walked}
use Rattle.damage.proofs.plan_search.last_put.Given as goal

-- what was found is there
abbrev pub invariant-each : goal.invariant-each
invariant-each g l = record {
  ran : Ran g.D.Device.disk l.fn.device l.device Same;
  passed : List (List ℕ);
  walked : g.D.Device.disk.keeps l.fn.device → Walked (g.D.Device.disk.content l.fn.device) (log_sector l.root) l.gate l.log.last_gate_sector passed;
  found : g.D.Device.disk.keeps l.fn.device → IfSome l.found (PutsOtherPlans (g.D.Device.disk.content l.fn.device) l.root);
}

abbrev pub decreases-each : goal.decreases-each
decreases-each g l = l.log.last_gate_sector - l.gate
