use Rattle.std.proofs.Common.{◌≡◌, ◌-◌, ℕ, List, false}
use Rattle.std.specs.List.{AllByRecursion}
use Rattle.device.specs.Run.{Ran}
use Rattle.device.specs.Step.{Same}
use Rattle.gatelog.specs.Walk.{Passes}
use Rattle.names.specs.Key.{Key}
use Rattle.histories.specs.declared.stored.Stored.{Stored}
use Rattle.histories.specs.View as seen
use Rattle.holdings.specs.Holdings.{Shows}
use Rattle.holdings.specs.Known.{KnowsSame}
use Rattle.decoded.specs.Decoded.{Decoded}
use Rattle.recovery.specs.Known.{AllKnown, IsOfGroup}
use Rattle.recovery.specs.Taken.{HasRedone}
use Rattle.durable.specs.LogStill.{IsLogStill}
use Rattle.durable.proofs.content.redo_log.Given as goal

-- the payloads so far were passed, and their writes taken
abbrev pub invariant-each : goal.invariant-each
invariant-each g l = record {
  still : IsLogStill l.fn.log l.log;
  works : l.log.failed ≡ false;
  ran : Ran g.D.Device.disk l.fn.device l.device Same;
  steady : g.D.Device.disk.failures l.device ≡ g.D.Device.disk.failures l.fn.device;
  rules_stay : l.paged.core.rules ≡ l.fn.paged.core.rules;
  cache : l.paged.cache ≡ l.fn.paged.cache;
  known : KnowsSame l.fn.paged.core l.paged.core;
  passed : List (List ℕ);
  passes : g.D.Device.disk.keeps l.fn.device
      → Passes l.fn.log.first_gate_sector passed l.gate l.fn.log.last_gate_sector (g.D.Device.disk.content l.fn.device);
  groups : AllByRecursion IsOfGroup passed;
  redone : (base : List (Key × Stored Decoded)) (held : seen.View Decoded) → Shows l.fn.paged.core base held → AllKnown l.fn.paged.core base passed
      → HasRedone l.fn.paged.core.rules base held l.paged.core passed;
}

abbrev pub decreases-each : goal.decreases-each
decreases-each g l = l.fn.log.last_gate_sector - l.gate
