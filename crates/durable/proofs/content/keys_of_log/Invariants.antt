use Rattle.std.proofs.Common.{◌≡◌, ◌-◌, ◌∷◌, ℕ, List, true, false, Contains}
use Rattle.device.specs.Run.{Ran}
use Rattle.device.specs.Step.{Same}
use Rattle.gatelog.specs.Walk.{Passes}
use Rattle.names.specs.Key.{Key, key_bytes}
use Rattle.recovery.specs.Known.{Writes}
use Rattle.paged.specs.Chosen.{is_chosen}
use Rattle.durable.specs.LogStill.{IsLogStill}
use Rattle.durable.proofs.content.keys_of_log.Given as goal

-- the payloads so far were passed, and their keys are chosen
abbrev pub invariant-each : goal.invariant-each
invariant-each g l = record {
  still : IsLogStill l.fn.log l.log;
  works : l.log.failed ≡ false;
  ran : Ran g.D.Device.disk l.fn.device l.device Same;
  steady : g.D.Device.disk.failures l.device ≡ g.D.Device.disk.failures l.fn.device;
  passed : List (List ℕ);
  passes : g.D.Device.disk.keeps l.fn.device
      → Passes l.fn.log.first_gate_sector passed l.gate l.fn.log.last_gate_sector (g.D.Device.disk.content l.fn.device);
  chosen : (payload : List ℕ) (key : Key) → Contains passed payload → Writes payload key → is_chosen l.chosen (1 ∷ key_bytes key) ≡ true;
}

abbrev pub decreases-each : goal.decreases-each
decreases-each g l = l.fn.log.last_gate_sector - l.gate
