-- What the payloads of a log that is opened are read by.
use Rattle.std.specs.Prelude.{◌≡◌}
use Rattle.gatelog.specs.declared.gate_log.Log.{Log}
use Rattle.durable.specs.declared.fault.Damage.{Damage}
use Rattle.durable.specs.declared.fault.Damage.TheVariants as Damages

-- The log is the same: it begins and ends at the same gates, and has as many records.
pub record IsLogStill (old new : Log) : Type 0 where
  pub first : new.first_gate_sector ≡ old.first_gate_sector
  pub last : new.last_gate_sector ≡ old.last_gate_sector
  pub count : new.record_count ≡ old.record_count

-- Such damage is of the log: of its records, or of the plans in them.
abbrev pub IsOfLog : Damage → Type 0
IsOfLog Damages.Log = Unit {0}
IsOfLog Damages.Plan = Unit {0}
IsOfLog _ = ⊥
