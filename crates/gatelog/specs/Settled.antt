-- A log on a device.
use Rattle.std.specs.Prelude.{◌≡◌, ◌+◌, ◌*◌, ℕ, List, false, length, take}
use Rattle.device.specs.Disk.{Disk}
use Rattle.gatelog.specs.declared.gate_log.Log.{Log}
use Rattle.gatelog.specs.Log.{HoldsLog}

-- The log has these payloads and counts them, and each content that a crash may leave is the content that reads give, up to the end of the log's closed gate.
pub record IsSettled {D : Type 0} (disk : Disk D) (device : D) (log : Log) (payloads : List (List ℕ)) : Type 0 where
  pub works : log.failed ≡ false
  pub holds : HoldsLog log.first_gate_sector payloads log.last_gate_sector (disk.content device)
  pub counted : log.record_count ≡ length payloads
  pub durable : (c : List ℕ) → disk.left device c → take (512 * log.last_gate_sector + 512) c ≡ take (512 * log.last_gate_sector + 512) (disk.content device)
