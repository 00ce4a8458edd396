-- What a call leaves of a store that served.
use Rattle.std.specs.Prelude.{◌≡◌, true, false, Result, OnOk, IfErr, IsErrOf}
use Rattle.device.specs.declared.device.Device.{Ghosts}
use Rattle.device.specs.Disk.{HasFailed}
use Rattle.durable.specs.declared.fault.Damage.{Damage}
use Rattle.durable.specs.declared.fault.Fault.{Fault}
use Rattle.durable.specs.declared.fault.Fault.TheVariants as Faults
use Rattle.durable.specs.declared.store.Store.{Store}
use Rattle.durable.specs.Faults.{MayBeMet}
use Rattle.durable.specs.Settled.{device_of, serves}

-- No call of its device failed in between.
abbrev pub IsSteady : {D : Type 0} {g : Ghosts D} → (old new : Store D g) → Type 0
IsSteady {g = g} old new = g.disk.failures (device_of new) ≡ g.disk.failures (device_of old)

-- It serves on unless its device failed in the call, or damage was found. Where an answer is given, or memory was refused, no call of its device failed.
pub record ServesOn {D A : Type 0} {g : Ghosts D} (old new : Store D g) (result : Result A Fault) : Type 0 where
  pub goes_on : OnOk result (serves new ≡ true)
  pub memory_goes_on : IsErrOf result Faults.Memory → serves new ≡ true
  pub stops : IsErrOf result Faults.Device → serves new ≡ false
  pub damaged_stops : (damage : Damage) → IsErrOf result (Faults.Damaged damage) → serves new ≡ false
  pub refusal : IfErr result MayBeMet
  pub cause : IsErrOf result Faults.Device → HasFailed g.disk (device_of old) (device_of new)
  pub steady : OnOk result (IsSteady old new)
  pub unfailed : IsErrOf result Faults.Memory → IsSteady old new
