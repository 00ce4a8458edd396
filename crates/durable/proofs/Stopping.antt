-- A device in memory that is asked to stop.
use Rattle.std.proofs.Common.{arith, ◌≡◌, refl, ap, subst, ◌*◌, inl, ℕ, List, take}
use Rattle.device.specs.declared.memory.MemDevice.{MemDevice}
use Rattle.device.specs.declared.script.Script.{Script}
use Rattle.device.specs.Memory.{Memory, memory, memory_left, memory_disk}
use Rattle.device.specs.Picks.{MayBeLeft}
use Rattle.device.specs.Run.{Ran}
use Rattle.device.specs.Step.{Same}

-- it is read as before, and a crash leaves what it left before
pub stop_ran : (old new : MemDevice) (script : Script) → memory new ≡ record (memory old) { script = script } → script.failures ≡ old.script.failures → Ran memory_disk old new Same
stop_ran old new script is count =
    let left : (c : List ℕ) → memory_left new c → memory_left old c =
    λ c l. let Left : Memory → Type 0 = λ m. MayBeLeft m.current m.unsynced m.least m.greatest c in subst Left is l in
    record {
      kept = λ keeps. tt;
      had_kept = λ keeps. tt;
      count = omega (arith, ap (λ (m : Memory). m.script.failures) is, count);
      seen = λ keeps. ap (λ (m : Memory). take (512 * m.len) m.current) is;
      crash = λ keeps c l. (c, left c l, refl);
      any_moment = λ keeps. record {
        later = omega arith;
        each = λ c l. (c, left c l, refl);
        before = λ t c le l. inl (left c l);
      };
    }
