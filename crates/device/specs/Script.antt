-- Which calls of a device in memory fail.
use Rattle.std.specs.Prelude.{◌+◌, ◌-◌, ◌^◌, ◌==◌, ◌||◌, ℕ, Bool, min, if◌then◌else◌}
use Rattle.device.specs.declared.script.Script.{Script}

-- The next call was asked to fail.
abbrev pub is_to_fail : Script → Bool
is_to_fail script = (script.fail_in == 1) || (script.stop_in == 1)

-- One failure more, as far as they can be counted.
abbrev pub one_more : ℕ → ℕ
one_more failures = min (failures + 1) (2 ^ 64 - 1)

-- The script after a call, which failed or not: from the first call of a stop on, the next call is one of them.
abbrev pub after_call : Bool → Script → Script
after_call failed script = record {
  fail_in = script.fail_in - 1;
  stop_in = if script.stop_in == 1 then 1 else script.stop_in - 1;
  failures = if failed then one_more script.failures else script.failures;
}
