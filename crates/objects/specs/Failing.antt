-- How failures are counted.
use Rattle.std.specs.Prelude.{◌≡◌, ℕ, ◌<◌, ◌-◌, ◌^◌, ◌⊎◌}

-- failures grew, or can grow no more
abbrev pub HasGrown : (before now : ℕ) → Type 0
HasGrown before now = (before < now) ⊎ (now ≡ 2 ^ 64 - 1)
