-- The two texts in a key's bytes, which a zero byte parts.
use Rattle.std.specs.Prelude.{ℕ, ◌<◌, List, [], ◌∷◌}

-- ASCII without a zero byte
abbrev pub IsPlain : List ℕ → Type 0
IsPlain [] = Unit {0}
IsPlain (byte ∷ bytes) = (0 < byte) × (byte < 128) × IsPlain bytes
