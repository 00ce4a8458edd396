-- Bytes with their number in front. Numbers are unsigned, the highest byte first.
use Rattle.std.specs.Prelude.{ℕ, List, ◌++◌, length}
use Rattle.byteorder.specs.Endian.{big_bytes}

-- the number stands in this many bytes
abbrev pub field : (width : ℕ) → List ℕ → List ℕ
field width bytes = big_bytes width (length bytes) ++ bytes
