-- Digits in a base.
use Rattle.std.specs.Prelude.{ℕ, Bool, true, ◌&&◌, nat_lt, List, [], ◌∷◌}
use Rattle.std.specs.Char.{digit_value}

-- each character is a digit in the base
abbrev pub all_digits : ℕ → List ℕ → Bool
all_digits base [] = true
all_digits base (d ∷ ds) = nat_lt (digit_value d) base && all_digits base ds
