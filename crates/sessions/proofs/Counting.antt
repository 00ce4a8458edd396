-- What is counted.
use Rattle.std.proofs.Common.{arith, ◌≡◌, ◌∙◌, ℕ, ◌+◌, ◌-◌, ◌≤◌, ◌^◌, List, [], ◌∷◌, length}
use Rattle.std.specs.Prelude.{min}
use Rattle.sessions.specs.Tally.{counted}

pub counted_is : (n : ℕ) (bytes : List ℕ) → n ≤ 2 ^ 64 - 1 → counted n bytes ≡ min (n + length bytes) (2 ^ 64 - 1)
counted_is n [] few = omega (arith, few)
counted_is n (b ∷ bytes) few = counted_is (min (n + 1) (2 ^ 64 - 1)) bytes (omega arith) ∙ omega arith

-- of no bytes before
pub counted_all : (bytes : List ℕ) → counted 0 bytes ≡ min (length bytes) (2 ^ 64 - 1)
counted_all bytes = counted_is 0 bytes (omega arith) ∙ omega arith
