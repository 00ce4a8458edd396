-- The last macro in front of a place that has the place in its body.
use Rattle.std.specs.Prelude.{◌≡◌, ℕ, ◌+◌, ◌≤◌, Bool, not, ◌&&◌, nat_lt, nat_le, if◌then◌else◌, List, [], ◌∷◌, length, take, get_or}
use Rattle.instructions.specs.Op.{Op}
use Rattle.instructions.specs.Judging.{goes_past}
use Rattle.instructions.specs.declared.macros.Span.{Span}

-- The start of the last body, of those of instructions from a place on, that goes past a place: what was found before, if there is none.
abbrev pub last_start : ℕ → ℕ → ℕ → List Op → ℕ
last_start place at found [] = found
last_start place at found (op ∷ ops) = last_start place (at + 1) (if goes_past place op then at + 1 else found) ops

-- The same, of bodies by their starts and ends.
abbrev pub last_of : ℕ → ℕ → List Span → ℕ
last_of place found [] = found
last_of place found (s ∷ ss) = last_of place (if nat_lt place s.end then s.start else found) ss

-- The table tells this of each place: 0 where no body holds it.
pub record Tells (ops : List Op) (starts : List ℕ) : Type 0 where
  pub room : length starts ≡ length ops + 1
  pub tells : (place : ℕ) → place ≤ length ops → get_or starts place 0 ≡ last_start place 0 0 (take place ops)

-- A target lies ahead, in the body that ends there or at its end, and in no other body that starts between.
abbrev pub is_clear : ℕ → ℕ → List ℕ → ℕ → Bool
is_clear at end starts target = nat_lt at target && (not (nat_lt end target) && nat_le (get_or starts target 0) (at + 1))
