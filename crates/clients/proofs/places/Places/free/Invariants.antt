use Rattle.std.proofs.Common.{ℕ, ◌<◌}
use Rattle.clients.specs.Places.{IsFree}
use Rattle.clients.proofs.places.Places.free.Given as goal

abbrev pub invariant-loop-place : goal.invariant-loop-place
invariant-loop-place g l = record { none : (i : ℕ) → i < l.place → IsFree l.fn.self i → ⊥ }
