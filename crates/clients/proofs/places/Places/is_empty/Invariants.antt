use Rattle.std.proofs.Common.{ℕ, ◌<◌}
use Rattle.clients.specs.Places.{IsFree}
use Rattle.clients.proofs.places.Places.is_empty.Given as goal

abbrev pub invariant-loop-line : goal.invariant-loop-line
invariant-loop-line g l = record { free : (i : ℕ) → i < l.line-index → IsFree l.fn.self i }
