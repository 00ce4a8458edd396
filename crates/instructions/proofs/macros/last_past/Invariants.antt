use Rattle.std.proofs.Common.{◌≡◌, ℕ, ◌≤◌}
use Rattle.instructions.specs.Macros.{last_of}
use Rattle.instructions.proofs.macros.last_past.Given as goal

abbrev pub invariant-loop-span : goal.invariant-loop-span
invariant-loop-span l = (later : ℕ) → l.place ≤ later → last_of later 0 l.spans.items ≡ last_of later 0 l.initial.spans.items

abbrev pub decreases-loop-span : goal.decreases-loop-span
decreases-loop-span l = goal.left-loop-span l
