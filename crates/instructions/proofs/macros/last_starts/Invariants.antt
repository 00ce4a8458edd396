use Rattle.std.proofs.Common.{◌≡◌, ℕ, ◌+◌, ◌≤◌, length, take, get_or}
use Rattle.instructions.specs.Seen.{ops_of}
use Rattle.instructions.specs.Macros.{last_start, last_of}
use Rattle.instructions.proofs.macros.last_starts.Given as goal

abbrev pub invariant-loop-at : goal.invariant-loop-at
invariant-loop-at l = record {
  room : length l.starts.items ≡ l.at + 1;
  tells : (place : ℕ) → place ≤ l.at → get_or l.starts.items place 0 ≡ last_start place 0 0 (take place (ops_of l.code));
  last : (place : ℕ) → l.at ≤ place → last_of place 0 l.spans.items ≡ last_start place 0 0 (take l.at (ops_of l.code));
}
