use Rattle.std.proofs.Common.{◌≡◌, ℕ, None, length, get_or}
use Rattle.clients.specs.Places.{fresh}
use Rattle.clients.proofs.places.Places.new.Given as goal

abbrev pub invariant-loop : goal.invariant-loop
invariant-loop g l = record {
  many : length l.lines.items ≡ l.counter;
  alike : length l.sessions.items ≡ l.counter;
  free : (i : ℕ) → get_or l.lines.items i None ≡ None;
  fresh : (i : ℕ) → get_or l.sessions.items i fresh ≡ fresh;
}
