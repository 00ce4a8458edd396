use Rattle.std.proofs.Common.{◌≡◌, ◌<◌, ◌≤◌, ◌-◌, ◌++◌, ℕ, All, [], length, take, drop, get_or, slice_range}
use Rattle.records.specs.Payload.{group_limit}
use Rattle.sessions.specs.State.{State}
use Rattle.sessions.specs.Batch.{AllKept, IsPassedOver, places_of, held, with_turn}
use Rattle.sessions.proofs.batch.Batch.pass.Given as goal

abbrev pub invariant-loop-place : goal.invariant-loop-place
invariant-loop-place l = record {
  kept : AllKept l.fn.self l.self l.fn.sessions l.sessions;
  known : All (λ p. p < length l.fn.sessions) (places_of l.fn.self) → All (λ p. p < length l.fn.sessions) (places_of l.self);
  more : length (held l.fn.self) ≤ length (held l.self);
  none : held l.self ≡ [] → (i : ℕ) (d : State) → l.from ≤ i → i < l.place → IsPassedOver (get_or l.fn.sessions i d);
  ahead : drop l.place l.sessions ≡ drop l.place l.fn.sessions;
  before : take l.from l.sessions ≡ take l.from l.fn.sessions;
  still : l.to < l.from → l.place ≡ l.from;
  turns : places_of l.self
      ≡ places_of l.fn.self ++ take (group_limit - length (places_of l.fn.self)) (with_turn l.from (slice_range l.fn.sessions l.from l.place));
}
