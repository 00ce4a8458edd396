use Rattle.std.proofs.Common.{◌≡◌, ◌<◌, ◌≤◌, ◌-◌, ℕ, All, [], length, get_or}
use Rattle.records.specs.Payload.{group_limit}
use Rattle.sessions.specs.State.{State}
use Rattle.sessions.specs.Batch.{AllKept, IsPassedOver, places_of, held, BeginsAt}
use Rattle.sessions.proofs.batch.Batch.gather.Given as goal

abbrev pub invariant-loop-before : goal.invariant-loop-before
invariant-loop-before l = record {
  kept : AllKept l.fn.self l.self l.fn.sessions l.sessions;
  known : All (λ p. p < length l.fn.sessions) (places_of l.self);
  some : held l.self ≡ [] → (i : ℕ) (d : State) → i < length l.fn.sessions → IsPassedOver (get_or l.fn.sessions i d);
  begins : BeginsAt l.fn.first l.fn.sessions (places_of l.self);
  first : l.first ≤ length l.fn.sessions;
}

abbrev pub decreases-loop-before : goal.decreases-loop-before
decreases-loop-before l = group_limit - l.before
