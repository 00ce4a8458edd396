use Rattle.std.proofs.Common.{ℕ, ◌<◌, length, drop, get_or}
use Rattle.sessions.specs.State.{State}
use Rattle.sessions.specs.Refusing.{is_among, RefusedIf}
use Rattle.sessions.proofs.turn.refuse_all.Given as goal

abbrev pub invariant-loop-place : goal.invariant-loop-place
invariant-loop-place l = record {
  refused : (i : ℕ) (d later : State) → i < length l.fn.sessions → RefusedIf (is_among i (drop l.place-index l.places)) (get_or l.sessions i d) later
      → RefusedIf (is_among i l.places) (get_or l.fn.sessions i d) later;
}
