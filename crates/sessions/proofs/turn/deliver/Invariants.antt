use Rattle.std.proofs.Common.{◌<◌, ℕ, length, drop, get_or}
use Rattle.names.specs.declared.format.Format.{Format}
use Rattle.routes.specs.AnswerBytes.{CanAnswerAll}
use Rattle.sessions.specs.State.{State, GoesOnWith}
use Rattle.sessions.specs.Turn.{answers_to}
use Rattle.sessions.proofs.turn.deliver.Given as goal

abbrev pub invariant-loop-index : goal.invariant-loop-index
invariant-loop-index l = record {
  given : (format : Format) → CanAnswerAll format l.messages l.replies l.allows → (i : ℕ) (d later : State) → i < length l.fn.sessions
      → GoesOnWith (get_or l.sessions i d) later (answers_to format i (drop l.index l.places) (drop l.index l.messages) (drop l.index l.replies))
      → GoesOnWith (get_or l.fn.sessions i d) later (answers_to format i l.places l.messages l.replies);
}
