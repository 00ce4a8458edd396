use Rattle.std.proofs.Common.{◌≡◌, ◌≤◌, ◌+◌, ◌++◌, length, drop}
use Rattle.names.specs.declared.format.Format.{Format}
use Rattle.records.specs.Payload.{group_limit}
use Rattle.routes.specs.AnswerBytes.{CanAnswerAll}
use Rattle.sessions.specs.Notes.{listed, notes_to}
use Rattle.sessions.proofs.notes.Notes.take.Given as goal

abbrev pub invariant-loop-index : goal.invariant-loop-index
invariant-loop-index l = record {
  kept : l.self.is_kept ≡ l.fn.self.is_kept;
  told : (format : Format) → CanAnswerAll format l.messages l.replies l.allows → length (listed l.fn.self) + length l.messages ≤ group_limit
      → (length (listed l.self) ≡ length (listed l.fn.self) + l.index)
      × (listed l.self ++ notes_to format (drop l.index l.messages) (drop l.index l.replies) ≡ listed l.fn.self ++ notes_to format l.messages l.replies);
}
