-- What a session does with a piece of what its client sends, and with the end of it.
use Rattle.std.specs.Prelude.{◌≡◌, ℕ, ◌⊎◌, false, List, [], ◌++◌, Some}
use Rattle.requests.specs.declared.refusal.Refusal.TheVariants.{OutOfMemory}
use Rattle.httpmsg.specs.declared.head.BrokenMessage.{BrokenMessage}
use Rattle.httpmsg.specs.declared.head.End.{End}
use Rattle.httpmsg.specs.declared.head.End.TheVariants.{Closed, Broken}
use Rattle.httpmsg.specs.Stream.{Message, IsCut, IsStream}
use Rattle.routes.specs.ReplyBytes.{closing_bytes, end_bytes}
use Rattle.sessions.specs.declared.session.Phase.TheVariants.{Open, Over}
use Rattle.sessions.specs.State.{State, Closes}

-- the stream ended with a message that closes, and no message waits
abbrev pub HasClosed : State → Type 0
HasClosed s = (s.waiting ≡ []) × (s.progress.end ≡ Some Closed)

-- The messages that the piece gives wait, which are cut after those before. The session is over where the stream is closed and none
-- waits, and else goes on; a fault of the stream is left only behind messages.
pub record TakesMessages (read : List ℕ) (ms : List Message) (piece : List ℕ) (old new : State) : Type 0 where
  pub cut : IsCut (read ++ piece) (ms ++ new.waiting) new.progress
  pub told : new.waiting ≡ [] → (b : BrokenMessage) → new.progress.end ≡ Some (Broken b) → ⊥
  pub unsent : new.unsent ≡ old.unsent
  pub closed : HasClosed new → new.phase ≡ Over
  pub goes_on : (HasClosed new → ⊥) → new.phase ≡ Open

-- The stream ends at a fault: its reply closes the session.
pub record MeetsFault (read : List ℕ) (ms : List Message) (piece : List ℕ) (old new : State) : Type 0 where
  pub broken : BrokenMessage
  pub cut : IsCut (read ++ piece) ms new.progress
  pub end : new.progress.end ≡ Some (Broken broken)
  pub closes : Closes old new (end_bytes (Broken broken))

-- Memory was refused to the piece: nothing of it is cut, and a refusal closes the session.
pub record LacksMemory (old new : State) : Type 0 where
  pub progress : new.progress ≡ old.progress
  pub closes : Closes old new (closing_bytes false OutOfMemory)

-- a piece after what was read, of which these messages were cut
abbrev pub TakesPiece : (read : List ℕ) → List Message → (piece : List ℕ) → (old new : State) → Type 0
TakesPiece read ms piece old new = TakesMessages read ms piece old new ⊎ MeetsFault read ms piece old new ⊎ LacksMemory old new

-- What was read is the whole stream, and the reply of its end closes the session.
pub record EndsInput (read : List ℕ) (ms : List Message) (old new : State) : Type 0 where
  pub end : End
  pub stream : IsStream read ms end
  pub closes : Closes old new (end_bytes end)
  pub progress : new.progress ≡ old.progress
