-- What one client was served: what was read of it, its messages, the answers to them, and what was sent to it.
use Rattle.std.specs.Prelude.{◌≡◌, ℕ, ◌⊎◌, true, false, List, [], ◌++◌}
use Rattle.requests.specs.declared.refusal.Refusal.TheVariants.{OutOfMemory, StorageFailed}
use Rattle.names.specs.declared.format.Rules.{Rules}
use Rattle.decoded.specs.Standing.{View}
use Rattle.httpmsg.specs.declared.head.End.{End}
use Rattle.httpmsg.specs.Stream.{Message, IsCut}
use Rattle.routes.specs.ReplyBytes.{closing_bytes, end_bytes}
use Rattle.api.specs.Answers.{Answered, messages}
use Rattle.api.specs.Serving.{Ends}
use Rattle.sessions.specs.declared.session.Phase.TheVariants.{Over}
use Rattle.sessions.specs.Batch.{messages_of}
use Rattle.sessions.specs.State.{State, is_open, is_lost}
use Rattle.sessions.specs.Turn.{bytes_of}

-- What is told after the answers to all messages of a client: the reply of the end of what it sent, or that memory was refused to more of it.
abbrev pub IsLastTold : (ended : Type 0) → (cut : List ℕ) → List Message → (last : List ℕ) → Type 0
IsLastTold ended cut ms last = ((end : End) × Ends ended cut ms end × (last ≡ end_bytes end)) ⊎ (last ≡ closing_bytes false OutOfMemory)

-- The messages that were answered since the client came, each with the place of the client that sent it, are here in one list, and v was shown before the first. Those of
-- this client are the first that were cut from what was read of it, in their order; the others wait. What was sent to it, and what waits to be sent, are the replies to its own
-- messages in their order, and then what is told last; where memory was refused to what is to be sent, they are a beginning of that.
pub record IsServed (rules : Rules) (v : View) (place : ℕ) (places : List ℕ) (answered : List Answered) (ended : Type 0) (read sent : List ℕ) (s : State) : Type 0 where
  pub cut : List ℕ
  pub uncut : List ℕ
  pub parts : read ≡ cut ++ uncut
  pub stream : IsCut cut (messages_of place places (messages answered) ++ s.waiting) s.progress
  pub last : List ℕ
  pub rest : List ℕ
  pub text : sent ++ (s.unsent ++ rest) ≡ bytes_of rules v place places answered ++ last
  pub whole : is_lost s.phase ≡ false → rest ≡ []
  pub while_open : is_open s.phase ≡ true → (uncut ≡ []) × (last ≡ [])
  pub over : s.phase ≡ Over → (s.waiting ≡ []) × IsLastTold ended cut (messages_of place places (messages answered)) last
  pub lost : (last ≡ []) ⊎ ((s.waiting ≡ []) × IsLastTold ended cut (messages_of place places (messages answered)) last)

-- The store failed at some of the client's messages, or at others that stand in the same record: those before them are answered, and the client is told so once, as far as
-- memory was not refused to it.
pub record IsToldOfFailure (rules : Rules) (v : View) (place : ℕ) (places : List ℕ) (answered : List Answered) (read sent : List ℕ) (s : State) : Type 0 where
  pub unanswered : List Message
  pub cut : List ℕ
  pub uncut : List ℕ
  pub parts : read ≡ cut ++ uncut
  pub stream : IsCut cut (messages_of place places (messages answered) ++ (unanswered ++ s.waiting)) s.progress
  pub rest : List ℕ
  pub text : sent ++ (s.unsent ++ rest) ≡ bytes_of rules v place places answered ++ closing_bytes false StorageFailed
  pub whole : is_lost s.phase ≡ false → rest ≡ []
  pub over : is_open s.phase ≡ false
