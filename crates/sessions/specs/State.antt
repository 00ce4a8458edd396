-- What is seen of a session, and what becomes of it where bytes are written to its client.
use Rattle.std.specs.Prelude.{◌≡◌, ℕ, Bool, true, false, List, [], ◌++◌}
use Rattle.httpmsg.specs.Stream.{Message, Progress}
use Rattle.sessions.specs.declared.session.Phase.{Phase}
use Rattle.sessions.specs.declared.session.Phase.TheVariants.{Open, Over, Lost}

-- how far what the client sent is cut, the messages that wait to be answered, oldest first, and the bytes that wait to be sent
pub record State : Type 0 where
  pub progress : Progress
  pub waiting : List Message
  pub unsent : List ℕ
  pub phase : Phase

-- bytes are taken of the client
abbrev pub is_open : Phase → Bool
is_open Open = true
is_open Over = false
is_open Lost = false

-- memory was refused to what is to be sent
abbrev pub is_lost : Phase → Bool
is_lost Open = false
is_lost Over = false
is_lost Lost = true

-- The bytes stand after those that waited to be sent: all of them, or a beginning of them where the session is lost.
pub record Gains (old new : State) (bytes : List ℕ) : Type 0 where
  pub front : List ℕ
  pub rest : List ℕ
  pub split : bytes ≡ front ++ rest
  pub unsent : new.unsent ≡ old.unsent ++ front
  pub whole : is_lost new.phase ≡ false → rest ≡ []

-- The session gains the bytes and goes on, unless it is lost. One that was lost gains nothing, and one that gains nothing stays as it is.
pub record GoesOnWith (old new : State) (bytes : List ℕ) : Type 0 where
  pub gains : Gains old new bytes
  pub phase : is_lost new.phase ≡ false → new.phase ≡ old.phase
  pub lost : is_lost old.phase ≡ true → new ≡ old
  pub none : bytes ≡ [] → new ≡ old
  pub waiting : new.waiting ≡ old.waiting
  pub progress : new.progress ≡ old.progress

-- The session gains the bytes, and takes no more of its client.
pub record Closes (old new : State) (bytes : List ℕ) : Type 0 where
  pub gains : Gains old new bytes
  pub over : is_open new.phase ≡ false
  pub waiting : new.waiting ≡ old.waiting
