-- Messages that are restated before they are answered, and those that constants answer.
use Rattle.std.specs.Prelude.{◌≡◌, ℕ, ◌⊎◌, false, List, [], ◌∷◌, map, if◌then◌else◌, Option, Some, None, is_some}
use Rattle.names.specs.declared.format.Format.{Format}
use Rattle.requests.specs.declared.refusal.Refusal.TheVariants.{OutOfMemory}
use Rattle.httpmsg.specs.Stream.{Message}
use Rattle.routes.specs.ReplyBytes.{closing_bytes}
use Rattle.dialect.specs.ConstantBytes.{constant_bytes}
use Rattle.dialect.specs.Restated.{constant_of, restated}
use Rattle.sessions.specs.State.{State, GoesOnWith, Closes}

-- the messages of a client that its session does not have yet, oldest first, and the format of the store that they ask
pub record Queue : Type 0 where
  pub format : Format
  pub messages : List Message

-- none of them
abbrev pub no_queue : Format → Queue
no_queue f = record { format = f; messages = [] }

-- the constant that answers the first of these messages, if one does
abbrev pub first_constant : Format → List Message → Option (List ℕ)
first_constant f [] = None
first_constant f (m ∷ ms) = constant_of f m

-- the messages before the first that a constant answers
abbrev pub asking : Format → List Message → List Message
asking f [] = []
asking f (m ∷ ms) = if is_some (constant_of f m) then [] else m ∷ asking f ms

-- and those from it on
abbrev pub behind : Format → List Message → List Message
behind f [] = []
behind f (m ∷ ms) = if is_some (constant_of f m) then m ∷ ms else behind f ms

-- A constant answers the first message: the session gains its bytes, and nothing else changes.
pub record AnswersFirst (f : Format) (before after : List Message) (old new : State) (m : Message) : Type 0 where
  pub text : List ℕ
  pub first : before ≡ m ∷ after
  pub constant : constant_of f m ≡ Some text
  pub gains : GoesOnWith old new (constant_bytes m text)

-- The messages before the first that a constant answers wait in the session, each restated, in their order. Nothing else changes.
pub record HandsOn (f : Format) (before after : List Message) (old new : State) : Type 0 where
  pub waiting : new ≡ record old { waiting = map (restated f) (asking f before) }
  pub rest : after ≡ behind f before

-- Memory was refused: none of the messages is answered, and a refusal closes the session.
pub record LacksRoom (before after : List Message) (old new : State) : Type 0 where
  pub none : after ≡ []
  pub closes : Closes old new (closing_bytes false OutOfMemory)
  pub progress : new.progress ≡ old.progress

-- what becomes of the messages of a session, of which none waits, and which one a constant answers
abbrev pub Gives : Format → (before after : List Message) → (old new : State) → (answered : Option Message) → Type 0
Gives f before after old new (Some m) = AnswersFirst f before after old new m
Gives f before after old new None = HandsOn f before after old new ⊎ LacksRoom before after old new
