-- Whether a client's messages are restated before they are answered, and those that stand before its session.
use Rattle.std.specs.Prelude.{◌≡◌, ◌⊎◌, ℕ, List, [], Option, None, option_map}
use Rattle.std.specs.Option.{option_map_or}
use Rattle.names.specs.declared.format.Format.{Format}
use Rattle.httpmsg.specs.Stream.{Message}
use Rattle.sessions.specs.State.{State}
use Rattle.sessions.specs.Restating.{Queue, Gives}
use Rattle.clients.specs.declared.line.Line.{Line}
use Rattle.clients.specs.declared.moving.Moved.{Moved}
use Rattle.clients.specs.Moving.{Reads}

-- the format of the store that a client's messages are restated for, if they are
abbrev pub dialect_of : {S : Type 0} → Line S → Option Format
dialect_of line = option_map (λ (q : Queue). q.format) line.later

-- the messages that stand before its session, oldest first
abbrev pub later_of : {S : Type 0} → Line S → List Message
later_of line = option_map_or (λ (q : Queue). q.messages) line.later []

-- A client's messages are answered as they are.
abbrev pub IsPlain : {S : Type 0} → Line S → Type 0
IsPlain line = dialect_of line ≡ None

-- The messages that wait in a session are taken from it, where there are some and none stands before it, and it is given the next of them. The others stand
-- before it then.
abbrev pub HandsOver : Format → (old new : State) → (before after : List Message) → Type 0
HandsOver f old new before after =
    (((old.waiting ≡ []) ⊎ (before ≡ [] → ⊥)) × (new ≡ old) × (after ≡ before)) ⊎ ((answered : Option Message) × Gives f old.waiting after (record old { waiting = [] }) new answered)

-- One read of a stream, and then the messages that it gave are handed over.
pub record ReadsRestated {S : Type 0} (moved : S → S → List ℕ → List ℕ → Type 0) (has_ended : S → Type 0) (f : Format) (read : List ℕ) (ms : List Message) (old new : State) (before after : Line S) : Type 0 where
  pub moved_so : Moved
  pub between : State
  pub reads : Reads moved before.stream after.stream has_ended read ms old between moved_so
  pub hands : HandsOver f between new (later_of before) (later_of after)
