-- What a batch takes of sessions.
use Rattle.std.specs.Prelude.{◌≡◌, ℕ, ◌<◌, ◌≤◌, ◌+◌, ◌-◌, ◌⊎◌, Bool, ◌&&◌, nat_lt, List, [], ◌∷◌, ◌++◌, Option, length, take, drop, ◌==◌, if◌then◌else◌, slice_index_or}
use Rattle.std.specs.List.{slice_get}
use Rattle.httpmsg.specs.Stream.{Message}
use Rattle.records.specs.Payload.{group_limit}
use Rattle.sessions.specs.declared.batch.Batch.{Batch}
use Rattle.sessions.specs.State.{State}

-- its messages, in the order in which they are answered
abbrev pub held : Batch → List Message
held b = b.messages.items

-- and beside each the place of its session
abbrev pub places_of : Batch → List ℕ
places_of b = b.places.items

-- the last of these places, if there is one
abbrev pub last_place : (places : List ℕ) → Option ℕ
last_place places = slice_get places (length places - 1)

-- the messages that were answered last, until they are forgotten
abbrev pub last_answered : Batch → List Message
last_answered b = b.answered.items

-- the messages of the session at one place, where beside each stands the place of its session
abbrev pub messages_of : ℕ → (places : List ℕ) → List Message → List Message
messages_of i [] ms = []
messages_of i (p ∷ ps) [] = []
messages_of i (p ∷ ps) (m ∷ ms) = (if p == i then m ∷ [] else []) ++ messages_of i ps ms

-- all of a session stays but the messages that wait
pub record StaysBut (old new : State) : Type 0 where
  pub unsent : new.unsent ≡ old.unsent
  pub progress : new.progress ≡ old.progress
  pub phase : new.phase ≡ old.phase

-- A client with this many bytes that wait to be sent gets no further message answered until it takes some.
abbrev pub unsent_limit : ℕ
unsent_limit = 65536

-- the first message that waited in the session at this place is the last of the batch
pub record TakesOne (place : ℕ) (old new : Batch) (before after : State) : Type 0 where
  pub message : Message
  pub unread : length before.unsent < unsent_limit
  pub waited : before.waiting ≡ message ∷ after.waiting
  pub held : held new ≡ held old ++ message ∷ []
  pub places : places_of new ≡ places_of old ++ place ∷ []

-- A session is passed over where no message of it waits, and where its client has not taken the replies that it has.
abbrev pub IsPassedOver : State → Type 0
IsPassedOver s = (s.waiting ≡ []) ⊎ (unsent_limit ≤ length s.unsent)

-- it was passed over
pub record TakesNone (old new : Batch) (before after : State) : Type 0 where
  pub passed : IsPassedOver before
  pub waits : after.waiting ≡ before.waiting
  pub held : held new ≡ held old
  pub places : places_of new ≡ places_of old

-- there was no room
pub record StaysFull (old new : Batch) (before after : State) : Type 0 where
  pub full : group_limit ≤ length (held old)
  pub same : new ≡ old
  pub session : after ≡ before

abbrev pub Takes : ℕ → (old new : Batch) → (before after : State) → Type 0
Takes place old new before after = (TakesOne place old new before after ⊎ TakesNone old new before after ⊎ StaysFull old new before after) × StaysBut before after

-- the messages of the session at a place: those that were taken, and those that wait there
abbrev pub taken_and_waiting : ℕ → Batch → State → List Message
taken_and_waiting i b s = messages_of i (places_of b) (held b) ++ s.waiting

-- Of each session they are what they were, in their order, and all else of it stays.
abbrev pub AllKept : (old new : Batch) → (before after : List State) → Type 0
AllKept old new before after = (i : ℕ) (d : State) → i < length before
    → (taken_and_waiting i new (slice_index_or after i d) ≡ taken_and_waiting i old (slice_index_or before i d))
    × StaysBut (slice_index_or before i d) (slice_index_or after i d)

-- ---- whose turn it is

-- A session has a turn where a message of it waits, and its client does not leave too much unread.
abbrev pub has_turn : State → Bool
has_turn s = nat_lt 0 (length s.waiting) && nat_lt (length s.unsent) unsent_limit

-- the places of the sessions that have a turn, where the first of all has this place
abbrev pub with_turn : (place : ℕ) → List State → List ℕ
with_turn place [] = []
with_turn place (s ∷ sessions) = (if has_turn s then place ∷ [] else []) ++ with_turn (place + 1) sessions

-- those from one place on, and then those before it
abbrev pub by_turns : (first : ℕ) → List State → List ℕ
by_turns first sessions = with_turn first (drop first sessions) ++ with_turn 0 (take first sessions)

-- The places begin with one of each session that has a turn, from one place on, as many as there is room for.
pub record BeginsAt (first : ℕ) (sessions : List State) (places : List ℕ) : Type 0 where
  pub more : List ℕ
  pub turns : places ≡ take group_limit (by_turns first sessions) ++ more
