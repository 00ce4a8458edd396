-- What is seen of the places of clients, and what becomes of those at which nothing is done.
use Rattle.std.specs.Prelude.{◌≡◌, ℕ, ◌<◌, ◌≤◌, ◌⊎◌, true, false, List, [], None, Some, Option, length, slice_index_or}
use Rattle.std.specs.declared.time.Instant.{Instant}
use Rattle.std.specs.declared.time.Duration.{Duration}
use Rattle.objects.specs.Failing.{HasGrown}
use Rattle.sessions.specs.State.{State, is_open, is_lost}
use Rattle.sessions.specs.declared.session.Phase.TheVariants.{Open}
use Rattle.clients.specs.declared.line.Line.{Line}
use Rattle.clients.specs.declared.line.Gone.{Gone}
use Rattle.clients.specs.declared.line.Gone.TheVariants as gone
use Rattle.clients.specs.declared.places.Places.{Places}
use Rattle.clients.specs.Plain.{dialect_of, IsPlain}
use Rattle.clients.specs.Story.{GoesOn, SendsOn}
use Rattle.clients.specs.Waiting.{IsLate}

-- the session of a client that sent nothing
abbrev pub fresh : State
fresh = record { progress = record { pending = []; end = None }; waiting = []; unsent = []; phase = Open }

-- how many places there are
abbrev pub count : {S : Type 0} → Places S → ℕ
count p = length p.lines.items

-- the connection at a place, if somebody is there
abbrev pub line_at : {S : Type 0} → Places S → ℕ → Option (Line S)
line_at p i = slice_index_or p.lines.items i None

-- the session at a place
abbrev pub session_at : {S : Type 0} → Places S → ℕ → State
session_at p i = slice_index_or p.sessions.items i fresh

-- nobody is at the place
abbrev pub IsFree : {S : Type 0} → Places S → ℕ → Type 0
IsFree p i = (i < count p) × (line_at p i ≡ None)

-- Where nobody is, the session is that of a client that sent nothing: the next client finds nothing of the one before.
abbrev pub IsFreshWhereFree : {S : Type 0} → Places S → Type 0
IsFreshWhereFree p = (i : ℕ) → IsFree p i → session_at p i ≡ fresh

-- There are as many places as before, each with a session as before.
pub record HasAsMany {S : Type 0} (old new : Places S) : Type 0 where
  pub lines : count new ≡ count old
  pub sessions : length new.sessions.items ≡ length old.sessions.items

-- a place has the connection and the session that it had
pub record StaysAt {S : Type 0} (i : ℕ) (old new : Places S) : Type 0 where
  pub line : line_at new i ≡ line_at old i
  pub session : session_at new i ≡ session_at old i

-- Each other place stays as it is.
pub record StaysBeside {S : Type 0} (place : ℕ) (old new : Places S) : Type 0 where
  pub many : HasAsMany old new
  pub others : (i : ℕ) → (i ≡ place → ⊥) → StaysAt i old new

-- What the system told was noted: all stay at their places, with their connections and their sessions.
pub record AreMarked {S : Type 0} (old new : Places S) : Type 0 where
  pub many : HasAsMany old new
  pub free : (i : ℕ) → IsFree old i → IsFree new i
  pub sessions : (i : ℕ) → session_at new i ≡ session_at old i
  pub clients : (i : ℕ) (line : Line S) → line_at old i ≡ Some line
      → (marked : Line S) × (line_at new i ≡ Some marked) × (marked.stream ≡ line.stream) × (marked.later ≡ line.later)

-- Why a client is let go, as its session then shows, and its stream, which had failed so often before and has so now.
abbrev pub HasReason : Gone → (failed_before failed_now : ℕ) → State → (idle : Option Duration) → Type 0
HasReason gone.Lost before now s idle = is_lost s.phase ≡ true
HasReason gone.Failed before now s idle = HasGrown before now
HasReason gone.Done before now s idle = (is_open s.phase ≡ false) × (s.unsent ≡ [])
HasReason gone.Late before now s idle = (since : Instant) × (at : Instant) × IsLate s since at idle

module _ {S : Type 0} (moved : S → S → List ℕ → List ℕ → Type 0) (has_ended : S → Type 0) (failures : S → ℕ) (idle : Option Duration) (i : ℕ) (old new : Places S) where
  -- The client at a place is there still, and where its messages are answered as they are, what it was served goes on. A turn changes nothing of whether they are.
  pub record IsThereStill (line : Line S) : Type 0 where
    pub now : Line S
    pub there : line_at new i ≡ Some now
    pub dialect : dialect_of now ≡ dialect_of line
    pub goes_on : IsPlain line → GoesOn moved has_ended line.stream now.stream (session_at old i) (session_at new i)
    pub later : failures line.stream ≤ failures now.stream

  -- It was let go for a reason, after what it was served went on. Nobody is at its place then.
  pub record IsLetGo (line : Line S) : Type 0 where
    pub last : S
    pub state : State
    pub gone : Gone
    pub goes_on : IsPlain line → GoesOn moved has_ended line.stream last (session_at old i) state
    pub later : failures line.stream ≤ failures last
    pub reason : HasReason gone (failures line.stream) (failures last) state idle
    pub free : IsFree new i
    pub fresh : session_at new i ≡ fresh

  -- what becomes of a place: one at which nobody is stays as it is
  pub record TurnsAt : Type 0 where
    pub free : IsFree old i → StaysAt i old new
    pub client : (line : Line S) → line_at old i ≡ Some line → IsThereStill line ⊎ IsLetGo line

module _ {S : Type 0} (moved : S → S → List ℕ → List ℕ → Type 0) (has_ended : S → Type 0) (failures : S → ℕ) (idle : Option Duration) (old new : Places S) where
  -- The client at one place had a turn.
  pub record TakesTurn (place : ℕ) : Type 0 where
    pub beside : StaysBeside place old new
    pub turn : TurnsAt moved has_ended failures idle place old new

  -- The clients had some turns each.
  pub record TakeTurns : Type 0 where
    pub many : HasAsMany old new
    pub each : (i : ℕ) → TurnsAt moved has_ended failures idle i old new

module _ {S : Type 0} (moved : S → S → List ℕ → List ℕ → Type 0) (old new : Places S) where
  -- The first of the bytes that waited for the client at a place were sent. It is there still, or was let go; then nobody is at its place.
  pub record SendsLast (i : ℕ) (line : Line S) : Type 0 where
    pub last : S
    pub state : State
    pub sends : SendsOn moved line.stream last (session_at old i) state
    pub left : ((now : Line S) × (line_at new i ≡ Some now) × (now.stream ≡ last) × (session_at new i ≡ state)) ⊎ (IsFree new i × (session_at new i ≡ fresh))

  -- what becomes of a place once nothing more is answered
  pub record EndsAt (i : ℕ) : Type 0 where
    pub free : IsFree old i → StaysAt i old new
    pub client : (line : Line S) → line_at old i ≡ Some line → SendsLast i line

  pub record TakesLastTurn (place : ℕ) : Type 0 where
    pub beside : StaysBeside place old new
    pub turn : EndsAt place

  pub record TakeLastTurns : Type 0 where
    pub many : HasAsMany old new
    pub each : (i : ℕ) → EndsAt i
