-- Whether a client keeps the server waiting, and why its connection is let go.
use Rattle.std.specs.Prelude.{◌≡◌, ◌≤◌, ◌-◌, ◌⊎◌, true, false, [], Option, None, Some, ⊤}
use Rattle.std.specs.Time.{instant_nanos}
use Rattle.std.specs.Duration.{as_nanos}
use Rattle.std.specs.declared.time.Instant.{Instant}
use Rattle.std.specs.declared.time.Duration.{Duration}
use Rattle.sessions.specs.State.{State, is_open, is_lost}
use Rattle.clients.specs.declared.line.Gone.{Gone}
use Rattle.clients.specs.declared.line.Gone.TheVariants as gone

-- A client is waited for where none of its messages waits to be answered, and where bytes wait for it to take them.
abbrev pub IsWaitedFor : State → Type 0
IsWaitedFor s = (s.waiting ≡ []) ⊎ (s.unsent ≡ [] → ⊥)

-- A client that is waited for, and did nothing since a moment, did nothing for as long as it may. Without a limit it is never late.
abbrev pub IsLate : State → (since now : Instant) → Option Duration → Type 0
IsLate s since now None = ⊥
IsLate s since now (Some idle) = IsWaitedFor s × (as_nanos idle ≤ instant_nanos now - instant_nanos since)

-- the stream failed, as the first type says, or nothing more is taken of the client
abbrev pub IsEnd : (failed : Type 0) → Gone → Type 0
IsEnd failed gone.Lost = ⊥
IsEnd failed gone.Failed = failed
IsEnd failed gone.Done = ⊤
IsEnd failed gone.Late = ⊥

-- What a client sends was forgotten for a second.
abbrev pub HasDrained : (since : Option Instant) → (now : Instant) → Type 0
HasDrained None now = ⊥
HasDrained (Some since) now = 1000000000 ≤ instant_nanos now - instant_nanos since

-- the stream failed, or the session is over and all was sent
abbrev pub EndsAtRest : (failed : Type 0) → Gone → State → Type 0
EndsAtRest failed gone.Lost new = ⊥
EndsAtRest failed gone.Failed new = failed
EndsAtRest failed gone.Done new = (is_open new.phase ≡ false) × (new.unsent ≡ [])
EndsAtRest failed gone.Late new = ⊥

-- A turn lets a client go because memory was refused to what is to be sent to it, because its stream failed, because its session is over and all was sent, or because it is late.
abbrev pub EndsFor : Gone → (old new : State) → (failed late : Type 0) → Type 0
EndsFor gone.Lost old new failed late = (is_lost new.phase ≡ true) × (new ≡ old)
EndsFor gone.Failed old new failed late = failed
EndsFor gone.Done old new failed late = (is_open new.phase ≡ false) × (new.unsent ≡ [])
EndsFor gone.Late old new failed late = late
