-- What one call of a client's stream does to its session, and to the bytes that the stream tells.
use Rattle.std.specs.Prelude.{◌≡◌, ℕ, ◌≤◌, List, [], ◌++◌}
use Rattle.objects.specs.Failing.{HasGrown}
use Rattle.httpmsg.specs.Stream.{Message}
use Rattle.sessions.specs.State.{State}
use Rattle.sessions.specs.Pieces.{TakesPiece, EndsInput}
use Rattle.clients.specs.declared.stream.Stop.{Stop}
use Rattle.clients.specs.declared.stream.Stop.TheVariants as stop
use Rattle.clients.specs.declared.moving.Moved.{Moved}
use Rattle.clients.specs.declared.moving.Moved.TheVariants as moved

-- what came of a call that moved nothing
abbrev pub IsStopped : Stop → Moved → Type 0
IsStopped stop.Again m = m ≡ moved.Again
IsStopped stop.Waits m = m ≡ moved.Waits
IsStopped stop.Failed m = m ≡ moved.Failed

-- a stream failed only where a call of it failed
abbrev pub GrowsIfFailed : (before now : ℕ) → Moved → Type 0
GrowsIfFailed before now moved.Some = now ≡ before
GrowsIfFailed before now moved.Again = now ≡ before
GrowsIfFailed before now moved.Waits = now ≡ before
GrowsIfFailed before now moved.Ended = now ≡ before
GrowsIfFailed before now moved.Failed = HasGrown before now

pub record CountsMoved (before now : ℕ) (m : Moved) : Type 0 where
  pub later : before ≤ now
  pub counts : GrowsIfFailed before now m

module _ {S : Type 0} (moved_bytes : S → S → List ℕ → List ℕ → Type 0) (before after : S) where
  -- The first of the bytes that waited to be sent were sent, perhaps none, and these alone wait no longer. All else of the session stays.
  pub record Sends (old new : State) : Type 0 where
    pub front : List ℕ
    pub waited : old.unsent ≡ front ++ new.unsent
    pub sent : moved_bytes before after [] front
    pub waiting : new.waiting ≡ old.waiting
    pub progress : new.progress ≡ old.progress
    pub phase : new.phase ≡ old.phase

  -- a piece was read, and the session took it after what was read before
  pub record ReadsPiece (read : List ℕ) (ms : List Message) (old new : State) : Type 0 where
    pub piece : List ℕ
    pub consumed : moved_bytes before after piece []
    pub taken : TakesPiece read ms piece old new

  -- the client had sent all, and the session ends with what was read before
  pub record ReadsEnd (has_ended : S → Type 0) (read : List ℕ) (ms : List Message) (old new : State) : Type 0 where
    pub none : moved_bytes before after [] []
    pub ended : has_ended after
    pub input : EndsInput read ms old new

  -- nothing was read, and the session stays
  pub record ReadsNothing (old new : State) : Type 0 where
    pub none : moved_bytes before after [] []
    pub same : new ≡ old

  -- One read of a stream, after these bytes, of which these messages were cut.
  abbrev pub Reads : (has_ended : S → Type 0) → (read : List ℕ) → List Message → (old new : State) → Moved → Type 0
  Reads has_ended read ms old new moved.Some = ReadsPiece read ms old new
  Reads has_ended read ms old new moved.Again = ReadsNothing old new
  Reads has_ended read ms old new moved.Waits = ReadsNothing old new
  Reads has_ended read ms old new moved.Ended = ReadsEnd has_ended read ms old new
  Reads has_ended read ms old new moved.Failed = ReadsNothing old new
