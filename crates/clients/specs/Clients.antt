-- What all clients were served: those that are there, and those that left.
use Rattle.std.specs.Prelude.{◌≡◌, ℕ, ◌<◌, ◌≤◌, ◌⊎◌, ⊤, false, Option, Some, List, [], ◌++◌, length, map}
use Rattle.std.specs.List.{AllByRecursion}
use Rattle.std.specs.declared.time.Duration.{Duration}
use Rattle.names.specs.declared.format.Rules.{Rules}
use Rattle.histories.specs.View.{after_all}
use Rattle.decoded.specs.Standing.{View}
use Rattle.device.specs.declared.device.Device.{Ghosts}
use Rattle.durable.specs.declared.store.Store.{Store}
use Rattle.durable.specs.Settled.{serves, IsLeftAt, LeavesSome}
use Rattle.apicore.specs.Admitted.{AreAdmitted}
use Rattle.api.specs.declared.fault.ServeFault.{ServeFault}
use Rattle.api.specs.declared.fault.ServeFault.TheVariants as serve_fault
use Rattle.api.specs.Answers.{Answered, AreRead, WhereSettled, all_writes, HasApplied, HasFailedIn}
use Rattle.sessions.specs.State.{State}
use Rattle.sessions.specs.Served.{IsServed, IsToldOfFailure}
use Rattle.clients.specs.declared.line.Line.{Line}
use Rattle.clients.specs.declared.line.Gone.{Gone}
use Rattle.clients.specs.declared.places.Places.{Places}
use Rattle.clients.specs.declared.fault.ClientsFault.{ClientsFault}
use Rattle.clients.specs.declared.fault.ClientsFault.TheVariants as clients_fault
use Rattle.clients.specs.Plain.{IsPlain}
use Rattle.clients.specs.Places.{count, line_at, session_at, IsFree, IsFreshWhereFree, HasReason}

-- A client: its place, its stream as it came and as it was last, what was read of it and sent to it, and how far its session was then.
pub record Client (S : Type 0) : Type 0 where
  pub place : ℕ
  pub came : S
  pub last : S
  pub read : List ℕ
  pub sent : List ℕ
  pub state : State

-- All messages that were answered stand in one list, each with the place of the client that sent it. A client that is there: some were answered before it came, and the others
-- since. Of those its own were read of it, and what was sent to it are the replies to them.
module _ {S : Type 0} (moved : S → S → List ℕ → List ℕ → Type 0) (has_ended : S → Type 0) (failures : S → ℕ) (rules : Rules) (v : View) (places : List ℕ) (answered : List Answered) where
  pub record IsHere (p : Places S) (c : Client S) : Type 0 where
    pub earlier_places : List ℕ
    pub earlier : List Answered
    pub own_places : List ℕ
    pub own : List Answered
    pub places_are : places ≡ earlier_places ++ own_places
    pub are : answered ≡ earlier ++ own
    pub alike : length earlier_places ≡ length earlier
    pub own_alike : length own_places ≡ length own
    pub line : Line S
    pub there : line_at p c.place ≡ Some line
    pub plain : IsPlain line
    pub last : c.last ≡ line.stream
    pub state : c.state ≡ session_at p c.place
    pub exchanged : moved c.came c.last c.read c.sent
    pub later : failures c.came ≤ failures c.last
    pub served : IsServed rules (after_all rules v (all_writes rules v earlier)) c.place own_places own (has_ended c.last) c.read c.sent c.state

  -- A client that left for a reason: others were answered after it left.
  pub record HasLeft (idle : Option Duration) (c : Client S) : Type 0 where
    pub earlier_places : List ℕ
    pub earlier : List Answered
    pub own_places : List ℕ
    pub own : List Answered
    pub later_places : List ℕ
    pub later : List Answered
    pub places_are : places ≡ earlier_places ++ (own_places ++ later_places)
    pub are : answered ≡ earlier ++ (own ++ later)
    pub alike : length earlier_places ≡ length earlier
    pub own_alike : length own_places ≡ length own
    pub exchanged : moved c.came c.last c.read c.sent
    pub served : IsServed rules (after_all rules v (all_writes rules v earlier)) c.place own_places own (has_ended c.last) c.read c.sent c.state
    pub gone : Gone
    pub reason : HasReason gone (failures c.came) (failures c.last) c.state idle

  -- These clients came: each is there, or left. Where nobody is, the next client finds nothing of the one before.
  pub record AreServed (idle : Option Duration) (p : Places S) (clients : List (Client S)) : Type 0 where
    pub each : AllByRecursion (λ c. IsHere p c ⊎ HasLeft idle c) clients
    pub fresh : IsFreshWhereFree p
    pub rooms : length p.sessions.items ≡ count p

  -- A client that was there when the store failed: what it asked before is answered, and where the store failed at a message of it, or at another one that stands in the same
  -- record, it was told so once. Then the first of what waited for it was sent.
  pub record WasThere (c : Client S) : Type 0 where
    pub earlier_places : List ℕ
    pub earlier : List Answered
    pub own_places : List ℕ
    pub own : List Answered
    pub places_are : places ≡ earlier_places ++ own_places
    pub are : answered ≡ earlier ++ own
    pub exchanged : moved c.came c.last c.read c.sent
    pub served : IsServed rules (after_all rules v (all_writes rules v earlier)) c.place own_places own (has_ended c.last) c.read c.sent c.state
        ⊎ IsToldOfFailure rules (after_all rules v (all_writes rules v earlier)) c.place own_places own c.read c.sent c.state

-- nobody is there
pub record HasNobody {S : Type 0} (p : Places S) : Type 0 where
  pub free : (i : ℕ) → i < count p → IsFree p i
  pub fresh : IsFreshWhereFree p
  pub rooms : length p.sessions.items ≡ count p

-- the client is at its place, as it is seen
pub record IsAt {S : Type 0} (p : Places S) (c : Client S) : Type 0 where
  pub line : Line S
  pub there : line_at p c.place ≡ Some line
  pub last : c.last ≡ line.stream
  pub state : c.state ≡ session_at p c.place

module _ {S : Type 0} (moved : S → S → List ℕ → List ℕ → Type 0) (has_ended : S → Type 0) (failures : S → ℕ) (idle : Option Duration) where
  -- These clients came before, and then others, and now they are served so.
  pub record ServedNow (rules : Rules) (v : View) (places : List ℕ) (answered : List Answered) (p : Places S) (clients : List (Client S)) (streams : List S) : Type 0 where
    pub now : List (Client S)
    pub came : map (λ c. c.came) now ≡ map (λ c. c.came) clients ++ streams
    pub served : AreServed moved has_ended failures rules v places answered idle p now

  -- Whatever clients were served before, that goes on, and others came.
  abbrev pub ServesOn : (a b : Places S) → (streams : List S) → Type 0
  ServesOn a b streams = (rules : Rules) (v : View) (places : List ℕ) (answered : List Answered) (clients : List (Client S)) → length places ≡ length answered
      → AreServed moved has_ended failures rules v places answered idle a clients → ServedNow rules v places answered b clients streams

  -- what is known of a client once the store has failed: it left before, or was there, and perhaps is
  abbrev pub WasLeft : Rules → View → (places : List ℕ) → List Answered → Places S → Client S → Type 0
  WasLeft rules v places answered p c =
      HasLeft moved has_ended failures rules v places answered idle c ⊎ (WasThere moved has_ended failures rules v places answered c × (IsAt p c ⊎ ⊤))

  pub record LeftNow (rules : Rules) (v : View) (places : List ℕ) (answered : List Answered) (p : Places S) (clients : List (Client S)) : Type 0 where
    pub now : List (Client S)
    pub came : map (λ c. c.came) now ≡ map (λ c. c.came) clients
    pub left : AllByRecursion (WasLeft rules v places answered p) now

  -- Whatever is known of clients once the store has failed, is so after the last bytes were sent.
  abbrev pub EndsOn : (a b : Places S) → Type 0
  EndsOn a b = (rules : Rules) (v : View) (places : List ℕ) (answered : List Answered) (clients : List (Client S))
      → AllByRecursion (WasLeft rules v places answered a) clients → LeftNow rules v places answered b clients

  -- ---- a turn

  -- Some messages were answered, and the store has applied them.
  pub record ServesTurn {D : Type 0} {g : Ghosts D} (rules : Rules) (old new : Store D g) (v : View) (a b : Places S) : Type 0 where
    pub more_places : List ℕ
    pub more : List Answered
    pub alike : length more_places ≡ length more
    pub store : HasApplied rules old new v more
    pub on : (first : View) (places : List ℕ) (answered : List Answered) (clients : List (Client S)) → v ≡ after_all rules first (all_writes rules first answered)
        → length places ≡ length answered → AreServed moved has_ended failures rules first places answered idle a clients
        → ServedNow rules first (places ++ more_places) (answered ++ more) b clients []

  -- Some messages were answered, and the store failed at others.
  pub record FailsTurn {D : Type 0} {g : Ghosts D} (rules : Rules) (old new : Store D g) (v : View) (a b : Places S) : Type 0 where
    pub more_places : List ℕ
    pub more : List Answered
    pub failing : List Answered
    pub alike : length more_places ≡ length more
    pub store : HasFailedIn rules old new v more failing
    pub on : (first : View) (places : List ℕ) (answered : List Answered) (clients : List (Client S)) → v ≡ after_all rules first (all_writes rules first answered)
        → length places ≡ length answered → AreServed moved has_ended failures rules first places answered idle a clients
        → LeftNow rules first (places ++ more_places) (answered ++ more) b clients

  abbrev pub StopsTurn : {D : Type 0} {g : Ghosts D} → Rules → Store D g → Store D g → View → (a b : Places S) → ServeFault → Type 0
  StopsTurn rules old new v a b serve_fault.Read = ⊥
  StopsTurn rules old new v a b serve_fault.Write = ⊥
  StopsTurn rules old new v a b serve_fault.Device = FailsTurn rules old new v a b
  StopsTurn rules old new v a b serve_fault.Memory = ⊥
  StopsTurn rules old new v a b (serve_fault.Damaged damage) = ⊥
  StopsTurn rules old new v a b serve_fault.Failed = FailsTurn rules old new v a b

  -- ---- a whole run

  -- These clients came, in this order, and are served from one list of messages.
  pub record ServesThem (came : List S → Type 0) (rules : Rules) (v : View) (places : List ℕ) (answered : List Answered) (p : Places S) : Type 0 where
    pub clients : List (Client S)
    pub came_by : came (map (λ c. c.came) clients)
    pub served : AreServed moved has_ended failures rules v places answered idle p clients

  -- These clients came, in this order, and were served from one list of messages until the store failed.
  pub record LeavesThem (came : List S → Type 0) (rules : Rules) (v : View) (places : List ℕ) (answered : List Answered) (p : Places S) : Type 0 where
    pub clients : List (Client S)
    pub came_by : came (map (λ c. c.came) clients)
    pub left : AllByRecursion (WasLeft rules v places answered p) clients

  -- Where no message is restated, what is said of the clients holds.
  module _ {D : Type 0} {g : Ghosts D} (came : List S → Type 0) (plain : Type 0) (rules : Rules) (old new : Store D g) (v : View) (a b : Places S) where
    -- Some messages were answered, each of the client at the place beside it, and the store has applied them. Where nobody was there before, all clients that came are
    -- served from this list.
    pub record HasServedClients : Type 0 where
      pub places : List ℕ
      pub answered : List Answered
      pub alike : length places ≡ length answered
      pub store : HasApplied rules old new v answered
      pub clients : plain → HasNobody a → ServesThem came rules v places answered b

    -- Then the store failed at some messages, now or before.
    pub record HasFailedClients : Type 0 where
      pub places : List ℕ
      pub answered : List Answered
      pub failing : List Answered
      pub store : HasFailedIn rules old new v answered failing
      pub clients : plain → HasNobody a → LeavesThem came rules v places answered b

    -- Or it failed in a compaction.
    pub record HasStoppedClients : Type 0 where
      pub places : List ℕ
      pub answered : List Answered
      pub stopped : serves new ≡ false
      pub specified : AreRead rules.format answered
      pub admitted : AreAdmitted rules v (all_writes rules v answered)
      pub left : WhereSettled rules old v (λ h. IsLeftAt rules new h (all_writes rules v answered) (all_writes rules v answered))
      pub moments : WhereSettled rules old v (λ h. LeavesSome rules old new h (all_writes rules v answered))
      pub clients : plain → HasNobody a → LeavesThem came rules v places answered b

    -- how a run stops by any fault
    abbrev pub StopsRun : ClientsFault → Type 0
    StopsRun clients_fault.Network = HasServedClients
    StopsRun (clients_fault.Store serve_fault.Read) = ⊥
    StopsRun (clients_fault.Store serve_fault.Write) = ⊥
    StopsRun (clients_fault.Store serve_fault.Device) = HasFailedClients
    StopsRun (clients_fault.Store serve_fault.Memory) = ⊥
    StopsRun (clients_fault.Store (serve_fault.Damaged damage)) = ⊥
    StopsRun (clients_fault.Store serve_fault.Failed) = HasFailedClients
    StopsRun (clients_fault.Compaction fault) = HasStoppedClients
