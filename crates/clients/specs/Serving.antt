-- What serving clients does to the store.
use Rattle.std.specs.Prelude.{◌≡◌, ℕ, ◌<◌, ◌+◌, min, List, [], length, slice_index_or, false, MatchOption}
use Rattle.device.specs.declared.device.Device.{Ghosts}
use Rattle.names.specs.declared.format.Rules.{Rules}
use Rattle.decoded.specs.Standing.{View}
use Rattle.durable.specs.declared.store.Store.{Store}
use Rattle.api.specs.declared.fault.ServeFault.{ServeFault}
use Rattle.api.specs.declared.fault.ServeFault.TheVariants as serve_fault
use Rattle.httpmsg.specs.Stream.{Message}
use Rattle.apicore.specs.Admitted.{AreAdmitted}
use Rattle.durable.specs.Settled.{serves, IsLeftAt, LeavesSome}
use Rattle.api.specs.Answers.{Answered, AreRead, WhereSettled, all_writes, HasApplied, HasFailedIn}
use Rattle.sessions.specs.declared.batch.Batch.{Batch}
use Rattle.sessions.specs.Batch.{AllKept, IsPassedOver, BeginsAt, held, places_of, last_place}
use Rattle.sessions.specs.State.{State}
use Rattle.sessions.specs.Turn.{Turned}
use Rattle.sessions.specs.Stops.{TurnStops}
use Rattle.clients.specs.declared.fault.ClientsFault.{ClientsFault}
use Rattle.clients.specs.declared.fault.ClientsFault.TheVariants as clients_fault

-- ---- one group

-- Messages that waited in sessions were taken, those of each session in their order: none is lost, all else of the sessions stays, and none is
-- taken only where each session was passed over: none of it waited, or its client has not taken the replies that it has. The sessions from one
-- place on are asked first, and then those before it. The next group begins behind the last place that was asked.
pub record Gathers (first next : ℕ) (places : List ℕ) (ms : List Message) (before after : List State) : Type 0 where
  pub empty : Batch
  pub full : Batch
  pub none : held empty ≡ []
  pub messages : held full ≡ ms
  pub at : places_of full ≡ places
  pub alike : length places ≡ length ms
  pub many : length after ≡ length before
  pub kept : AllKept empty full before after
  pub some : ms ≡ [] → (i : ℕ) (d : State) → i < length before → IsPassedOver (slice_index_or before i d)
  pub begins : BeginsAt first before places
  pub behind : MatchOption (last_place places) (next ≡ min first (length before)) (λ p. next ≡ p + 1)

-- They were answered together, and each session gains the answers to its own.
pub record AnswersGroup {D : Type 0} {g : Ghosts D} (rules : Rules) (first next : ℕ) (old new : Store D g) (v : View) (before after : List State) : Type 0 where
  pub places : List ℕ
  pub messages : List Message
  pub between : List State
  pub many : length after ≡ length before
  pub gathers : Gathers first next places messages before between
  pub turned : Turned rules old new v places messages between after

-- The store stopped at them.
pub record StopsAtGroup {D : Type 0} {g : Ghosts D} (rules : Rules) (first next : ℕ) (old new : Store D g) (v : View) (before after : List State) (fault : ServeFault) : Type 0 where
  pub places : List ℕ
  pub messages : List Message
  pub between : List State
  pub many : length after ≡ length before
  pub gathers : Gathers first next places messages before between
  pub stops : TurnStops rules old new v places messages between after fault

-- ---- all of them

-- Some messages were answered: what the store then shows and holds is what their writes leave.
pub record HasServedSome {D : Type 0} {g : Ghosts D} (rules : Rules) (old new : Store D g) (v : View) : Type 0 where
  pub answered : List Answered
  pub store : HasApplied rules old new v answered

-- Some messages were answered, and then the device failed at others, now or before.
pub record HasFailedAt {D : Type 0} {g : Ghosts D} (rules : Rules) (old new : Store D g) (v : View) : Type 0 where
  pub answered : List Answered
  pub failing : List Answered
  pub store : HasFailedIn rules old new v answered failing

-- how serving stops by a fault of the store: only by the device; a store that shows a view finds no damage
abbrev pub StopsServing : {D : Type 0} {g : Ghosts D} → Rules → Store D g → Store D g → View → ServeFault → Type 0
StopsServing rules old new v serve_fault.Read = ⊥
StopsServing rules old new v serve_fault.Write = ⊥
StopsServing rules old new v serve_fault.Device = HasFailedAt rules old new v
StopsServing rules old new v serve_fault.Memory = ⊥
StopsServing rules old new v (serve_fault.Damaged damage) = ⊥
StopsServing rules old new v serve_fault.Failed = HasFailedAt rules old new v

-- Some messages were answered, and then the device failed in a compaction. What a reader finds then, and a crash leaves, are all of their writes.
pub record HasStoppedBetween {D : Type 0} {g : Ghosts D} (rules : Rules) (old new : Store D g) (v : View) : Type 0 where
  pub answered : List Answered
  pub stopped : serves new ≡ false
  pub specified : AreRead rules.format answered
  pub admitted : AreAdmitted rules v (all_writes rules v answered)
  pub left : WhereSettled rules old v (λ h. IsLeftAt rules new h (all_writes rules v answered) (all_writes rules v answered))
  pub moments : WhereSettled rules old v (λ h. LeavesSome rules old new h (all_writes rules v answered))

-- how it stops by any fault: one of the network leaves what was served before
abbrev pub StopsClients : {D : Type 0} {g : Ghosts D} → Rules → Store D g → Store D g → View → ClientsFault → Type 0
StopsClients rules old new v clients_fault.Network = HasServedSome rules old new v
StopsClients rules old new v (clients_fault.Store fault) = StopsServing rules old new v fault
StopsClients rules old new v (clients_fault.Compaction fault) = HasStoppedBetween rules old new v
