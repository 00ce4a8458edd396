-- A turn in which the store's device fails.
use Rattle.std.specs.Prelude.{◌≡◌, ℕ, List, ◌++◌, length, take, drop}
use Rattle.device.specs.declared.device.Device.{Ghosts}
use Rattle.names.specs.declared.format.Rules.{Rules}
use Rattle.decoded.specs.Standing.{View}
use Rattle.durable.specs.declared.store.Store.{Store}
use Rattle.httpmsg.specs.Stream.{Message}
use Rattle.api.specs.declared.fault.ServeFault.{ServeFault}
use Rattle.api.specs.declared.fault.ServeFault.TheVariants as ServeFaults
use Rattle.api.specs.Answers.{Answered, messages, HasFailedIn}
use Rattle.sessions.specs.State.{State}
use Rattle.sessions.specs.Turn.{bytes_of, AllGain}
use Rattle.sessions.specs.Refusing.{AllRefuse}

-- The first of the messages are answered, and each session gains the answers to its own. The device failed at others, now or before: each
-- session with a message from there on is told so, once.
pub record TurnFails {D : Type 0} {g : Ghosts D} (rules : Rules) (old new : Store D g) (v : View) (places : List ℕ) (ms : List Message) (before after : List State) : Type 0 where
  pub answered : List Answered
  pub failing : List Answered
  pub waiting : List Message
  pub split : ms ≡ messages answered ++ (messages failing ++ waiting)
  pub between : List State
  pub many : length between ≡ length before
  pub given : AllGain before between (λ i. bytes_of rules v i (take (length answered) places) answered)
  pub refused : AllRefuse (drop (length answered) places) between after
  pub store : HasFailedIn rules old new v answered failing

-- how a turn stops: only by the device, now or before; a store that shows a view finds no damage
abbrev pub TurnStops : {D : Type 0} {g : Ghosts D} → Rules → Store D g → Store D g → View → (places : List ℕ) → List Message → (before after : List State)
    → ServeFault → Type 0
TurnStops rules old new v places ms before after ServeFaults.Read = ⊥
TurnStops rules old new v places ms before after ServeFaults.Write = ⊥
TurnStops rules old new v places ms before after ServeFaults.Device = TurnFails rules old new v places ms before after
TurnStops rules old new v places ms before after ServeFaults.Memory = ⊥
TurnStops rules old new v places ms before after (ServeFaults.Damaged damage) = ⊥
TurnStops rules old new v places ms before after ServeFaults.Failed = TurnFails rules old new v places ms before after
