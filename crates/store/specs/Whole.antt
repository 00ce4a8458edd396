-- The whole way of requests: from the bytes that were read to those that were written, and to what stands on the device.
use Rattle.std.specs.Prelude.{◌≡◌, ℕ, ◌≤◌, ◌⊎◌, List, [], ◌++◌, length, true, false}
use Rattle.device.specs.declared.device.Device.{Ghosts}
use Rattle.device.specs.Disk.{Disk, LeavesOnly}
use Rattle.names.specs.declared.format.Rules.{Rules}
use Rattle.histories.specs.View as seen
use Rattle.histories.specs.View.{view}
use Rattle.requests.specs.declared.refusal.Refusal.TheVariants.{StorageFailed}
use Rattle.records.specs.Payload.{group_limit}
use Rattle.decoded.specs.Decoded.{Decoded}
use Rattle.decoded.specs.Standing.{History, View}
use Rattle.apicore.specs.Admitted.{AreAdmitted}
use Rattle.durable.specs.declared.fault.Fault.{Fault}
use Rattle.durable.specs.declared.fault.Fault.TheVariants as fault
use Rattle.durable.specs.declared.store.Store.{Store}
use Rattle.durable.specs.Rules.{rules_at}
use Rattle.durable.specs.Ready.{HoldsHistory}
use Rattle.durable.specs.Settled.{device_of, root_of, serves, kept_rules, Holds, IsFound, ServesAt, IsSettledAt}
use Rattle.durable.specs.Opened.{IsRedone}
use Rattle.httpmsg.specs.declared.head.End.{End}
use Rattle.httpmsg.specs.Stream.{Message, Progress, IsCut}
use Rattle.routes.specs.ReplyBytes.{end_bytes, closing_bytes}
use Rattle.api.specs.Answers.{Answered, messages, AreRead, all_writes, all_bytes}
use Rattle.api.specs.Serving.{Ends, IsClosing, Exchanged, HasEnded, HasStopped}
use Rattle.api.specs.declared.fault.ServeFault.{ServeFault}
use Rattle.api.specs.declared.fault.ServeFault.TheVariants as serve_fault
use Rattle.store.specs.declared.fault.AnswerFault.{AnswerFault}
use Rattle.store.specs.declared.fault.AnswerFault.TheVariants as answer_fault

-- Every write of what was answered stands behind the history, and perhaps some of the next, in order.
abbrev pub IsKept : Rules → History → (answered failing : List Answered) → (content : List ℕ) → Type 0
IsKept rules h answered failing c = IsFound rules h (all_writes rules (view rules h) answered) (all_writes rules (view rules h) (answered ++ failing)) c

-- What may be written after the replies where the device met no failure: nothing, or with all messages answered the reply of the stream's end, or that
-- memory was refused.
abbrev pub ClosesSound : (answered failing : List Answered) → (waiting : List Message) → (cut closing : List ℕ) → Type 0
ClosesSound answered failing waiting cut closing = (failing ≡ []) × ((closing ≡ []) ⊎ ((waiting ≡ []) × IsClosing cut (messages answered) closing))

-- and where it met one: that the storage failed
abbrev pub ClosesFailed : (failing : List Answered) → (closing : List ℕ) → Type 0
ClosesFailed failing closing = (1 ≤ length failing) × (length failing ≤ group_limit) × (closing ≡ closing_bytes false StorageFailed)

-- The device held the history at old.
module _ {D : Type 0} (rules : Rules) (disk : Disk D) (old new : D) (h : History) where
  -- What was read is a stream of messages, and what is written are the model's replies to them, with the reply of the stream's end. Each write that was
  -- accepted was admitted by the policies just before it. A reader of the device finds the history with these writes after it, after a crash and without
  -- one; and at every moment since old a crash leaves the history, followed by some first ones of them.
  pub record HasAnswered (ended : Type 0) (read written : List ℕ) : Type 0 where
    pub answered : List Answered
    pub end : End
    pub stream : Ends ended read (messages answered) end
    pub text : written ≡ all_bytes rules (view rules h) answered ++ end_bytes end
    pub specified : AreRead rules.format answered
    pub admitted : AreAdmitted rules (view rules h) (all_writes rules (view rules h) answered)
    pub found : HoldsHistory rules disk new (h ++ all_writes rules (view rules h) answered)
    pub moments : LeavesOnly disk old new (IsFound rules h [] (all_writes rules (view rules h) answered))

  -- The call ended early. Some first messages of what was read are answered, and perhaps the device failed at the next of them, which were to stand in one
  -- record. Written are the replies to those that are answered, and what closes after them: all of it, unless the output failed. A reader of the device
  -- finds the history, then every write of the answered, and perhaps some of those at which the device failed, after a crash and without one. Each of these
  -- writes was admitted by the policies just before it; and at every moment since old a crash leaves the history, followed by some first ones of them.
  pub record HasEndedEarly (device_failed output_failed : Type 0) (read written : List ℕ) : Type 0 where
    pub answered : List Answered
    pub failing : List Answered
    pub waiting : List Message
    pub cut : List ℕ
    pub uncut : List ℕ
    pub parts : read ≡ cut ++ uncut
    pub progress : Progress
    pub stream : IsCut cut (messages answered ++ (messages failing ++ waiting)) progress
    pub closing : List ℕ
    pub closes : ClosesSound answered failing waiting cut closing ⊎ (device_failed × ClosesFailed failing closing)
    pub unwritten : List ℕ
    pub text : all_bytes rules (view rules h) answered ++ closing ≡ written ++ unwritten
    pub whole : (unwritten ≡ []) ⊎ output_failed
    pub specified : AreRead rules.format (answered ++ failing)
    pub admitted : AreAdmitted rules (view rules h) (all_writes rules (view rules h) (answered ++ failing))
    pub keeps : disk.keeps new
    pub found : IsKept rules h answered failing (disk.content new)
    pub left : (c : List ℕ) → disk.left new c → IsKept rules h answered failing c
    pub moments : LeavesOnly disk old new (IsFound rules h [] (all_writes rules (view rules h) (answered ++ failing)))

-- A fault is told only where what it names failed. That a store had failed before is never told: it was just opened.
abbrev pub IsCaused : AnswerFault → (device_failed input_failed output_failed : Type 0) → Type 0
IsCaused (answer_fault.Opening fault.Device) d i o = d
IsCaused (answer_fault.Opening fault.Memory) d i o = Unit {0}
IsCaused (answer_fault.Opening (fault.Damaged damage)) d i o = Unit {0}
IsCaused (answer_fault.Opening fault.Failed) d i o = ⊥
IsCaused (answer_fault.Opening fault.Exhausted) d i o = ⊥
IsCaused (answer_fault.Serving serve_fault.Read) d i o = i
IsCaused (answer_fault.Serving serve_fault.Write) d i o = o
IsCaused (answer_fault.Serving serve_fault.Device) d i o = d
IsCaused (answer_fault.Serving serve_fault.Memory) d i o = Unit {0}
IsCaused (answer_fault.Serving (serve_fault.Damaged damage)) d i o = Unit {0}
IsCaused (answer_fault.Serving serve_fault.Failed) d i o = ⊥

-- and it is no damage
abbrev pub IsUndamaged : AnswerFault → Type 0
IsUndamaged (answer_fault.Opening (fault.Damaged damage)) = ⊥
IsUndamaged (answer_fault.Serving (serve_fault.Damaged damage)) = ⊥
IsUndamaged other = Unit {0}

-- ---- with the store between

-- There is a store that was opened on the device, served, and gave it back: it was serving, kept to the rules of the format that its root tells, and where the root that counts has
-- no pages it held what the writes that were read left, with their plans. At each view that it showed this is so. Where the device held a history, it was
-- settled at that. Where it did not, nothing pins the store: one with pages shows no view on a device that does not keep the disk model.
pub record WasServed {D : Type 0} (g : Ghosts D) (old new : D) (IsSo : (opened served : Store D g) → Rules → View → Type 0) : Type 0 where
  pub opened : Store D g
  pub served : Store D g
  pub given_back : new ≡ device_of served
  pub settled : (rules : Rules) (h : History) → HoldsHistory rules g.disk old h → IsSettledAt rules opened h
  pub serving : serves opened ≡ true
  pub numbers : kept_rules opened ≡ rules_at (root_of opened)
  pub redone : (root_of opened).pages ≡ 0 → (held : seen.View Decoded) × Holds opened held × IsRedone (kept_rules opened) held
  pub at_views : (rules : Rules) (v : View) → ServesAt rules opened v → IsSo opened served rules v

module _ {I O D : Type 0} {g : Ghosts D} (gave : I → I → List ℕ → Type 0) (took : O → O → List ℕ → Type 0) (input_old input_new : I) (output_old output_new : O)
    (opened served : Store D g) (rules : Rules) (v : View) where
  -- The connection was served to its end: what was read and written is as that says.
  abbrev pub HasEndedAt : (ended : Type 0) → Type 0
  HasEndedAt ended = (end : End) × Exchanged gave took input_old input_new output_old output_new (λ read written. HasEnded rules opened served v read written ended end)

  -- It was served up to this fault: what was read and written is as the fault says, or memory was refused before anything was.
  abbrev pub HasStoppedAt : (failures : O → ℕ) → ServeFault → Type 0
  HasStoppedAt failures f =
      ((f ≡ serve_fault.Memory) × (input_new ≡ input_old) × (output_new ≡ output_old) × (served ≡ opened))
      ⊎ Exchanged gave took input_old input_new output_old output_new (HasStopped rules opened served v (failures output_old) (failures output_new) f)

-- where no store was opened
abbrev pub IfOpening : AnswerFault → (Fault → Type 0) → Type 0
IfOpening (answer_fault.Opening f) P = P f
IfOpening (answer_fault.Serving f) P = Unit {0}

-- where one was
abbrev pub IfServing : AnswerFault → (ServeFault → Type 0) → Type 0
IfServing (answer_fault.Opening f) P = Unit {0}
IfServing (answer_fault.Serving f) P = P f
