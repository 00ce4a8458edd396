-- What the answers to messages write, on the wire and to the store.
use Rattle.std.specs.Prelude.{◌≡◌, ◌≢◌, ℕ, ◌≤◌, ◌⊎◌, List, [], ◌∷◌, ◌++◌, length, map, Bool, true, false, if◌then◌else◌, Result, Err, IsErrOf, OnOk}
use Rattle.std.specs.List.{AllByRecursion}
use Rattle.celtree.specs.Tree.{Expr}
use Rattle.device.specs.declared.device.Device.{Ghosts}
use Rattle.objects.specs.Failing.{HasGrown}
use Rattle.requests.specs.declared.refusal.Refusal.TheVariants.{OutOfMemory, StorageFailed}
use Rattle.expressions.specs.Specification.{Specification}
use Rattle.decoded.specs.Standing.{Write, History, View}
use Rattle.apicore.specs.Admitted.{AreAdmitted}
use Rattle.requests.specs.Reply.{Reply, status}
use Rattle.records.specs.Payload.{group_limit}
use Rattle.apicore.specs.Step.{Asked, writes, reply}
use Rattle.apicore.specs.Prepared.{IsReadOf}
use Rattle.histories.specs.View.{view, after_all}
use Rattle.durable.specs.declared.fault.Damage.{Damage}
use Rattle.durable.specs.declared.store.Store.{Store}
use Rattle.names.specs.declared.format.Format.{Format}
use Rattle.names.specs.declared.format.Rules.{Rules}
use Rattle.durable.specs.Settled.{serves, ServesAt, IsSettledAt, IsLeftAt, LeavesSome}
use Rattle.httpmsg.specs.Flow.{TookSome}
use Rattle.httpmsg.specs.Stream.{Message}
use Rattle.routes.specs.Asked.{asked}
use Rattle.api.specs.declared.fault.ServeFault.{ServeFault}
use Rattle.api.specs.declared.fault.ServeFault.TheVariants as ServeFaults
use Rattle.routes.specs.ReplyBytes.{reply_bytes, closing_bytes}

-- A message that is answered, what stands in the document that it asks to be stored, and whether it was served: it was not where memory
-- was refused to it, or where the store had failed before.
pub record Answered : Type 0 where
  pub message : Message
  pub specification : Specification Expr
  pub is_served : Bool

-- the message was served
abbrev pub served : Message → Specification Expr → Answered
served m s = record { message = m; specification = s; is_served = true }

-- the request that it is to a store of a format, with what stands in its document
abbrev pub asked_of : Format → Answered → Asked
asked_of format a = record { request = asked format a.message; specification = a.specification }

abbrev pub messages : List Answered → List Message
messages answered = map (λ a. a.message) answered

-- in the document of each message that was served stands what is said, and no other trees
abbrev pub AreRead : Format → List Answered → Type 0
AreRead format answered = AllByRecursion (λ a. a.is_served ≡ true → IsReadOf format (asked format a.message) a.specification) answered

-- ---- one message, where v is shown under these numbers

-- the writes of its request: none where it was not served
abbrev pub writes_of : Rules → View → Answered → List Write
writes_of rules v a = if a.is_served then writes rules v (asked_of rules.format a) else []

-- the reply to its request, or that memory was refused to it
abbrev pub reply_of : Rules → View → Answered → Reply
reply_of rules v a = if a.is_served then reply rules v (asked_of rules.format a) else status OutOfMemory

-- ---- messages, one after another

abbrev pub all_writes : Rules → View → List Answered → List Write
all_writes rules v [] = []
all_writes rules v (a ∷ more) = writes_of rules v a ++ all_writes rules (after_all rules v (writes_of rules v a)) more

abbrev pub all_bytes : Rules → View → List Answered → List ℕ
all_bytes rules v [] = []
all_bytes rules v (a ∷ more) = reply_bytes rules.format a.message (reply_of rules v a) ++ all_bytes rules (after_all rules v (writes_of rules v a)) more

-- ---- what a call that answers messages leaves

-- The store keeps to these numbers and shows this view while it serves. Of one that has failed nothing is asked.
abbrev pub ShowsAt : {D : Type 0} {g : Ghosts D} → Rules → Store D g → View → Type 0
ShowsAt rules store v = serves store ≡ true → ServesAt rules store v

-- Where old, which showed v, was settled at a history.
abbrev pub WhereSettled : {D : Type 0} {g : Ghosts D} → Rules → Store D g → View → (History → Type 0) → Type 0
WhereSettled rules old v P = (h : History) → v ≡ view rules h → IsSettledAt rules old h → P h

-- The store showed v, and shows what the answers leave; each of their writes was admitted by the policies, bindings and parameters just
-- before it. Of a store that had failed none is answered, and it is as it was. One that was settled at a history is settled after the writes of the answers, and at
-- every moment since a crash leaves that history followed by some first ones of them.
pub record HasApplied {D : Type 0} {g : Ghosts D} (rules : Rules) (old new : Store D g) (v : View) (answered : List Answered) : Type 0 where
  pub serving : serves new ≡ serves old
  pub shows : ShowsAt rules new (after_all rules v (all_writes rules v answered))
  pub failed : serves old ≡ false → (new ≡ old) × (answered ≡ [])
  pub specified : AreRead rules.format answered
  pub admitted : AreAdmitted rules v (all_writes rules v answered)
  pub settled : WhereSettled rules old v (λ h. IsSettledAt rules new (h ++ all_writes rules v answered))
  pub moments : WhereSettled rules old v (λ h. LeavesSome rules old new h (all_writes rules v answered))

-- These messages were answered, and the device failed at others that stand in one record, now or before. What is found of a store that was
-- settled has the writes that were answered, and perhaps those of the others, which were admitted too. The others were served but where the
-- store had failed before; then none was answered, and the store is as it was.
pub record HasFailedIn {D : Type 0} {g : Ghosts D} (rules : Rules) (old new : Store D g) (v : View) (answered failing : List Answered) : Type 0 where
  pub some : 1 ≤ length failing
  pub few : length failing ≤ group_limit
  pub tried : AllByRecursion (λ a. a.is_served ≡ serves old) failing
  pub stopped : serves new ≡ false
  pub failed : serves old ≡ false → (new ≡ old) × (answered ≡ [])
  pub specified : AreRead rules.format (answered ++ failing)
  pub admitted : AreAdmitted rules v (all_writes rules v (answered ++ failing))
  pub left : WhereSettled rules old v (λ h. IsLeftAt rules new h (all_writes rules v answered) (all_writes rules v (answered ++ failing)))
  pub moments : WhereSettled rules old v (λ h. LeavesSome rules old new h (all_writes rules v (answered ++ failing)))

module _ {O D : Type 0} {g : Ghosts D} (rules : Rules) (took : O → O → List ℕ → Type 0) (o p : O) (old new : Store D g) where
  -- The messages are answered, and after the replies closing bytes are written.
  pub record Answers (v : View) (ms : List Message) (closing : List ℕ) : Type 0 where
    pub answered : List Answered
    pub answers : messages answered ≡ ms
    pub written : took o p (all_bytes rules v answered ++ closing)
    pub store : HasApplied rules old new v answered

  -- The output failed: some first messages were applied, and a beginning of their replies and of closing bytes is written.
  pub record WritesSome (v : View) (ms : List Message) (closing : List ℕ) : Type 0 where
    pub answered : List Answered
    pub waiting : List Message
    pub split : ms ≡ messages answered ++ waiting
    pub written : TookSome took o p (all_bytes rules v answered ++ closing)
    pub store : HasApplied rules old new v answered

  -- The device failed at messages that stand in one record, now or before: those before them are answered, and then a refusal that closes
  -- is written, the whole of it unless the output failed.
  pub record MeetsFailure (failures : O → ℕ) (v : View) (ms : List Message) : Type 0 where
    pub answered : List Answered
    pub failing : List Answered
    pub waiting : List Message
    pub split : ms ≡ messages answered ++ (messages failing ++ waiting)
    pub closing : List ℕ
    pub unwritten : List ℕ
    pub refusal : closing_bytes false StorageFailed ≡ closing ++ unwritten
    pub whole : (unwritten ≡ []) ⊎ HasGrown (failures o) (failures p)
    pub written : took o p (all_bytes rules v answered ++ closing)
    pub store : HasFailedIn rules old new v answered failing

-- ---- why answering ends early

-- how answering messages stops: only by the output or by the device, now or before; a store that shows a view finds no damage
abbrev pub Stops : {O D : Type 0} {g : Ghosts D} → Rules → (O → O → List ℕ → Type 0) → (O → ℕ) → O → O → Store D g → Store D g
    → View → List Message → ServeFault → Type 0
Stops rules took failures o p old new v ms ServeFaults.Read = ⊥
Stops rules took failures o p old new v ms ServeFaults.Write = WritesSome rules took o p old new v ms []
Stops rules took failures o p old new v ms ServeFaults.Device = MeetsFailure rules took o p old new failures v ms
Stops rules took failures o p old new v ms ServeFaults.Memory = ⊥
Stops rules took failures o p old new v ms (ServeFaults.Damaged damage) = ⊥
Stops rules took failures o p old new v ms ServeFaults.Failed = MeetsFailure rules took o p old new failures v ms

-- A refusal that closes is written behind all else, the whole of it unless the output failed.
pub record RefusesLast {O : Type 0} (took : O → O → List ℕ → Type 0) (failures : O → ℕ) (o p : O) : Type 0 where
  -- the output after what was written before
  pub before : O
  pub later : failures o ≤ failures before
  pub closing : List ℕ
  pub unwritten : List ℕ
  pub refusal : closing_bytes false StorageFailed ≡ closing ++ unwritten
  pub whole : (unwritten ≡ []) ⊎ HasGrown (failures before) (failures p)
  pub written : took before p closing

-- The output's and the device's fault are answered only where theirs grew, `Damaged` only where the store stopped, and `Failed` only where it had
-- stopped before. Where no fault is answered the output did not fail.
pub record HasCauses {T : Type 0} (output_old output_new device_old device_new : ℕ) (serves_old serves_new : Bool) (result : Result T ServeFault) : Type 0 where
  pub output_later : output_old ≤ output_new
  pub device_later : device_old ≤ device_new
  pub write : IsErrOf result ServeFaults.Write → HasGrown output_old output_new
  pub device : IsErrOf result ServeFaults.Device → HasGrown device_old device_new
  pub never_read : result ≢ Err ServeFaults.Read
  pub damaged : (damage : Damage) → IsErrOf result (ServeFaults.Damaged damage) → (serves_old ≡ true) × (serves_new ≡ false)
  pub failed : IsErrOf result ServeFaults.Failed → serves_old ≡ false
  pub goes_on : OnOk result (serves_new ≡ serves_old)
  pub output_well : OnOk result (output_new ≡ output_old)
