-- What serving a connection leaves: the bytes read and written, and the store.
use Rattle.std.specs.Prelude.{◌≡◌, ◌≢◌, ℕ, ◌≤◌, ◌⊎◌, List, [], ◌++◌, Bool, true, false, None, Result, Err, IsErrOf, OnOk}
use Rattle.device.specs.declared.device.Device.{Ghosts}
use Rattle.requests.specs.declared.refusal.Refusal.TheVariants.{OutOfMemory, StorageFailed}
use Rattle.decoded.specs.Standing.{View}
use Rattle.names.specs.declared.format.Rules.{Rules}
use Rattle.durable.specs.declared.fault.Damage.{Damage}
use Rattle.durable.specs.declared.store.Store.{Store}
use Rattle.httpmsg.specs.declared.head.End.{End}
use Rattle.httpmsg.specs.Stream.{Message, IsStream, Progress, IsCut}
use Rattle.api.specs.declared.fault.ServeFault.{ServeFault}
use Rattle.api.specs.declared.fault.ServeFault.TheVariants as ServeFaults
use Rattle.routes.specs.ReplyBytes.{closing_bytes, end_bytes}
use Rattle.objects.specs.Failing.{HasGrown}
use Rattle.api.specs.Answers.{Answered, messages, all_bytes, HasApplied, HasFailedIn}

-- The whole input was read and is this stream, or whatever follows what was read, the stream is this.
abbrev pub Ends : (ended : Type 0) → (read : List ℕ) → List Message → End → Type 0
Ends ended read ms end = (ended × IsStream read ms end) ⊎ ((more : List ℕ) → IsStream (read ++ more) ms end)

-- the whole messages of what was read, whose stream goes on
abbrev pub GoesOn : (read : List ℕ) → List Message → Type 0
GoesOn read ms = (pending : List ℕ) × IsCut read ms (record { pending = pending; end = None })

-- What may be written after the replies to all messages: the reply of the stream's end, or that memory was refused to
-- further bytes.
abbrev pub IsClosing : (read : List ℕ) → List Message → (closing : List ℕ) → Type 0
IsClosing read ms closing =
    ((end : End) × IsStream read ms end × (closing ≡ end_bytes end)) ⊎ (closing ≡ closing_bytes false OutOfMemory)

module _ {D : Type 0} {g : Ghosts D} (rules : Rules) (old new : Store D g) (v : View) (read written : List ℕ) where
  -- The stream was served to its end: the replies to its messages are written, and then that of its end.
  pub record HasEnded (ended : Type 0) (end : End) : Type 0 where
    pub answered : List Answered
    pub stream : Ends ended read (messages answered) end
    pub text : written ≡ all_bytes rules v answered ++ end_bytes end
    pub store : HasApplied rules old new v answered

  -- The input failed: the whole messages of what was read are answered.
  pub record HasReadSome : Type 0 where
    pub answered : List Answered
    pub stream : GoesOn read (messages answered)
    pub text : written ≡ all_bytes rules v answered
    pub store : HasApplied rules old new v answered

  -- The output failed: some first messages were applied, and what is written is a beginning of their replies, and of what
  -- closes after them.
  pub record HasWrittenSome : Type 0 where
    pub answered : List Answered
    pub waiting : List Message
    pub cut : List ℕ
    pub uncut : List ℕ
    pub parts : read ≡ cut ++ uncut
    pub progress : Progress
    pub stream : IsCut cut (messages answered ++ waiting) progress
    pub closing : List ℕ
    pub closes : (closing ≡ []) ⊎ ((waiting ≡ []) × IsClosing cut (messages answered) closing)
    pub unwritten : List ℕ
    pub text : all_bytes rules v answered ++ closing ≡ written ++ unwritten
    pub store : HasApplied rules old new v answered

  -- The device failed at messages that stand in one record, now or before: those before them are answered, and then a refusal that closes
  -- is written, the whole of it unless the output failed.
  pub record HasFailed (output_old output_new : ℕ) : Type 0 where
    pub answered : List Answered
    pub failing : List Answered
    pub waiting : List Message
    pub progress : Progress
    pub stream : IsCut read (messages answered ++ (messages failing ++ waiting)) progress
    pub closing : List ℕ
    pub unwritten : List ℕ
    pub refusal : closing_bytes false StorageFailed ≡ closing ++ unwritten
    pub whole : (unwritten ≡ []) ⊎ HasGrown output_old output_new
    pub text : written ≡ all_bytes rules v answered ++ closing
    pub store : HasFailedIn rules old new v answered failing

  -- Memory was refused to further bytes: the messages before them are answered, and then a refusal that closes is written.
  pub record HasLackedMemory : Type 0 where
    pub answered : List Answered
    pub cut : List ℕ
    pub uncut : List ℕ
    pub parts : read ≡ cut ++ uncut
    pub progress : Progress
    pub stream : IsCut cut (messages answered) progress
    pub text : written ≡ all_bytes rules v answered ++ closing_bytes false OutOfMemory
    pub store : HasApplied rules old new v answered

-- how serving stops: a store that shows a view finds no damage
abbrev pub HasStopped : {D : Type 0} {g : Ghosts D} → Rules → Store D g → Store D g → View → (output_old output_new : ℕ) → ServeFault → List ℕ → List ℕ → Type 0
HasStopped rules old new v m n ServeFaults.Read read written = HasReadSome rules old new v read written
HasStopped rules old new v m n ServeFaults.Write read written = HasWrittenSome rules old new v read written
HasStopped rules old new v m n ServeFaults.Device read written = HasFailed rules old new v read written m n
HasStopped rules old new v m n ServeFaults.Memory read written = HasLackedMemory rules old new v read written
HasStopped rules old new v m n (ServeFaults.Damaged damage) read written = ⊥
HasStopped rules old new v m n ServeFaults.Failed read written = HasFailed rules old new v read written m n

-- The input gave some bytes and the output took some, of which this holds.
pub record Exchanged {I O : Type 0} (gave : I → I → List ℕ → Type 0) (took : O → O → List ℕ → Type 0) (input_old input_new : I)
    (output_old output_new : O) (Holds : List ℕ → List ℕ → Type 0) : Type 0 where
  pub read : List ℕ
  pub written : List ℕ
  pub gave_them : gave input_old input_new read
  pub took_them : took output_old output_new written
  pub holds : Holds read written

-- Each fault of a connection is answered only where what it names failed, and `Damaged` only where the store stopped. The input failed only where
-- `Read` is answered, and where no fault is the output did not fail.
pub record HasAllCauses {T : Type 0} (input_old input_new output_old output_new device_old device_new : ℕ) (serves_old serves_new : Bool) (result : Result T ServeFault) : Type 0 where
  pub input_later : input_old ≤ input_new
  pub output_later : output_old ≤ output_new
  pub device_later : device_old ≤ device_new
  pub read : IsErrOf result ServeFaults.Read → HasGrown input_old input_new
  pub write : IsErrOf result ServeFaults.Write → HasGrown output_old output_new
  pub device : IsErrOf result ServeFaults.Device → HasGrown device_old device_new
  pub damaged : (damage : Damage) → IsErrOf result (ServeFaults.Damaged damage) → (serves_old ≡ true) × (serves_new ≡ false)
  pub failed : IsErrOf result ServeFaults.Failed → serves_old ≡ false
  pub goes_on : OnOk result (serves_new ≡ serves_old)
  pub input_well : result ≢ Err ServeFaults.Read → input_new ≡ input_old
  pub output_well : OnOk result (output_new ≡ output_old)
