-- What a command that failed left of the device behind its file.
use Rattle.std.specs.Prelude.{◌≡◌, ◌≢◌, ◌⊎◌, ◌≤◌, ℕ, List, [], ◌++◌, length}
use Rattle.device.specs.declared.device.Device.{Ghosts}
use Rattle.device.specs.Disk.{Disk, LeavesOnly}
use Rattle.device.specs.Run.{Ran}
use Rattle.device.specs.Step.{Same, Torn}
use Rattle.names.specs.declared.format.Rules.{Rules}
use Rattle.objects.specs.Failing.{HasGrown}
use Rattle.histories.specs.View.{view}
use Rattle.records.specs.Payload.{group_limit}
use Rattle.decoded.specs.Standing.{History, View}
use Rattle.apicore.specs.Admitted.{AreAdmitted}
use Rattle.durable.specs.declared.store.Store.{Store}
use Rattle.durable.specs.Ready.{HoldsHistory}
use Rattle.durable.specs.Settled.{IsFound}
use Rattle.api.specs.Answers.{Answered, AreRead, all_writes}
use Rattle.api.specs.Serving.{Exchanged}
use Rattle.clients.specs.Serving.{HasServedSome, HasFailedAt, HasStoppedBetween}
use Rattle.store.specs.Upkeep.{KeepsHistory, IsEither}
use Rattle.store.specs.Whole.{HasEndedEarly, IsKept}
use Rattle.gated.specs.declared.command.Verb.{Verb}
use Rattle.gated.specs.declared.command.Verb.TheVariants as verb
use Rattle.gated.specs.declared.status.Status.{Status}
use Rattle.gated.specs.declared.status.Status.TheVariants as status

-- ---- what connections left

-- A store served messages up to a fault: they were answered, and perhaps the device failed at others.
abbrev pub HasServedUpTo : {D : Type 0} {g : Ghosts D} → Rules → (old new : Store D g) → View → Type 0
HasServedUpTo rules old new v = HasServedSome rules old new v ⊎ HasFailedAt rules old new v

-- The same of clients at once: perhaps the device failed in a compaction between them.
abbrev pub HasServedUntil : {D : Type 0} {g : Ghosts D} → Rules → (old new : Store D g) → View → Type 0
HasServedUntil rules old new v = HasServedUpTo rules old new v ⊎ HasStoppedBetween rules old new v

-- Messages were answered, and perhaps the device failed at others, which were to stand in one record. A reader of the device finds the history, then every
-- write of the answered, and perhaps some of the others, after a crash and without one. Each of these writes was admitted by the policies just before it; and at
-- every moment since old a crash leaves the history, followed by some first ones of them.
pub record HasServedPart {D : Type 0} (rules : Rules) (disk : Disk D) (old new : D) (h : History) : Type 0 where
  pub answered : List Answered
  pub failing : List Answered
  pub few : length failing ≤ group_limit
  pub specified : AreRead rules.format (answered ++ failing)
  pub admitted : AreAdmitted rules (view rules h) (all_writes rules (view rules h) (answered ++ failing))
  pub keeps : disk.keeps new
  pub found : IsKept rules h answered failing (disk.content new)
  pub left : (c : List ℕ) → disk.left new c → IsKept rules h answered failing c
  pub moments : LeavesOnly disk old new (IsFound rules h [] (all_writes rules (view rules h) (answered ++ failing)))

-- ---- the device under a name

module _ {S D : Type 0} (disk : Disk D) (missed : S → List ℕ → Type 0) (given_out given_back : S → List ℕ → D → Type 0) (storage : S) (name : List ℕ) where
  -- The device was given back. Where it held a history, this is so of it.
  pub record WasGivenBack (IsSo : Rules → (old new : D) → History → Type 0) : Type 0 where
    pub found : D
    pub left : D
    pub was_opened : given_out storage name found
    pub was_closed : given_back storage name left
    pub is_so : (rules : Rules) (h : History) → HoldsHistory rules disk found h → IsSo rules found left h

  -- There was none, or it was given back so.
  abbrev pub HasLeft : (Rules → (old new : D) → History → Type 0) → Type 0
  HasLeft IsSo = missed storage name ⊎ WasGivenBack IsSo

  -- One was made, and was given back with its name removed. At most its first nine sectors were written, and none where it had some.
  pub record WasDiscarded : Type 0 where
    pub empty : D
    pub left : D
    pub was_made : given_out storage name empty
    pub was_discarded : given_back storage name left
    pub written : Ran disk empty left (Torn 0 4608)
    pub stays : disk.keeps empty → disk.content empty ≢ [] → Ran disk empty left Same

  -- None was made, or it was discarded.
  abbrev pub HasMadeNone : Type 0
  HasMadeNone = missed storage name ⊎ WasDiscarded

-- ---- the device behind a command's file

module _ {S D I O : Type 0} (disk : Disk D) (missed : S → List ℕ → Type 0) (made opened closed discarded : S → List ℕ → D → Type 0) (gave : I → I → List ℕ → Type 0)
    (took : O → O → List ℕ → Type 0) (failures : O → ℕ) (storage : S) (input_old input_new : I) (output_old output_new : O) where
  -- Requests were answered up to a fault: what was read and written is as the whole theorem says.
  abbrev pub HasAnsweredPart : Rules → (old new : D) → History → Type 0
  HasAnsweredPart rules old new h = Exchanged gave took input_old input_new output_old output_new
      (HasEndedEarly rules disk old new h (HasGrown (disk.failures old) (disk.failures new)) (HasGrown (failures output_old) (failures output_new)))

  -- A verb was not done: this is left.
  abbrev pub HasLeftBy : Verb → Type 0
  HasLeftBy (verb.Create file format) = HasMadeNone disk missed made discarded storage file.now
  HasLeftBy (verb.Replay file) = HasLeft disk missed opened closed storage file.now HasAnsweredPart
  HasLeftBy (verb.Serve file address serving idle_seconds is_logged) = HasLeft disk missed opened closed storage file.now (λ rules old new h. HasServedPart rules disk old new h)
  HasLeftBy (verb.Compact file) = HasLeft disk missed opened closed storage file.now (λ rules old new h. KeepsHistory rules disk old new h)
  HasLeftBy (verb.Upgrade file) = HasLeft disk missed opened closed storage file.now (λ rules old new h. IsEither rules disk old new h)
  HasLeftBy (verb.Check file) = HasLeft disk missed opened closed storage file.now (λ rules old new h. KeepsHistory rules disk old new h)

-- The words were not understood, or memory was refused to read them: nothing was read or written.
abbrev pub WasRefused : {I O : Type 0} (input_old input_new : I) (output_old output_new : O) → Status → Type 0
WasRefused input_old input_new output_old output_new result =
    ((result ≡ status.Usage) ⊎ (result ≡ status.OutOfMemory)) × (input_new ≡ input_old) × (output_new ≡ output_old)
