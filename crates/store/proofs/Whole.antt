-- What serving leaves of a store that was opened, seen from the device.
use Rattle.std.proofs.Common.{◌≡◌, ◌≢◌, ◌∙◌, ap, sym, subst, refl, ◌++◌, ℕ, List, [], false, None, inl, inr, ⊎_elim, ◌⊎◌, Result, Err, IsErrOf}
use Rattle.std.proofs.lemmas.List.{append-nil, append_assoc}
use Rattle.device.specs.Disk.{Disk, LeavesOnly}
use Rattle.device.specs.declared.device.Device.{Ghosts}
use Rattle.device.proofs.Moments.{weaker, followed_by}
use Rattle.names.specs.declared.format.Rules.{Rules}
use Rattle.objects.specs.Failing.{HasGrown}
use Rattle.requests.specs.declared.refusal.Refusal.TheVariants.{OutOfMemory, StorageFailed}
use Rattle.histories.specs.View.{view}
use Rattle.decoded.specs.Standing.{Write, History, View}
use Rattle.apicore.specs.Admitted.{AreAdmitted}
use Rattle.durable.specs.declared.fault.Damage.{Damage}
use Rattle.durable.specs.declared.fault.Fault.{Fault}
use Rattle.durable.specs.declared.fault.Fault.TheVariants as fault
use Rattle.durable.specs.declared.store.Store.{Store}
use Rattle.durable.specs.Ready.{HoldsHistory}
use Rattle.durable.specs.Stands.{StandsFor}
use Rattle.durable.specs.Settled.{device_of, IsFound, IsSettledAt, LeavesSome}
use Rattle.durable.proofs.Findings.{found_none}
use Rattle.httpmsg.specs.declared.head.End.{End}
use Rattle.httpmsg.specs.Stream.{Message, Progress, IsCut}
use Rattle.httpmsg.proofs.Cuts.{awaits_first, awaits_now}
use Rattle.routes.specs.ReplyBytes.{closing_bytes}
use Rattle.api.specs.Answers.{Answered, messages, AreRead, all_writes, all_bytes, HasApplied}
use Rattle.api.specs.Serving.{IsClosing, HasEnded, HasReadSome, HasWrittenSome, HasFailed, HasLackedMemory, Exchanged}
use Rattle.api.specs.declared.fault.ServeFault.{ServeFault}
use Rattle.api.specs.declared.fault.ServeFault.TheVariants as serve_fault
use Rattle.store.specs.declared.fault.AnswerFault.TheVariants as answer_fault
use Rattle.store.specs.Whole.{HasAnswered, HasEndedEarly, IsCaused, IsUndamaged, HasStoppedAt}

-- what follows of an exchange from what held of it
exchanged_as : {I O : Type 0} {gave : I → I → List ℕ → Type 0} {took : O → O → List ℕ → Type 0} {i j : I} {o p : O} {P Q : List ℕ → List ℕ → Type 0}
    → ((read written : List ℕ) → P read written → Q read written) → Exchanged gave took i j o p P → Exchanged gave took i j o p Q
exchanged_as f e = record { read = e.read; written = e.written; gave_them = e.gave_them; took_them = e.took_them; holds = f e.read e.written e.holds }

-- all the kept writes, and none of the next
pub found_kept : (rules : Rules) (h : History) (kept : List Write) (c : List ℕ) → StandsFor rules c (h ++ kept) → IsFound rules h kept kept c
found_kept rules h kept c stands =
    let At : List Write → Type 0 = λ ws. StandsFor rules c (h ++ ws) in
    record { more = []; rest = []; parts = sym (append-nil kept); stands = subst At (sym (append-nil kept)) stands }

-- ---- a call that ends early

module _ {D : Type 0} (rules : Rules) (disk : Disk D) (old new : D) (h : History) (device_failed output_failed : Type 0) where
  -- What stands on the device where all of these messages were tried, and the first of them answered.
  record Stands (answered all : List Answered) : Type 0 where
    specified : AreRead rules.format all
    admitted : AreAdmitted rules (view rules h) (all_writes rules (view rules h) all)
    found : IsFound rules h (all_writes rules (view rules h) answered) (all_writes rules (view rules h) all) (disk.content new)
    left : (c : List ℕ) → disk.left new c → IsFound rules h (all_writes rules (view rules h) answered) (all_writes rules (view rules h) all) c
    moments : LeavesOnly disk old new (IsFound rules h [] (all_writes rules (view rules h) all))

  -- the device met no failure
  ended_sound : {read written : List ℕ} (answered : List Answered) (waiting : List Message) (cut uncut : List ℕ) → read ≡ cut ++ uncut → (progress : Progress)
      → IsCut cut (messages answered ++ waiting) progress → (closing : List ℕ) → (closing ≡ []) ⊎ ((waiting ≡ []) × IsClosing cut (messages answered) closing)
      → (unwritten : List ℕ) → all_bytes rules (view rules h) answered ++ closing ≡ written ++ unwritten → (unwritten ≡ []) ⊎ output_failed
      → AreRead rules.format answered → AreAdmitted rules (view rules h) (all_writes rules (view rules h) answered) → HoldsHistory rules disk new (h ++ all_writes rules (view rules h) answered)
      → LeavesOnly disk old new (IsFound rules h [] (all_writes rules (view rules h) answered))
      → HasEndedEarly rules disk old new h device_failed output_failed read written
  ended_sound answered waiting cut uncut parts progress stream closing closes unwritten text whole specified admitted holds moments =
      let writes : List Write = all_writes rules (view rules h) answered in
      let stands : Stands answered (answered ++ []) =
      subst (Stands answered) (sym (append-nil answered)) (record {
        specified = specified;
        admitted = admitted;
        found = found_kept rules h writes _ holds.read;
        left = λ c l. found_kept rules h writes c (holds.left c l);
        moments = moments;
      })
      in
      record {
        answered = answered;
        failing = [];
        waiting = waiting;
        cut = cut;
        uncut = uncut;
        parts = parts;
        progress = progress;
        stream = stream;
        closing = closing;
        closes = inl (refl, closes);
        unwritten = unwritten;
        text = text;
        whole = whole;
        specified = stands.specified;
        admitted = stands.admitted;
        keeps = holds.keeps;
        found = stands.found;
        left = stands.left;
        moments = stands.moments;
      }

  -- nothing was read of the input, and nothing written to the output
  ended_before : {I O : Type 0} (gave : I → I → List ℕ → Type 0) (took : O → O → List ℕ → Type 0) (i : I) (o : O) → gave i i [] → took o o []
      → HoldsHistory rules disk new h → LeavesOnly disk old new (disk.left old) → ((c : List ℕ) → disk.left old c → StandsFor rules c h)
      → Exchanged gave took i i o o (HasEndedEarly rules disk old new h device_failed output_failed)
  ended_before gave took i o given taken holds moments stands =
      let Holds : History → Type 0 = λ x. HoldsHistory rules disk new x in
      record {
        read = [];
        written = [];
        gave_them = given;
        took_them = taken;
        holds =
            ended_sound [] [] [] [] refl (record { pending = []; end = None }) (refl, (awaits_now [] 1 (awaits_first [] refl)).1) [] (inl refl) [] refl (inl refl) tt tt
            (subst Holds (sym (append-nil h)) holds) (weaker disk old new (disk.left old) (IsFound rules h [] []) moments (λ c l. found_none rules h [] c (stands c l)));
      }

-- no store was opened
pub stopped_before : {D : Type 0} (rules : Rules) (disk : Disk D) (old new : D) (h : History) → HoldsHistory rules disk old h → LeavesOnly disk old new (disk.left old)
    → disk.keeps new × (disk.content new ≡ disk.content old) → ((c : List ℕ) → disk.left new c → disk.left old c) → {I O : Type 0} (gave : I → I → List ℕ → Type 0)
    (took : O → O → List ℕ → Type 0) (i : I) (o : O) → gave i i [] → took o o [] → (device_failed output_failed : Type 0)
    → Exchanged gave took i i o o (HasEndedEarly rules disk old new h device_failed output_failed)
stopped_before rules disk old new h holds moments same left gave took i o given taken device_failed output_failed =
    let For : List ℕ → Type 0 = λ c. StandsFor rules c h in
    ended_before rules disk old new h device_failed output_failed gave took i o given taken
    (record { keeps = same.0; read = subst For (sym same.1) holds.read; left = λ c l. holds.left c (left c l) }) moments holds.left

-- ---- a store was opened on the device, and served

module _ {D : Type 0} {g : Ghosts D} (rules : Rules) (old : D) (opened new : Store D g) (h : History) (holds : HoldsHistory rules g.disk old h) (settled : IsSettledAt rules opened h)
    (opening : LeavesOnly g.disk old (device_of opened) (g.disk.left old)) where
  -- from the opening on
  moments_since : (writes : List Write) → LeavesSome rules opened new h writes → LeavesOnly g.disk old (device_of new) (IsFound rules h [] writes)
  moments_since writes serving =
      followed_by g.disk old (device_of opened) (device_of new) (g.disk.left old) (IsFound rules h [] writes) (IsFound rules h [] writes) opening serving
      (λ c l. found_none rules h writes c (holds.left c l)) (λ c found. found)

  -- the device holds what was answered
  holds_after : (answered : List Answered) → HasApplied rules opened new (view rules h) answered
      → HoldsHistory rules g.disk (device_of new) (h ++ all_writes rules (view rules h) answered)
  holds_after answered applied = let after = applied.settled h refl settled in record { keeps = after.keeps; read = after.read; left = after.left }

  whole : {read written : List ℕ} {ended : Type 0} {end : End} → HasEnded rules opened new (view rules h) read written ended end
      → HasAnswered rules g.disk old (device_of new) h ended read written
  whole {end = end} served =
      record {
        answered = served.answered;
        end = end;
        stream = served.stream;
        text = served.text;
        specified = served.store.specified;
        admitted = served.store.admitted;
        found = holds_after served.answered served.store;
        moments = moments_since _ (served.store.moments h refl settled);
      }

  -- what was exchanged, with the device that is given back
  pub answered_whole : {I O : Type 0} (gave : I → I → List ℕ → Type 0) (took : O → O → List ℕ → Type 0) (i j : I) (o p : O) (ended : Type 0) (end : End) (left : D) → left ≡ device_of new
      → Exchanged gave took i j o p (λ read written. HasEnded rules opened new (view rules h) read written ended end)
      → Exchanged gave took i j o p (HasAnswered rules g.disk old left h ended)
  answered_whole gave took i j o p ended end left is exchanged =
      let At : D → Type 0 = λ d. Exchanged gave took i j o p (HasAnswered rules g.disk old d h ended) in
      subst At (sym is) (exchanged_as (λ read written served. whole served) exchanged)

  -- Serving ended early.
  module _ (device_failed output_failed : Type 0) where
    input_fails : {read written : List ℕ} → HasReadSome rules opened new (view rules h) read written
        → HasEndedEarly rules g.disk old (device_of new) h device_failed output_failed read written
    input_fails {read} {written} some =
        let Cut : List Message → Type 0 = λ ms. IsCut read ms (record { pending = some.stream.0; end = None }) in
        ended_sound rules g.disk old (device_of new) h device_failed output_failed some.answered [] read [] (sym (append-nil read)) _
        (subst Cut (sym (append-nil (messages some.answered))) some.stream.1) [] (inl refl) []
        (append-nil (all_bytes rules (view rules h) some.answered) ∙ (sym some.text ∙ sym (append-nil written))) (inl refl) some.store.specified some.store.admitted
        (holds_after some.answered some.store) (moments_since _ (some.store.moments h refl settled))

    output_fails : {read written : List ℕ} → output_failed → HasWrittenSome rules opened new (view rules h) read written
        → HasEndedEarly rules g.disk old (device_of new) h device_failed output_failed read written
    output_fails grown some =
        ended_sound rules g.disk old (device_of new) h device_failed output_failed some.answered some.waiting some.cut some.uncut some.parts some.progress some.stream some.closing
        some.closes some.unwritten some.text (inr grown) some.store.specified some.store.admitted (holds_after some.answered some.store)
        (moments_since _ (some.store.moments h refl settled))

    memory_lacks : {read written : List ℕ} → HasLackedMemory rules opened new (view rules h) read written
        → HasEndedEarly rules g.disk old (device_of new) h device_failed output_failed read written
    memory_lacks {written = written} some =
        let Cut : List Message → Type 0 = λ ms. IsCut some.cut ms some.progress in
        ended_sound rules g.disk old (device_of new) h device_failed output_failed some.answered [] some.cut some.uncut some.parts some.progress
        (subst Cut (sym (append-nil (messages some.answered))) some.stream) (closing_bytes false OutOfMemory) (inr (refl, inr refl)) []
        (sym some.text ∙ sym (append-nil written)) (inl refl) some.store.specified some.store.admitted (holds_after some.answered some.store)
        (moments_since _ (some.store.moments h refl settled))

    device_fails : {read written : List ℕ} {m n : ℕ} → device_failed → (HasGrown m n → output_failed) → HasFailed rules opened new (view rules h) read written m n
        → HasEndedEarly rules g.disk old (device_of new) h device_failed output_failed read written
    device_fails {read} grown told failed =
        let left = failed.store.left h refl settled in
        let replies : List ℕ = all_bytes rules (view rules h) failed.answered in
        record {
          answered = failed.answered;
          failing = failed.failing;
          waiting = failed.waiting;
          cut = read;
          uncut = [];
          parts = sym (append-nil read);
          progress = failed.progress;
          stream = failed.stream;
          closing = closing_bytes false StorageFailed;
          closes = inr (grown, (failed.store.some, failed.store.few, refl));
          unwritten = failed.unwritten;
          text = ap (λ c. replies ++ c) failed.refusal ∙ (sym (append_assoc replies failed.closing failed.unwritten) ∙ ap (λ w. w ++ failed.unwritten) (sym failed.text));
          whole = ⊎_elim (λ all. inl all) (λ grown. inr (told grown)) failed.whole;
          specified = failed.store.specified;
          admitted = failed.store.admitted;
          keeps = left.keeps;
          found = left.read;
          left = left.left;
          moments = moments_since _ (failed.store.moments h refl settled);
        }

  -- and how it ended
  module _ {I O : Type 0} (gave : I → I → List ℕ → Type 0) (took : O → O → List ℕ → Type 0) (failures : O → ℕ) (i j : I) (o p : O) (r : Result End ServeFault)
      (read : IsErrOf r serve_fault.Read → Exchanged gave took i j o p (HasReadSome rules opened new (view rules h)))
      (written : IsErrOf r serve_fault.Write → Exchanged gave took i j o p (HasWrittenSome rules opened new (view rules h)))
      (failed : IsErrOf r serve_fault.Device ⊎ IsErrOf r serve_fault.Failed
      → Exchanged gave took i j o p (λ read written. HasFailed rules opened new (view rules h) read written (failures o) (failures p)))
      (lacked : IsErrOf r serve_fault.Memory → ((j ≡ i) × (p ≡ o) × (new ≡ opened)) ⊎ Exchanged gave took i j o p (HasLackedMemory rules opened new (view rules h)))
      (given : gave i i []) (taken : took o o []) (device_failed : D → Type 0) (written_cause : IsErrOf r serve_fault.Write → HasGrown (failures o) (failures p))
      (failed_cause : IsErrOf r serve_fault.Device → device_failed (device_of new)) (never_damaged : (damage : Damage) → r ≡ Err (serve_fault.Damaged damage) → ⊥)
      (never_failed : IsErrOf r serve_fault.Failed → ⊥) where
    abbrev Early : I → O → D → Type 0
    Early y q d = Exchanged gave took i y o q (HasEndedEarly rules g.disk old d h (device_failed d) (HasGrown (failures o) (failures q)))

    serving_stops : (f : ServeFault) → r ≡ Err f → Early j p (device_of new)
    serving_stops serve_fault.Read is = exchanged_as (λ r w some. input_fails _ _ some) (read is)
    serving_stops serve_fault.Write is = exchanged_as (λ r w some. output_fails _ _ (written_cause is) some) (written is)
    serving_stops serve_fault.Device is = exchanged_as (λ r w some. device_fails _ _ (failed_cause is) (λ grown. grown) some) (failed (inl is))
    serving_stops serve_fault.Memory is =
        let Now : I → Type 0 = λ y. Early y p (device_of new) in
        let Here : O → Type 0 = λ q. Early i q (device_of new) in
        let At : Store D g → Type 0 = λ s. Early i o (device_of s) in
        ⊎_elim (λ same. subst Now (sym same.0) (subst Here (sym same.1) (subst At (sym same.2) (ended_before rules g.disk old (device_of opened) h _ _ gave took i o given taken
        (record { keeps = settled.keeps; read = settled.read; left = settled.left }) opening holds.left)))) (λ exchanged. exchanged_as (λ r w some. memory_lacks _ _ some) exchanged) (lacked is)
    serving_stops (serve_fault.Damaged damage) is = absurd (never_damaged damage is)
    serving_stops serve_fault.Failed is = absurd (never_failed is)

    -- with the device that is given back
    pub stopped_serving : (f : ServeFault) → r ≡ Err f → (left : D) → left ≡ device_of new → Early j p left
    stopped_serving f is left same =
        let At : D → Type 0 = λ d. Early j p d in
        subst At (sym same) (serving_stops f is)

-- ---- why a call ends early

pub opening_caused : (d i o : Type 0) (f : Fault) → (f ≢ fault.Failed) × (f ≢ fault.Exhausted) → (f ≡ fault.Device → d) → IsCaused (answer_fault.Opening f) d i o
opening_caused d i o fault.Device never failed = failed refl
opening_caused d i o fault.Memory never failed = tt
opening_caused d i o (fault.Damaged damage) never failed = tt
opening_caused d i o fault.Failed never failed = absurd (never.0 refl)
opening_caused d i o fault.Exhausted never failed = absurd (never.1 refl)

pub opening_undamaged : (f : Fault) → (f ≡ fault.Device) ⊎ (f ≡ fault.Memory) → IsUndamaged (answer_fault.Opening f)
opening_undamaged fault.Device which = tt
opening_undamaged fault.Memory which = tt
opening_undamaged (fault.Damaged damage) which = ⊎_elim (λ is. cc) (λ is. cc) which
opening_undamaged fault.Failed which = tt
opening_undamaged fault.Exhausted which = tt

pub serving_caused : (d i o : Type 0) (r : Result End ServeFault) (f : ServeFault) → r ≡ Err f → (IsErrOf r serve_fault.Read → i) → (IsErrOf r serve_fault.Write → o) → (IsErrOf r serve_fault.Device → d)
    → (IsErrOf r serve_fault.Failed → ⊥) → IsCaused (answer_fault.Serving f) d i o
serving_caused d i o r serve_fault.Read is read written device failed = read is
serving_caused d i o r serve_fault.Write is read written device failed = written is
serving_caused d i o r serve_fault.Device is read written device failed = device is
serving_caused d i o r serve_fault.Memory is read written device failed = tt
serving_caused d i o r (serve_fault.Damaged damage) is read written device failed = tt
serving_caused d i o r serve_fault.Failed is read written device failed = failed is

pub serving_undamaged : (r : Result End ServeFault) (f : ServeFault) → r ≡ Err f → ((damage : Damage) → r ≡ Err (serve_fault.Damaged damage) → ⊥) → IsUndamaged (answer_fault.Serving f)
serving_undamaged r serve_fault.Read is never = tt
serving_undamaged r serve_fault.Write is never = tt
serving_undamaged r serve_fault.Device is never = tt
serving_undamaged r serve_fault.Memory is never = tt
serving_undamaged r (serve_fault.Damaged damage) is never = absurd (never damage is)
serving_undamaged r serve_fault.Failed is never = tt

-- ---- with the store between

-- how serving stops, by its fault
pub stopped_at : {I O D : Type 0} {g : Ghosts D} (gave : I → I → List ℕ → Type 0) (took : O → O → List ℕ → Type 0) (failures : O → ℕ) (i j : I) (o p : O) (opened served : Store D g) (rules : Rules)
    (v : View) (r : Result End ServeFault) → (IsErrOf r serve_fault.Read → Exchanged gave took i j o p (HasReadSome rules opened served v))
    → (IsErrOf r serve_fault.Write → Exchanged gave took i j o p (HasWrittenSome rules opened served v))
    → (IsErrOf r serve_fault.Device ⊎ IsErrOf r serve_fault.Failed → Exchanged gave took i j o p (λ read written. HasFailed rules opened served v read written (failures o) (failures p)))
    → (IsErrOf r serve_fault.Memory → ((j ≡ i) × (p ≡ o) × (served ≡ opened)) ⊎ Exchanged gave took i j o p (HasLackedMemory rules opened served v))
    → ((damage : Damage) → r ≡ Err (serve_fault.Damaged damage) → ⊥) → (f : ServeFault) → r ≡ Err f → HasStoppedAt gave took i j o p opened served rules v failures f
stopped_at gave took failures i j o p opened served rules v r read written failed lacked never_damaged serve_fault.Read is = inr (read is)
stopped_at gave took failures i j o p opened served rules v r read written failed lacked never_damaged serve_fault.Write is = inr (written is)
stopped_at gave took failures i j o p opened served rules v r read written failed lacked never_damaged serve_fault.Device is = inr (failed (inl is))
stopped_at gave took failures i j o p opened served rules v r read written failed lacked never_damaged serve_fault.Memory is =
    ⊎_elim (λ same. inl (refl, same.0, same.1, same.2)) (λ exchanged. inr exchanged) (lacked is)
stopped_at gave took failures i j o p opened served rules v r read written failed lacked never_damaged (serve_fault.Damaged damage) is = absurd (never_damaged damage is)
stopped_at gave took failures i j o p opened served rules v r read written failed lacked never_damaged serve_fault.Failed is = inr (failed (inr is))
