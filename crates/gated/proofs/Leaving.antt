-- What a command that failed left of the device behind its file.
use Rattle.std.proofs.Common.{arith, ◌≡◌, ◌≢◌, sym, subst, refl, ◌⊎◌, inl, inr, ⊎_elim, ℕ, List, [], ◌++◌, Option, Result, Ok, Err, IfErr, OnOk, OnErr, IsErrOf}
use Rattle.std.proofs.lemmas.List.{append-nil}
use Rattle.device.specs.declared.device.Device.{Ghosts}
use Rattle.device.specs.Disk.{Disk, LeavesOnly}
use Rattle.device.proofs.Moments.{weaker, followed_by}
use Rattle.names.specs.declared.format.Rules.{Rules}
use Rattle.histories.specs.View.{view}
use Rattle.decoded.specs.Standing.{History, View, Write}
use Rattle.apicore.specs.Admitted.{AreAdmitted}
use Rattle.durable.specs.declared.compacted.Checked.{Checked}
use Rattle.durable.specs.declared.compacted.Compacted.{Compacted}
use Rattle.durable.specs.declared.fault.Damage.{Damage}
use Rattle.durable.specs.declared.store.Store.{Store}
use Rattle.durable.specs.declared.upgraded.Upgraded.{Upgraded}
use Rattle.durable.specs.Ready.{HoldsHistory}
use Rattle.durable.specs.Settled.{device_of, IsFound, IsSettledAt}
use Rattle.durable.specs.Stands.{StandsFor}
use Rattle.durable.proofs.Findings.{found_none}
use Rattle.api.specs.declared.fault.ServeFault.{ServeFault}
use Rattle.api.specs.declared.fault.ServeFault.TheVariants as serve_fault
use Rattle.api.specs.Answers.{Answered, AreRead, ShowsAt, all_writes}
use Rattle.api.specs.Serving.{Exchanged, HasFailed, HasLackedMemory, HasReadSome, HasWrittenSome}
use Rattle.clients.specs.declared.fault.ClientsFault.{ClientsFault}
use Rattle.clients.specs.declared.fault.ClientsFault.TheVariants as clients_fault
use Rattle.clients.specs.Serving.{HasServedSome, HasFailedAt, StopsClients}
use Rattle.clients.proofs.Served.{served_none, served_then, stops_after}
use Rattle.store.specs.Upkeep.{KeepsHistory, IsUpgraded, IsEither}
use Rattle.store.proofs.Whole.{found_kept}
use Rattle.damage.specs.declared.place.Place.{Place}
use Rattle.gated.specs.Doing.{FoundDamaged, FoundWhole, HasServedAll, IsOpened, UpgradedStore, WroteAnew}
use Rattle.gated.specs.Left.{HasLeft, HasServedPart, HasServedUpTo, HasServedUntil}
use Rattle.gated.proofs.Served.{read_some, wrote_some, some_after}

-- what holds of both stands where there is an error
pub on_err : {T E P : Type 0} (r : Result T E) → P → OnErr r P
on_err (Ok x) holds = tt
on_err (Err e) holds = holds

-- where there is none
pub on_ok : {T E P : Type 0} (r : Result T E) → P → OnOk r P
on_ok (Ok x) holds = holds
on_ok (Err e) holds = tt

-- and what holds of each of its kind
pub on_each : {T E : Type 0} {P : E → Type 0} (r : Result T E) → ((e : E) → P e) → IfErr r P
on_each (Ok x) holds = tt
on_each (Err e) holds = holds e

-- and what holds of more where it holds of less
pub until_from : {T E : Type 0} (A B : Type 0) (r : Result T E) → OnErr r A → OnErr r (A ⊎ B)
until_from A B (Ok x) holds = tt
until_from A B (Err e) holds = inl holds

-- ---- what is left of a history

-- one that is kept has no write more
pub kept_part : {D : Type 0} (rules : Rules) (disk : Disk D) (old new : D) (h : History) → KeepsHistory rules disk old new h → HasServedPart rules disk old new h
kept_part rules disk old new h kept = record {
  answered = [];
  failing = [];
  few = omega arith;
  specified = tt;
  admitted = tt;
  keeps = kept.holds.keeps;
  found = found_none rules h [] _ kept.holds.read;
  left = λ c l. found_none rules h [] c (kept.holds.left c l);
  moments = weaker disk old new (λ c. StandsFor rules c h) (IsFound rules h [] []) kept.any_moment (λ c stands. found_none rules h [] c stands);
}

-- where the device failed at none
pub all_part : {D : Type 0} (rules : Rules) (disk : Disk D) (old new : D) (h : History) → HasServedAll rules disk old new h → HasServedPart rules disk old new h
all_part rules disk old new h all =
    let ws : List Answered → List Write = λ answered. all_writes rules (view rules h) answered in
    let same : all.answered ≡ all.answered ++ [] = sym (append-nil all.answered) in
    let Admitted : List Answered → Type 0 = λ answered. AreAdmitted rules (view rules h) (ws answered) in
    let Found : List ℕ → List Answered → Type 0 = λ c tried. IsFound rules h (ws all.answered) (ws tried) c in
    let Moments : List Answered → Type 0 = λ answered. LeavesOnly disk old new (IsFound rules h [] (ws answered)) in
    record {
      answered = all.answered;
      failing = [];
      few = omega arith;
      specified = subst (AreRead rules.format) same all.specified;
      admitted = subst Admitted same all.admitted;
      keeps = all.holds.keeps;
      found = subst (Found (disk.content new)) same (found_kept rules h (ws all.answered) _ all.holds.read);
      left = λ c l. subst (Found c) same (found_kept rules h (ws all.answered) c (all.holds.left c l));
      moments = subst Moments same all.moments;
    }

-- an upgraded one is one of the two
pub upgraded_either : {D : Type 0} (rules : Rules) (disk : Disk D) (old new : D) (h : History) → IsUpgraded rules disk old new h → IsEither rules disk old new h
upgraded_either rules disk old new h is = record {
  keeps = is.holds.keeps;
  read = inr is.holds.read;
  left = λ c l. inr (is.holds.left c l);
  any_moment = is.any_moment;
}

-- ---- a connection

module _ {D : Type 0} {g : Ghosts D} (rules : Rules) (old new : Store D g) (v : View) where
  pub failed_at : {I O : Type 0} {gave : I → I → List ℕ → Type 0} {took : O → O → List ℕ → Type 0} {i j : I} {o p : O} (m n : ℕ)
      → Exchanged gave took i j o p (λ read written. HasFailed rules old new v read written m n) → HasFailedAt rules old new v
  failed_at m n e = record { answered = e.holds.answered; failing = e.holds.failing; store = e.holds.store }

  pub lacked_some : {I O : Type 0} {gave : I → I → List ℕ → Type 0} {took : O → O → List ℕ → Type 0} {i j : I} {o p : O}
      → Exchanged gave took i j o p (HasLackedMemory rules old new v) → HasServedSome rules old new v
  lacked_some e = record { answered = e.holds.answered; store = e.holds.store }

  -- where nothing was served, or memory was refused later
  lacked_up_to : {I O : Type 0} {gave : I → I → List ℕ → Type 0} {took : O → O → List ℕ → Type 0} {i j : I} {o p : O} → ShowsAt rules old v
      → (g.disk.keeps (device_of old) → (c : List ℕ) → g.disk.since (device_of old) (g.disk.moment (device_of old)) c → g.disk.left (device_of old) c)
      → ((j ≡ i) × (p ≡ o) × (new ≡ old)) ⊎ Exchanged gave took i j o p (HasLackedMemory rules old new v) → HasServedSome rules old new v
  lacked_up_to shows only_now lacked =
      let To : Store D g → Type 0 = λ store. HasServedSome rules old store v in
      ⊎_elim (λ same. subst To (sym same.2) (served_none rules old v shows only_now)) lacked_some lacked

  -- a connection that was served up to a fault
  pub stopped_up_to : {I O T : Type 0} {gave : I → I → List ℕ → Type 0} {took : O → O → List ℕ → Type 0} {i j : I} {o p : O} (m n : ℕ)
      → ((c : List ℕ) → g.disk.keeps (device_of old) → g.disk.since (device_of old) (g.disk.moment (device_of old)) c → g.disk.left (device_of old) c) → ShowsAt rules old v
      → (r : Result T ServeFault) → (IsErrOf r serve_fault.Read → Exchanged gave took i j o p (HasReadSome rules old new v))
      → (IsErrOf r serve_fault.Write → Exchanged gave took i j o p (HasWrittenSome rules old new v))
      → (IsErrOf r serve_fault.Device ⊎ IsErrOf r serve_fault.Failed → Exchanged gave took i j o p (λ read written. HasFailed rules old new v read written m n))
      → (IsErrOf r serve_fault.Memory → ((j ≡ i) × (p ≡ o) × (new ≡ old)) ⊎ Exchanged gave took i j o p (HasLackedMemory rules old new v))
      → ((damage : Damage) → r ≢ Err (serve_fault.Damaged damage)) → (fault : ServeFault) → r ≡ Err fault → HasServedUpTo rules old new v
  stopped_up_to m n only_now shows r read write device memory never serve_fault.Read is = inl (read_some rules old new v (read is))
  stopped_up_to m n only_now shows r read write device memory never serve_fault.Write is = inl (wrote_some rules old new v (write is))
  stopped_up_to m n only_now shows r read write device memory never serve_fault.Device is = inr (failed_at m n (device (inl is)))
  stopped_up_to m n only_now shows r read write device memory never serve_fault.Memory is =
      inl (lacked_up_to shows (λ keeps content since. only_now content keeps since) (memory is))
  stopped_up_to m n only_now shows r read write device memory never (serve_fault.Damaged damage) is = absurd (never damage is)
  stopped_up_to m n only_now shows r read write device memory never serve_fault.Failed is = inr (failed_at m n (device (inr is)))

  -- clients that were served, up to a fault
  pub clients_up_to : (fault : ClientsFault) → StopsClients rules old new v fault → HasServedUntil rules old new v
  clients_up_to clients_fault.Network stops = inl (inl stops)
  clients_up_to (clients_fault.Store serve_fault.Read) stops = absurd stops
  clients_up_to (clients_fault.Store serve_fault.Write) stops = absurd stops
  clients_up_to (clients_fault.Store serve_fault.Device) stops = inl (inr stops)
  clients_up_to (clients_fault.Store serve_fault.Memory) stops = absurd stops
  clients_up_to (clients_fault.Store (serve_fault.Damaged damage)) stops = absurd stops
  clients_up_to (clients_fault.Store serve_fault.Failed) stops = inl (inr stops)
  clients_up_to (clients_fault.Compaction fault) stops = inr stops

-- connections, and then one that is served up to a fault
pub up_to_after : {D : Type 0} {g : Ghosts D} (rules : Rules) (old mid new : Store D g) (v : View) (before : HasServedSome rules old mid v)
    → ((w : View) → ShowsAt rules mid w → HasServedUpTo rules mid new w) → HasServedUpTo rules old new v
up_to_after rules old mid new v before after =
    ⊎_elim (λ some. inl (served_then rules old mid new v before some))
    (λ failed. inr (stops_after rules old mid new v serve_fault.Device before failed)) (after _ before.store.shows)

-- ---- on the device under a name

module _ {S D : Type 0} (disk : Disk D) (missed : S → List ℕ → Type 0) (opened closed : S → List ℕ → D → Type 0) (storage : S) (name : List ℕ) where
  pub left_weaker : (A B : Rules → (old new : D) → History → Type 0) → ((rules : Rules) (old new : D) (h : History) → A rules old new h → B rules old new h)
      → HasLeft disk missed opened closed storage name A → HasLeft disk missed opened closed storage name B
  left_weaker A B to (inl none) = inl none
  left_weaker A B to (inr given) = inr (record {
    found = given.found;
    left = given.left;
    was_opened = given.was_opened;
    was_closed = given.was_closed;
    is_so = λ rules h holds. to rules given.found given.left h (given.is_so rules h holds);
  })

  module _ (made : S → List ℕ → D → Type 0) where
    -- what was done before it could not be told
    pub wrote_left : (c : Compacted) → WroteAnew disk made opened closed storage name c → HasLeft disk missed opened closed storage name (λ rules old new h. KeepsHistory rules disk old new h)
    wrote_left c wrote = inr (record { found = wrote.found; left = wrote.left; was_opened = wrote.was_opened; was_closed = wrote.was_closed; is_so = wrote.keeps })

    pub upgraded_left : (u : Upgraded) → UpgradedStore disk made opened closed storage name u → HasLeft disk missed opened closed storage name (λ rules old new h. IsEither rules disk old new h)
    upgraded_left u upgraded = inr (record {
      found = upgraded.found;
      left = upgraded.left;
      was_opened = upgraded.was_opened;
      was_closed = upgraded.was_closed;
      is_so = λ rules h holds. upgraded_either rules disk upgraded.found upgraded.left h (upgraded.upgraded rules h holds);
    })

    pub damaged_left : (damage : Damage) (told : Option Place) → FoundDamaged disk made opened closed storage name damage told
        → HasLeft disk missed opened closed storage name (λ rules old new h. KeepsHistory rules disk old new h)
    damaged_left damage told damaged = inr (record {
      found = damaged.found;
      left = damaged.left;
      was_opened = damaged.was_opened;
      was_closed = damaged.was_closed;
      is_so = λ rules h holds. absurd (damaged.none rules h holds);
    })

    pub whole_left : (c : Checked) → FoundWhole disk made opened closed storage name c → HasLeft disk missed opened closed storage name (λ rules old new h. KeepsHistory rules disk old new h)
    whole_left c whole = inr (record { found = whole.found; left = whole.left; was_opened = whole.was_opened; was_closed = whole.was_closed; is_so = whole.keeps })

-- ---- a store that served

module _ {S D : Type 0} {g : Ghosts D} (missed : S → List ℕ → Type 0) (opened closed : S → List ℕ → D → Type 0) (storage : S) (name : List ℕ) (first last : Store D g)
    (is : IsOpened opened storage name first) (left : D) (same : left ≡ device_of last) where
  part_after : ((rules : Rules) (h : History) → IsSettledAt rules first h → HasServedUntil rules first last (view rules h)) → (rules : Rules) (h : History) → HoldsHistory rules g.disk is.found h
      → HasServedPart rules g.disk is.found left h
  part_after served rules h holds =
      let settled : IsSettledAt rules first h = is.settled rules h holds in
      ⊎_elim
      (⊎_elim
      (λ some. all_part rules g.disk is.found left h (some_after opened storage name first last is left same rules h holds settled some))
      (λ failed.
      let at = failed.store.left h refl settled in
      let At : D → Type 0 = λ d. HasServedPart rules g.disk is.found d h in
      subst At (sym same) (record {
        answered = failed.answered;
        failing = failed.failing;
        few = failed.store.few;
        specified = failed.store.specified;
        admitted = failed.store.admitted;
        keeps = at.keeps;
        found = at.read;
        left = at.left;
        moments = followed_by g.disk is.found (device_of first) (device_of last) (g.disk.left is.found) (IsFound rules h [] _) (IsFound rules h [] _)
            (is.moments holds.keeps) (failed.store.moments h refl settled) (λ c l. found_none rules h _ c (holds.left c l)) (λ c found. found);
      })))
      (λ stopped.
      let at = stopped.left h refl settled in
      let same_list : stopped.answered ≡ stopped.answered ++ [] = sym (append-nil stopped.answered) in
      let ws : List Answered → List Write = λ answered. all_writes rules (view rules h) answered in
      let At : D → Type 0 = λ d. HasServedPart rules g.disk is.found d h in
      subst At (sym same) (record {
        answered = stopped.answered;
        failing = [];
        few = omega arith;
        specified = subst (AreRead rules.format) same_list stopped.specified;
        admitted = subst (λ a. AreAdmitted rules (view rules h) (ws a)) same_list stopped.admitted;
        keeps = at.keeps;
        found = subst (λ a. IsFound rules h (ws stopped.answered) (ws a) (g.disk.content (device_of last))) same_list at.read;
        left = λ c l. subst (λ a. IsFound rules h (ws stopped.answered) (ws a) c) same_list (at.left c l);
        moments = subst (λ a. LeavesOnly g.disk is.found (device_of last) (IsFound rules h [] (ws a))) same_list
            (followed_by g.disk is.found (device_of first) (device_of last) (g.disk.left is.found) (IsFound rules h [] (ws stopped.answered)) (IsFound rules h [] (ws stopped.answered))
            (is.moments holds.keeps) (stopped.moments h refl settled) (λ c l. found_none rules h _ c (holds.left c l)) (λ c found. found));
      }))
      (served rules h settled)

  pub left_file : closed storage name left → {T E : Type 0} (r : Result T E) → ((rules : Rules) (h : History) → IsSettledAt rules first h → OnErr r (HasServedUntil rules first last (view rules h)))
      → OnErr r (HasLeft g.disk missed opened closed storage name (λ rules old new h. HasServedPart rules g.disk old new h))
  left_file was_closed (Ok x) served = tt
  left_file was_closed (Err e) served = inr (record {
    found = is.found;
    left = left;
    was_opened = is.was_opened;
    was_closed = was_closed;
    is_so = part_after served;
  })
