-- A whole run of the loop that serves clients, turn after turn.
use Rattle.std.proofs.Common.{arith, ◌≡◌, ◌∙◌, sym, ap, refl, subst, false, inl, inr, ◌⊎◌, ℕ, List, [], ◌∷◌, ◌++◌, map, length, Bool, true, Option, Some, None, Result, Ok, Err, if◌then◌else◌}
use Rattle.std.specs.Prelude.{MatchResult}
use Rattle.std.specs.List.{AllByRecursion}
use Rattle.std.proofs.lemmas.List.{append-nil, length-append, nil_from_length}
use Rattle.std.specs.declared.time.Duration.{Duration}
use Rattle.device.specs.declared.device.Device.{Ghosts}
use Rattle.names.specs.declared.format.Format.{Format}
use Rattle.names.specs.declared.format.Rules.{Rules}
use Rattle.histories.specs.View.{view}
use Rattle.decoded.specs.Standing.{History, View}
use Rattle.durable.specs.declared.store.Store.{Store}
use Rattle.durable.specs.Settled.{device_of, serves, IsSettledAt, IsLeftAt, LeavesSome}
use Rattle.api.specs.declared.fault.ServeFault.{ServeFault}
use Rattle.api.specs.declared.fault.ServeFault.TheVariants.{Read, Write, Device, Memory, Damaged, Failed}
use Rattle.api.specs.Answers.{Answered, ShowsAt, all_writes, HasApplied}
use Rattle.api.proofs.Folds.{seen, applied_then, applied_none, failed_then, left_after, moments_then, seen_view}
use Rattle.decoded.specs.Standing as standing
use Rattle.clients.specs.declared.fault.ClientsFault.{ClientsFault}
use Rattle.clients.specs.declared.fault.ClientsFault.TheVariants as clients_fault
use Rattle.clients.specs.declared.places.Places.{Places}
use Rattle.clients.specs.Serving.{HasServedSome, HasFailedAt, HasStoppedBetween, StopsClients}
use Rattle.clients.specs.Clients.{Client, IsHere, HasLeft, AreServed, HasNobody, ServesOn, WasLeft, EndsOn, ServesTurn, FailsTurn, StopsTurn, LeavesThem, HasServedClients, HasFailedClients, HasStoppedClients, StopsRun}
use Rattle.clients.proofs.Served.{compacted_applied}

-- without the flag nothing is restated
pub no_dialect : (is_kubernetes : Bool) (format : Format) (dialect : Option Format) → dialect ≡ (if is_kubernetes then Some format else None) → is_kubernetes ≡ false → dialect ≡ None
no_dialect true format dialect is plain = absurd cc
no_dialect false format dialect is plain = is

-- nobody more came
pub came_end : {N S : Type 0} (came : N → N → List S → Type 0)
    → ((old mid new : N) (first more : List S) → came old mid first → came mid new more → came old new (first ++ more))
    → (a b c : N) (streams : List S) → came a b streams → came b c [] → came a c streams
came_end came came_then a b c streams first none = subst (came a c) (append-nil streams) (came_then a b c streams [] first none)

module _ {S : Type 0} (moved : S → S → List ℕ → List ℕ → Type 0) (has_ended : S → Type 0) (failures : S → ℕ) (idle : Option Duration) (plain : Type 0) where
  -- nobody was served yet
  nobody_served : (rules : Rules) (v : View) (p : Places S) → HasNobody p → AreServed moved has_ended failures rules v [] [] idle p []
  nobody_served rules v p nobody = record { each = tt; fresh = nobody.fresh; rooms = nobody.rooms }

  -- a client that is served is known of, also once the store has failed
  served_is_left : (rules : Rules) (v : View) (places : List ℕ) (answered : List Answered) (p : Places S) (clients : List (Client S))
      → AllByRecursion (λ c. IsHere moved has_ended failures rules v places answered p c ⊎ HasLeft moved has_ended failures rules v places answered idle c) clients
      → AllByRecursion (WasLeft moved has_ended failures idle rules v places answered p) clients
  served_is_left rules v places answered p [] all = tt
  served_is_left rules v places answered p (c ∷ clients) all = (on all.0, served_is_left rules v places answered p clients all.1)
    where
      on : IsHere moved has_ended failures rules v places answered p c ⊎ HasLeft moved has_ended failures rules v places answered idle c
          → WasLeft moved has_ended failures idle rules v places answered p c
      on (inr left) = inl left
      on (inl here) = inr (
        record {
          earlier_places = here.earlier_places;
          earlier = here.earlier;
          own_places = here.own_places;
          own = here.own;
          places_are = here.places_are;
          are = here.are;
          exchanged = here.exchanged;
          served = inl here.served;
        },
        inl (record { line = here.line; there = here.there; last = here.last; state = here.state }),
      )

  module _ {D : Type 0} {g : Ghosts D} (rules : Rules) (a : Places S) where
    pub run_begins : (came : List S → Type 0) (store : Store D g) (v : View) → came [] → ShowsAt rules store v
        → (g.disk.keeps (device_of store) → (c : List ℕ) → g.disk.since (device_of store) (g.disk.moment (device_of store)) c → g.disk.left (device_of store) c)
        → HasServedClients moved has_ended failures idle came plain rules store store v a a
    run_begins came store v nobody_came shows only_now = record {
      places = [];
      answered = [];
      alike = refl;
      store = applied_none rules store v shows only_now;
      clients = λ is_plain nobody. record { clients = []; came_by = nobody_came; served = nobody_served rules v a nobody };
    }

    module _ (came came_now : List S → Type 0) (streams : List S) (came_on : (before : List S) → came before → came_now (before ++ streams))
        (old mid : Store D g) (v : View) (b c : Places S) (before : HasServedClients moved has_ended failures idle came plain rules old mid v a b)
        (comes : plain → ServesOn moved has_ended failures idle b c streams) where
      came_then : (x : List (Client S)) (y : List (Client S)) → map (λ (c : Client S). c.came) x ≡ map (λ (c : Client S). c.came) y ++ streams → came (map (λ (c : Client S). c.came) y)
          → came_now (map (λ (c : Client S). c.came) x)
      came_then x y is by = subst came_now (sym is) (came_on (map (λ (c : Client S). c.came) y) by)

      -- a turn
      pub run_turn : (new : Store D g) (d : Places S) → ServesTurn moved has_ended failures idle rules mid new (seen rules v before.answered) c d
          → HasServedClients moved has_ended failures idle came_now plain rules old new v a d
      run_turn new d turn = record {
        places = before.places ++ turn.more_places;
        answered = before.answered ++ turn.more;
        alike = length-append before.places turn.more_places ∙ omega (arith, before.alike, turn.alike) ∙ sym (length-append before.answered turn.more);
        store = applied_then rules old mid new v before.answered turn.more before.store turn.store;
        clients = λ is_plain nobody.
            let them = before.clients is_plain nobody in
            let now = comes is_plain rules v before.places before.answered them.clients before.alike them.served in
            let more = turn.on v before.places before.answered now.now refl before.alike now.served in
            record {
              clients = more.now;
              came_by = came_then more.now them.clients (more.came ∙ append-nil (map (λ (c : Client S). c.came) now.now) ∙ now.came) them.came_by;
              served = more.served;
            };
      }

      -- no turn
      pub run_waits : HasServedClients moved has_ended failures idle came_now plain rules old mid v a c
      run_waits = record {
        places = before.places;
        answered = before.answered;
        alike = before.alike;
        store = before.store;
        clients = λ is_plain nobody.
            let them = before.clients is_plain nobody in
            let now = comes is_plain rules v before.places before.answered them.clients before.alike them.served in
            record { clients = now.now; came_by = came_then now.now them.clients now.came them.came_by; served = now.served };
      }

      -- a turn at which the store fails, and what is sent last
      run_fails : (new : Store D g) (d e : Places S) → FailsTurn moved has_ended failures idle rules mid new (seen rules v before.answered) c d
          → EndsOn moved has_ended failures idle d e → HasFailedClients moved has_ended failures idle came_now plain rules old new v a e
      run_fails new d e turn ends = record {
        places = before.places ++ turn.more_places;
        answered = before.answered ++ turn.more;
        failing = turn.failing;
        store = failed_then rules old mid new v before.answered turn.more turn.failing before.store turn.store;
        clients = λ is_plain nobody.
            let them = before.clients is_plain nobody in
            let now = comes is_plain rules v before.places before.answered them.clients before.alike them.served in
            let more = turn.on v before.places before.answered now.now refl before.alike now.served in
            let last = ends rules v (before.places ++ turn.more_places) (before.answered ++ turn.more) more.now more.left in
            record { clients = last.now; came_by = came_then last.now them.clients (last.came ∙ more.came ∙ now.came) them.came_by; left = last.left };
      }

      pub run_stops : (new : Store D g) (d e : Places S) (fault : ServeFault)
          → StopsTurn moved has_ended failures idle rules mid new (seen rules v before.answered) c d fault → EndsOn moved has_ended failures idle d e
          → StopsRun moved has_ended failures idle came_now plain rules old new v a e (clients_fault.Store fault)
      run_stops new d e Read stops ends = stops
      run_stops new d e Write stops ends = stops
      run_stops new d e Device stops ends = run_fails new d e stops ends
      run_stops new d e Memory stops ends = stops
      run_stops new d e (Damaged damage) stops ends = stops
      run_stops new d e Failed stops ends = run_fails new d e stops ends

  -- ---- a compaction between two turns

  module _ {D : Type 0} {g : Ghosts D} (rules : Rules) (a b : Places S) (came : List S → Type 0) (old mid new : Store D g) where
    pub run_compacted : (h : History) → HasServedClients moved has_ended failures idle came plain rules old mid (view rules h) a b → IsSettledAt rules old h
        → ((k : History) → IsSettledAt rules mid k → IsSettledAt rules new k) → ((k : History) → IsSettledAt rules mid k → LeavesSome rules mid new k [])
        → HasServedClients moved has_ended failures idle came plain rules old new (view rules h) a b
    run_compacted h before settled kept moments =
        let v : View = view rules h in
        let k : History = h ++ all_writes rules v before.answered in
        let done = compacted_applied rules mid new k (before.store.settled h refl settled) kept moments in
        let Shown : View → Type 0 = λ w. HasApplied rules mid new w [] in
        let Of : List Answered → Type 0 = λ xs. HasApplied rules old new v xs in
        record {
          places = before.places;
          answered = before.answered;
          alike = before.alike;
          store = subst Of (append-nil before.answered)
              (applied_then rules old mid new v before.answered [] before.store (subst Shown (sym (seen_view rules v h (all_writes rules v before.answered) refl)) done));
          clients = before.clients;
        }

    pub run_same : (v : View) → HasServedClients moved has_ended failures idle came plain rules old mid v a b → new ≡ mid → HasServedClients moved has_ended failures idle came plain rules old new v a b
    run_same v before is = let Of : Store D g → Type 0 = λ s. HasServedClients moved has_ended failures idle came plain rules old s v a b in subst Of (sym is) before

    -- What is known of clients after a turn that answers nothing.
    told_of : (v : View) (places more_places : List ℕ) (answered more : List Answered) (d : Places S) (clients : List (Client S)) → more ≡ [] → length more_places ≡ length more
        → AllByRecursion (WasLeft moved has_ended failures idle rules v (places ++ more_places) (answered ++ more) d) clients
        → AllByRecursion (WasLeft moved has_ended failures idle rules v places answered d) clients
    told_of v places more_places answered more d clients none alike left =
        let no_places : more_places ≡ [] = nil_from_length more_places (alike ∙ ap length none) in
        let At : List ℕ → Type 0 = λ ps. AllByRecursion (WasLeft moved has_ended failures idle rules v ps (answered ++ more) d) clients in
        let Of : List Answered → Type 0 = λ xs. AllByRecursion (WasLeft moved has_ended failures idle rules v places xs d) clients in
        subst Of (ap (λ (xs : List Answered). answered ++ xs) none ∙ append-nil answered) (subst At (ap (λ ps. places ++ ps) no_places ∙ append-nil places) left)

    -- Turns, and then a compaction that fails: one turn more tells each client with a message so.
    module _ (v : View) (before : HasServedClients moved has_ended failures idle came plain rules old mid v a b)
        (left : (k : History) → IsSettledAt rules mid k → IsLeftAt rules new k [] []) (moments : (k : History) → IsSettledAt rules mid k → LeavesSome rules mid new k [])
        (stops : serves new ≡ false) (c d : Places S) (ends : EndsOn moved has_ended failures idle c d) where
      stopped_new : (plain → HasNobody a → LeavesThem moved has_ended failures idle came rules v before.places before.answered d)
          → HasStoppedClients moved has_ended failures idle came plain rules old new v a d
      stopped_new clients =
          let ws : List standing.Write = all_writes rules v before.answered in
          record {
            places = before.places;
            answered = before.answered;
            stopped = stops;
            specified = before.store.specified;
            admitted = before.store.admitted;
            left = λ k is was.
                let mid_settled = before.store.settled k is was in
                subst (λ kept. IsLeftAt rules new k kept kept) (append-nil ws) (left_after rules new k ws [] [] (left (k ++ ws) mid_settled));
            moments = λ k is was.
                let mid_settled = before.store.settled k is was in
                subst (LeavesSome rules old new k) (append-nil ws) (moments_then rules old mid new k ws [] (before.store.moments k is was) (moments (k ++ ws) mid_settled));
            clients = clients;
          }

      as_later : (later : Store D g) → later ≡ new → HasStoppedClients moved has_ended failures idle came plain rules old new v a d
          → HasStoppedClients moved has_ended failures idle came plain rules old later v a d
      as_later later same stopped = let Of : Store D g → Type 0 = λ s. HasStoppedClients moved has_ended failures idle came plain rules old s v a d in subst Of (sym same) stopped

      after_turn : (later : Store D g) → ServesTurn moved has_ended failures idle rules new later (seen rules v before.answered) b c
          → HasStoppedClients moved has_ended failures idle came plain rules old later v a d
      after_turn later turn =
          let idle_turn = turn.store.failed stops in
          as_later later idle_turn.0 (stopped_new (λ is_plain nobody.
          let them = before.clients is_plain nobody in
          let now = turn.on v before.places before.answered them.clients refl before.alike them.served in
          let last = ends rules v (before.places ++ turn.more_places) (before.answered ++ turn.more) now.now
          (served_is_left rules v (before.places ++ turn.more_places) (before.answered ++ turn.more) c now.now now.served.each) in
          record {
            clients = last.now;
            came_by = subst came (sym (last.came ∙ now.came ∙ append-nil (map (λ (x : Client S). x.came) them.clients))) them.came_by;
            left = told_of v before.places turn.more_places before.answered turn.more d last.now idle_turn.1 turn.alike last.left;
          }))

      after_failure : (later : Store D g) → FailsTurn moved has_ended failures idle rules new later (seen rules v before.answered) b c
          → HasStoppedClients moved has_ended failures idle came plain rules old later v a d
      after_failure later turn =
          let idle_turn = turn.store.failed stops in
          as_later later idle_turn.0 (stopped_new (λ is_plain nobody.
          let them = before.clients is_plain nobody in
          let now = turn.on v before.places before.answered them.clients refl before.alike them.served in
          let last = ends rules v (before.places ++ turn.more_places) (before.answered ++ turn.more) now.now now.left in
          record {
            clients = last.now;
            came_by = subst came (sym (last.came ∙ now.came)) them.came_by;
            left = told_of v before.places turn.more_places before.answered turn.more d last.now idle_turn.1 turn.alike last.left;
          }))

      pub run_stopped : {T : Type 0} (later : Store D g) (r : Result T ServeFault)
          → MatchResult r (λ _. ServesTurn moved has_ended failures idle rules new later (seen rules v before.answered) b c)
          (StopsTurn moved has_ended failures idle rules new later (seen rules v before.answered) b c)
          → HasStoppedClients moved has_ended failures idle came plain rules old later v a d
      run_stopped later (Ok x) turn = after_turn later turn
      run_stopped later (Err Read) turn = absurd turn
      run_stopped later (Err Write) turn = absurd turn
      run_stopped later (Err Device) turn = after_failure later turn
      run_stopped later (Err Memory) turn = absurd turn
      run_stopped later (Err (Damaged damage)) turn = absurd turn
      run_stopped later (Err Failed) turn = after_failure later turn

-- ---- what of this is of the store alone

module _ {S : Type 0} (moved : S → S → List ℕ → List ℕ → Type 0) (has_ended : S → Type 0) (failures : S → ℕ) (idle : Option Duration) {D : Type 0} {g : Ghosts D}
    (came : List S → Type 0) (plain : Type 0) (rules : Rules) (old new : Store D g) (v : View) (a b : Places S) where
  store_served : HasServedClients moved has_ended failures idle came plain rules old new v a b → HasServedSome rules old new v
  store_served served = record { answered = served.answered; store = served.store }

  store_failed : HasFailedClients moved has_ended failures idle came plain rules old new v a b → HasFailedAt rules old new v
  store_failed failed = record { answered = failed.answered; failing = failed.failing; store = failed.store }

  store_stopped : HasStoppedClients moved has_ended failures idle came plain rules old new v a b → HasStoppedBetween rules old new v
  store_stopped stopped = record {
    answered = stopped.answered;
    stopped = stopped.stopped;
    specified = stopped.specified;
    admitted = stopped.admitted;
    left = stopped.left;
    moments = stopped.moments;
  }

  pub store_run : {T : Type 0} (r : Result T ClientsFault)
      → MatchResult r (λ _. HasServedClients moved has_ended failures idle came plain rules old new v a b) (StopsRun moved has_ended failures idle came plain rules old new v a b)
      → MatchResult r (λ _. HasServedSome rules old new v) (StopsClients rules old new v)
  store_run (Ok x) served = store_served served
  store_run (Err clients_fault.Network) served = store_served served
  store_run (Err (clients_fault.Store Read)) stops = stops
  store_run (Err (clients_fault.Store Write)) stops = stops
  store_run (Err (clients_fault.Store Device)) stops = store_failed stops
  store_run (Err (clients_fault.Store Memory)) stops = stops
  store_run (Err (clients_fault.Store (Damaged damage))) stops = stops
  store_run (Err (clients_fault.Store Failed)) stops = store_failed stops
  store_run (Err (clients_fault.Compaction fault)) stops = store_stopped stops
