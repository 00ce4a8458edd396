-- What turns leave of a store, one after another.
use Rattle.std.proofs.Common.{◌≡◌, ◌∙◌, ap, refl, sym, subst, true≢false, false, ◌++◌, ℕ, List, [], length, Option, None, Result, Ok, Err}
use Rattle.std.proofs.lemmas.List.{append-nil}
use Rattle.std.specs.Prelude.{MatchResult, is_ok}
use Rattle.device.specs.declared.device.Device.{Ghosts}
use Rattle.names.specs.declared.format.Rules.{Rules}
use Rattle.histories.specs.View.{view, after_all}
use Rattle.decoded.specs.Standing.{History, View}
use Rattle.decoded.specs.Standing as standing
use Rattle.durable.specs.declared.store.Store.{Store}
use Rattle.durable.specs.Settled.{device_of, serves, IsSettledAt, IsLeftAt, LeavesSome}
use Rattle.durable.proofs.Answering.{settled_serves}
use Rattle.httpmsg.specs.Stream.{Message}
use Rattle.api.specs.declared.fault.ServeFault.{ServeFault}
use Rattle.api.specs.declared.fault.ServeFault.TheVariants.{Read, Write, Device, Memory, Damaged, Failed}
use Rattle.api.specs.Answers.{ShowsAt, all_writes, HasApplied}
use Rattle.api.proofs.Folds.{applied_then, applied_none, failed_then, left_after, moments_then}
use Rattle.sessions.specs.State.{State}
use Rattle.sessions.specs.Turn.{Turned}
use Rattle.sessions.specs.Stops.{TurnStops}
use Rattle.clients.specs.Compacting.{is_due}
use Rattle.clients.specs.Serving.{Gathers, AnswersGroup, StopsAtGroup, HasServedSome, HasFailedAt, HasStoppedBetween, StopsServing}

-- a store that is never compacted is never due
pub never_due : (times : Option ℕ) (put_off_sectors log_sectors pages : ℕ) → times ≡ None → is_due times put_off_sectors log_sectors pages ≡ false
never_due times put_off_sectors log_sectors pages never = subst (λ t. is_due t put_off_sectors log_sectors pages ≡ false) (sym never) refl

pub ok_is_no_err : {T E : Type 0} (r : Result T E) (x : T) (e : E) → r ≡ Ok x → r ≡ Err e → ⊥
ok_is_no_err r x e well failed = true≢false (ap is_ok (sym well ∙ failed))

module _ {D : Type 0} {g : Ghosts D} (rules : Rules) where
  pub served_none : (store : Store D g) (v : View) → ShowsAt rules store v
      → (g.disk.keeps (device_of store) → (c : List ℕ) → g.disk.since (device_of store) (g.disk.moment (device_of store)) c → g.disk.left (device_of store) c)
      → HasServedSome rules store store v
  served_none store v shows only_now = record { answered = []; store = applied_none rules store v shows only_now }

  pub served_then : (old mid new : Store D g) (v : View) (before : HasServedSome rules old mid v)
      → HasServedSome rules mid new (after_all rules v (all_writes rules v before.answered)) → HasServedSome rules old new v
  served_then old mid new v before after =
      record { answered = before.answered ++ after.answered; store = applied_then rules old mid new v before.answered after.answered before.store after.store }

  -- what came of a group that was gathered
  pub group_outcome : {T : Type 0} (first next : ℕ) (old new : Store D g) (v : View) (places : List ℕ) (ms : List Message) (a b c : List State) (r : Result T ServeFault)
      → length c ≡ length a → Gathers first next places ms a b → MatchResult r (λ _. Turned rules old new v places ms b c) (TurnStops rules old new v places ms b c)
      → MatchResult r (λ _. AnswersGroup rules first next old new v a c) (StopsAtGroup rules first next old new v a c)
  group_outcome first next old new v places ms a b c (Ok x) many gathers turned = record { places = places; messages = ms; between = b; many = many; gathers = gathers; turned = turned }
  group_outcome first next old new v places ms a b c (Err fault) many gathers stops = record { places = places; messages = ms; between = b; many = many; gathers = gathers; stops = stops }

  -- a group that was answered
  pub group_served : (first next : ℕ) (old new : Store D g) (v : View) (a b : List State) → AnswersGroup rules first next old new v a b → HasServedSome rules old new v
  group_served first next old new v a b group = record { answered = group.turned.answered; store = group.turned.store }

  -- one that the store stopped at
  group_stops : (old new : Store D g) (v : View) (places : List ℕ) (ms : List Message) (a b : List State) (fault : ServeFault) → TurnStops rules old new v places ms a b fault
      → StopsServing rules old new v fault
  group_stops old new v places ms a b Read stops = stops
  group_stops old new v places ms a b Write stops = stops
  group_stops old new v places ms a b Device stops = record { answered = stops.answered; failing = stops.failing; store = stops.store }
  group_stops old new v places ms a b Memory stops = stops
  group_stops old new v places ms a b (Damaged damage) stops = stops
  group_stops old new v places ms a b Failed stops = record { answered = stops.answered; failing = stops.failing; store = stops.store }

  pub group_stopped : (first next : ℕ) (old new : Store D g) (v : View) (a b : List State) (fault : ServeFault) → StopsAtGroup rules first next old new v a b fault → StopsServing rules old new v fault
  group_stopped first next old new v a b fault group = group_stops old new v group.places group.messages group.between b fault group.stops

  -- turns, and then the device fails
  failed_after : (old mid new : Store D g) (v : View) (before : HasServedSome rules old mid v)
      → HasFailedAt rules mid new (after_all rules v (all_writes rules v before.answered)) → HasFailedAt rules old new v
  failed_after old mid new v before after = record {
    answered = before.answered ++ after.answered;
    failing = after.failing;
    store = failed_then rules old mid new v before.answered after.answered after.failing before.store after.store;
  }

  pub stops_after : (old mid new : Store D g) (v : View) (fault : ServeFault) (before : HasServedSome rules old mid v)
      → StopsServing rules mid new (after_all rules v (all_writes rules v before.answered)) fault → StopsServing rules old new v fault
  stops_after old mid new v Read before after = after
  stops_after old mid new v Write before after = after
  stops_after old mid new v Device before after = failed_after old mid new v before after
  stops_after old mid new v Memory before after = after
  stops_after old mid new v (Damaged damage) before after = after
  stops_after old mid new v Failed before after = failed_after old mid new v before after

  -- ---- a compaction between two turns

  -- a store that was compacted, or was not
  pub compacted_applied : (old new : Store D g) (h : History) → IsSettledAt rules old h → ((k : History) → IsSettledAt rules old k → IsSettledAt rules new k)
      → ((k : History) → IsSettledAt rules old k → LeavesSome rules old new k []) → HasApplied rules old new (view rules h) []
  compacted_applied old new h settled kept moments = record {
    serving = (kept h settled).working ∙ sym settled.working;
    shows = λ working. settled_serves rules new h (kept h settled);
    failed = λ stopped. absurd (true≢false (sym settled.working ∙ stopped));
    specified = tt;
    admitted = tt;
    settled = λ k is was. subst (IsSettledAt rules new) (sym (append-nil k)) (kept k was);
    moments = λ k is was. moments k was;
  }

  -- what a history and the writes of some answers leave
  pub settled_then : (old mid : Store D g) (h : History) (before : HasServedSome rules old mid (view rules h)) → IsSettledAt rules old h
      → IsSettledAt rules mid (h ++ all_writes rules (view rules h) before.answered)
  settled_then old mid h before settled = before.store.settled h refl settled

  -- turns, and then the device fails in a compaction
  pub stopped_between : (old mid new : Store D g) (v : View) (before : HasServedSome rules old mid v)
      → ((k : History) → IsSettledAt rules mid k → IsLeftAt rules new k [] []) → ((k : History) → IsSettledAt rules mid k → LeavesSome rules mid new k [])
      → serves new ≡ false → HasStoppedBetween rules old new v
  stopped_between old mid new v before left moments stops =
      let ws : List standing.Write = all_writes rules v before.answered in
      record {
        answered = before.answered;
        stopped = stops;
        specified = before.store.specified;
        admitted = before.store.admitted;
        left = λ k is was.
            let mid_settled = before.store.settled k is was in
            subst (λ kept. IsLeftAt rules new k kept kept) (append-nil ws) (left_after rules new k ws [] [] (left (k ++ ws) mid_settled));
        moments = λ k is was.
            let mid_settled = before.store.settled k is was in
            subst (LeavesSome rules old new k) (append-nil ws)
            (moments_then rules old mid new k ws [] (before.store.moments k is was) (moments (k ++ ws) mid_settled));
      }

  -- a turn of a store that has stopped leaves it as it is
  pub turn_of_stopped : {T : Type 0} (old new : Store D g) (v : View) (r : Result T ServeFault) → serves old ≡ false
      → MatchResult r (λ _. HasServedSome rules old new v) (StopsServing rules old new v) → new ≡ old
  turn_of_stopped old new v (Ok x) stopped some = (some.store.failed stopped).0
  turn_of_stopped old new v (Err Read) stopped stops = absurd stops
  turn_of_stopped old new v (Err Write) stopped stops = absurd stops
  turn_of_stopped old new v (Err Device) stopped stops = (stops.store.failed stopped).0
  turn_of_stopped old new v (Err Memory) stopped stops = absurd stops
  turn_of_stopped old new v (Err (Damaged damage)) stopped stops = absurd stops
  turn_of_stopped old new v (Err Failed) stopped stops = (stops.store.failed stopped).0
