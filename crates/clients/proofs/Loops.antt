-- What the loop that serves clients makes of what they were served.
use Rattle.std.proofs.Common.{arith, ◌≡◌, ◌∙◌, sym, ap, refl, subst, ◌⊎◌, inl, inr, ℕ, List, [], ◌∷◌, ◌++◌, append_assoc, map, length, take, Option, Some, None, option_map}
use Rattle.std.specs.Bool.{⊤}
use Rattle.std.proofs.lemmas.List.{append-nil, length-append, length-map, length-take-le}
use Rattle.std.specs.declared.time.Duration.{Duration}
use Rattle.device.specs.declared.device.Device.{Ghosts}
use Rattle.names.specs.declared.format.Format.{Format}
use Rattle.names.specs.declared.format.Rules.{Rules}
use Rattle.decoded.specs.Standing.{View}
use Rattle.durable.specs.declared.store.Store.{Store}
use Rattle.httpmsg.specs.Stream.{Message}
use Rattle.api.specs.declared.fault.ServeFault.{ServeFault}
use Rattle.api.specs.declared.fault.ServeFault.TheVariants.{Read, Write, Device, Memory, Damaged, Failed}
use Rattle.api.specs.Answers.{Answered, messages}
use Rattle.api.proofs.Folds.{seen}
use Rattle.sessions.specs.State.{State}
use Rattle.sessions.specs.Stops.{TurnFails}
use Rattle.sessions.specs.Served.{IsServed, IsToldOfFailure}
use Rattle.clients.specs.declared.line.Line.{Line}
use Rattle.clients.specs.declared.places.Places.{Places}
use Rattle.clients.specs.Story.{SendsOn}
use Rattle.clients.specs.Plain.{IsPlain}
use Rattle.sessions.specs.Restating.{Queue, no_queue}
use Rattle.clients.specs.Places.{fresh, count, line_at, session_at, IsFree, StaysBeside, AreMarked, TakeTurns, SendsLast, TakeLastTurns}
use Rattle.clients.specs.Serving.{Gathers, AnswersGroup, StopsAtGroup}
use Rattle.clients.specs.Clients.{Client, WasThere, IsAt, ServesOn, WasLeft, EndsOn, ServesTurn, FailsTurn, StopsTurn}
use Rattle.clients.proofs.Stories.{sends_go, sends_tell}
use Rattle.clients.proofs.Clients.{turned_all, marked_all, comes, answered_all, fails_all}

-- where no format is given, the messages of one that comes are answered as they are
pub plain_from : {S : Type 0} (line : Line S) (later : Option Queue) (dialect : Option Format) → line.later ≡ later
    → later ≡ option_map no_queue dialect → dialect ≡ None → IsPlain line
plain_from line later dialect is from none =
    ap (λ (o : Option Queue). option_map (λ (q : Queue). q.format) o) (is ∙ from ∙ ap (λ (d : Option Format). option_map no_queue d) none)

module _ {S : Type 0} (moved : S → S → List ℕ → List ℕ → Type 0) (has_ended : S → Type 0) (failures : S → ℕ) (idle : Option Duration) where
  pub serves_none : (a : Places S) → ServesOn moved has_ended failures idle a a []
  serves_none a rules v places answered clients alike served = record { now = clients; came = sym (append-nil (map (λ (c : Client S). c.came) clients)); served = served }

  pub serves_then : (a b c : Places S) (first more : List S) → ServesOn moved has_ended failures idle a b first → ServesOn moved has_ended failures idle b c more
      → ServesOn moved has_ended failures idle a c (first ++ more)
  serves_then a b c first more one two rules v places answered clients alike served =
      let mid = one rules v places answered clients alike served in
      let end = two rules v places answered mid.now alike mid.served in
      record {
        now = end.now;
        came = end.came ∙ ap (λ z. z ++ more) mid.came ∙ append_assoc (map (λ (c : Client S). c.came) clients) first more;
        served = end.served;
      }

  pub serves_marked : (a b : Places S) → AreMarked a b → ServesOn moved has_ended failures idle a b []
  serves_marked a b marks rules v places answered clients alike served =
      let now = marked_all moved has_ended failures idle rules v places answered a b clients marks served in
      record { now = now.0; came = now.1 ∙ sym (append-nil (map (λ (c : Client S). c.came) clients)); served = now.2 }

  pub serves_coming : (a b : Places S) (place : ℕ) (stream : S) → moved stream stream [] [] → IsFree a place → StaysBeside place a b
      → session_at b place ≡ session_at a place → ((line : Line S) × (line_at b place ≡ Some line) × (line.stream ≡ stream) × IsPlain line)
      → ServesOn moved has_ended failures idle a b (stream ∷ [])
  serves_coming a b place stream none free beside session there rules v places answered clients alike served =
      let now = comes moved has_ended failures idle rules v places answered a b clients place stream none free beside session there alike served in
      record { now = now.0; came = now.1; served = now.2 }

  -- ---- once the store has failed

  pub ends_same : (a : Places S) → EndsOn moved has_ended failures idle a a
  ends_same a rules v places answered clients left = record { now = clients; came = refl; left = left }

  pub ends_after : (a b c : Places S) → EndsOn moved has_ended failures idle a b → EndsOn moved has_ended failures idle b c → EndsOn moved has_ended failures idle a c
  ends_after a b c one two rules v places answered clients left =
      let mid = one rules v places answered clients left in
      let end = two rules v places answered mid.now mid.left in
      record { now = end.now; came = end.came ∙ mid.came; left = end.left }

  record EndedAnew (rules : Rules) (v : View) (places : List ℕ) (answered : List Answered) (b : Places S) (c : Client S) : Type 0 where
    pub now : Client S
    pub same : now.came ≡ c.came
    pub left : WasLeft moved has_ended failures idle rules v places answered b now

  each_ends : (a b : Places S) → ((rules : Rules) (v : View) (places : List ℕ) (answered : List Answered) (c : Client S)
      → WasLeft moved has_ended failures idle rules v places answered a c → EndedAnew rules v places answered b c) → EndsOn moved has_ended failures idle a b
  each_ends a b one rules v places answered [] left = record { now = []; came = refl; left = tt }
  each_ends a b one rules v places answered (c ∷ clients) left =
      let first = one rules v places answered c left.0 in
      let more = each_ends a b one rules v places answered clients left.1 in
      record {
        now = first.now ∷ more.now;
        came = ap (λ s. s ∷ map (λ (d : Client S). d.came) more.now) first.same ∙ ap (λ ss. c.came ∷ ss) more.came;
        left = (first.left, more.left);
      }

  pub ends_marked : (a b : Places S) → AreMarked a b → EndsOn moved has_ended failures idle a b
  ends_marked a b marks = each_ends a b one
    where
      one : (rules : Rules) (v : View) (places : List ℕ) (answered : List Answered) (c : Client S) → WasLeft moved has_ended failures idle rules v places answered a c
          → EndedAnew rules v places answered b c
      one rules v places answered c (inl left) = record { now = c; same = refl; left = inl left }
      one rules v places answered c (inr (was, inr away)) = record { now = c; same = refl; left = inr (was, inr tt) }
      one rules v places answered c (inr (was, inl at)) =
          let seen_line = marks.clients c.place at.line at.there in
          record {
            now = c;
            same = refl;
            left = inr (
              was,
              inl (record { line = seen_line.0; there = seen_line.1; last = at.last ∙ sym seen_line.2; state = at.state ∙ sym (marks.sessions c.place) }),
            );
          }

  module _ (moved_then : (old mid new : S) (read more sent further : List ℕ) → moved old mid read sent → moved mid new more further
      → moved old new (read ++ more) (sent ++ further))
      (ended_then : (old new : S) (read sent : List ℕ) → moved old new read sent → has_ended old → has_ended new) where
    -- what a client was served, and its stream then
    record NowServed (rules : Rules) (v : View) (places : List ℕ) (answered : List Answered) (c : Client S) (was : WasThere moved has_ended failures rules v places answered c)
        (last : S) (state : State) (read sent : List ℕ) : Type 0 where
      pub exchanged_so : moved c.came last read sent
      pub served : IsServed rules (seen rules v was.earlier) c.place was.own_places was.own (has_ended last) read sent state
          ⊎ IsToldOfFailure rules (seen rules v was.earlier) c.place was.own_places was.own read sent state

    -- the last bytes are sent to a client
    sent_last : (a b : Places S) (rules : Rules) (v : View) (places : List ℕ) (answered : List Answered) (c : Client S)
        → WasThere moved has_ended failures rules v places answered c → (at : IsAt a c) → SendsLast moved a b c.place at.line → EndedAnew rules v places answered b c
    sent_last a b rules v places answered c was at sends = on served_now
      where
        by : SendsOn moved c.last sends.last c.state sends.state
        by =
            let From : S → State → Type 0 = λ s t. SendsOn moved s sends.last t sends.state in
            subst (λ s. From s c.state) (sym at.last) (subst (λ t. From at.line.stream t) (sym at.state) sends.sends)

        served_now : (read : List ℕ) × (sent : List ℕ) × NowServed rules v places answered c was sends.last sends.state read sent
        served_now = by_kind was.served
          where
            by_kind : IsServed rules (seen rules v was.earlier) c.place was.own_places was.own (has_ended c.last) c.read c.sent c.state
                ⊎ IsToldOfFailure rules (seen rules v was.earlier) c.place was.own_places was.own c.read c.sent c.state → (read : List ℕ) × (sent : List ℕ) × NowServed rules v places answered c was sends.last sends.state read sent
            by_kind (inl served) =
                let on_now = sends_go moved has_ended c.last sends.last c.state sends.state ended_then by rules (seen rules v was.earlier) c.place was.own_places was.own c.read c.sent served in (
                  c.read ++ on_now.more_read,
                  c.sent ++ on_now.more_sent,
                  record {
                    exchanged_so = moved_then c.came c.last sends.last c.read on_now.more_read c.sent on_now.more_sent was.exchanged on_now.exchanged;
                    served = inl on_now.served;
                  },
                )
            by_kind (inr told) = (
              c.read ++ by.forgotten,
              c.sent ++ by.front,
              record {
                exchanged_so = moved_then c.came c.last sends.last c.read by.forgotten c.sent by.front was.exchanged by.exchanged;
                served = inr (sends_tell moved has_ended c.last sends.last c.state sends.state by rules (seen rules v was.earlier) c.place was.own_places was.own c.read c.sent told);
              },
            )

        on : ((read : List ℕ) × (sent : List ℕ) × NowServed rules v places answered c was sends.last sends.state read sent) → EndedAnew rules v places answered b c
        on (read, sent, now) =
            let seen_now : Client S = record { place = c.place; came = c.came; last = sends.last; read = read; sent = sent; state = sends.state } in
            record {
              now = seen_now;
              same = refl;
              left = inr (
                record {
                  earlier_places = was.earlier_places;
                  earlier = was.earlier;
                  own_places = was.own_places;
                  own = was.own;
                  places_are = was.places_are;
                  are = was.are;
                  exchanged = now.exchanged_so;
                  served = now.served;
                },
                there sends.left,
              );
            }
          where
            there : ((now : Line S) × (line_at b c.place ≡ Some now) × (now.stream ≡ sends.last) × (session_at b c.place ≡ sends.state))
                ⊎ (IsFree b c.place × (session_at b c.place ≡ fresh))
                → IsAt b (record { place = c.place; came = c.came; last = sends.last; read = read; sent = sent; state = sends.state }) ⊎ ⊤
            there (inl (line, is, stream, state)) = inl (record { line = line; there = is; last = sym stream; state = sym state })
            there (inr gone) = inr tt

    pub ends_last : (a b : Places S) → TakeLastTurns moved a b → EndsOn moved has_ended failures idle a b
    ends_last a b turns = each_ends a b one
      where
        one : (rules : Rules) (v : View) (places : List ℕ) (answered : List Answered) (c : Client S) → WasLeft moved has_ended failures idle rules v places answered a c
            → EndedAnew rules v places answered b c
        one rules v places answered c (inl left) = record { now = c; same = refl; left = inl left }
        one rules v places answered c (inr (was, inr away)) = record { now = c; same = refl; left = inr (was, inr tt) }
        one rules v places answered c (inr (was, inl at)) = sent_last a b rules v places answered c was at ((turns.each c.place).client at.line at.there)

    -- ---- a turn

    module _ {D : Type 0} {g : Ghosts D} (rules : Rules) (old new : Store D g) (v : View) (a b c d : Places S) (first next : ℕ)
        (turns : TakeTurns moved has_ended failures idle a b) (lines : (i : ℕ) → line_at c i ≡ line_at b i) (as_many : count c ≡ count b) where
      pub turn_serves : AnswersGroup rules first next old new v b.sessions.items c.sessions.items → TakeTurns moved has_ended failures idle c d
          → ServesTurn moved has_ended failures idle rules old new v a d
      turn_serves group after = record {
        more_places = group.places;
        more = group.turned.answered;
        alike = group.gathers.alike ∙ sym (ap length group.turned.answers) ∙ length-map group.turned.answered (λ (z : Answered). z.message);
        store = group.turned.store;
        on = λ start places answered clients is alike served.
            let one = turned_all moved has_ended failures idle rules start places answered moved_then a b clients turns served in
            let two = answered_all moved has_ended failures idle rules start places answered b c lines as_many old new v is first next group one.2.rooms one.0 one.2 in
            let three = turned_all moved has_ended failures idle rules start (places ++ group.places) (answered ++ group.turned.answered) moved_then c d two.0 after two.2 in
            record { now = three.0; came = three.1 ∙ two.1 ∙ one.1 ∙ sym (append-nil (map (λ (x : Client S). x.came) clients)); served = three.2 };
      }

      fails_turn : (ps : List ℕ) (ms : List Message) (between : List State) → Gathers first next ps ms b.sessions.items between
          → TurnFails rules old new v ps ms between c.sessions.items → FailsTurn moved has_ended failures idle rules old new v a c
      fails_turn ps ms between gathers fails = record {
        more_places = take (length fails.answered) ps;
        more = fails.answered;
        failing = fails.failing;
        alike = length-take-le (length fails.answered) ps
            (omega (
              arith,
              gathers.alike,
              ap length fails.split,
              length-append (messages fails.answered) (messages fails.failing ++ fails.waiting),
              length-map fails.answered (λ (z : Answered). z.message),
            ));
        store = fails.store;
        on = λ start places answered clients is alike served.
            let one = turned_all moved has_ended failures idle rules start places answered moved_then a b clients turns served in
            let two = fails_all moved has_ended failures idle rules start places answered b c lines as_many old new v is first next ps ms between gathers fails one.2.rooms one.0 one.2.each in
            record { now = two.now; came = two.came ∙ one.1; left = two.left };
      }

      pub turn_stops : (fault : ServeFault) → StopsAtGroup rules first next old new v b.sessions.items c.sessions.items fault
          → StopsTurn moved has_ended failures idle rules old new v a c fault
      turn_stops Read group = group.stops
      turn_stops Write group = group.stops
      turn_stops Device group = fails_turn group.places group.messages group.between group.gathers group.stops
      turn_stops Memory group = group.stops
      turn_stops (Damaged damage) group = group.stops
      turn_stops Failed group = fails_turn group.places group.messages group.between group.gathers group.stops
