-- What clients are served, turn after turn.
use Rattle.std.proofs.Common.{arith, ◌≡◌, ◌∙◌, sym, ap, refl, subst, ◌<◌, ◌≤◌, ◌⊎◌, inl, inr, ℕ, zero, suc, List, [], ◌∷◌, ◌++◌, append_assoc, map, length, take, get_or, Option, Some, None, option_map}
use Rattle.std.specs.List.{AllByRecursion}
use Rattle.std.proofs.lemmas.List.{append-nil, length-append, length-map}
use Rattle.std.specs.declared.time.Duration.{Duration}
use Rattle.names.specs.declared.format.Rules.{Rules}
use Rattle.histories.specs.View.{after_all}
use Rattle.decoded.specs.Standing.{View}
use Rattle.api.specs.Answers.{Answered, all_writes}
use Rattle.sessions.specs.State.{State}
use Rattle.sessions.specs.Served.{IsServed}
use Rattle.httpmsg.specs.Stream.{Message, Progress}
use Rattle.device.specs.declared.device.Device.{Ghosts}
use Rattle.durable.specs.declared.store.Store.{Store}
use Rattle.api.specs.Answers.{messages}
use Rattle.api.proofs.Folds.{seen, all_writes-append}
use Rattle.histories.proofs.ViewLemmas.{after_all-append}
use Rattle.sessions.specs.declared.session.Phase.{Phase}
use Rattle.sessions.specs.Batch.{held, places_of, messages_of, StaysBut}
use Rattle.sessions.specs.State.{GoesOnWith}
use Rattle.sessions.specs.Turn.{bytes_of}
use Rattle.sessions.specs.Stops.{TurnFails}
use Rattle.sessions.proofs.Serving.{served_none, served_turn, served_or_told, no_bytes}
use Rattle.clients.specs.declared.line.Line.{Line}
use Rattle.clients.specs.declared.places.Places.{Places}
use Rattle.clients.specs.Plain.{IsPlain}
use Rattle.sessions.specs.Restating.{Queue}
use Rattle.clients.specs.Places.{fresh, count, line_at, session_at, IsFree, IsFreshWhereFree, StaysBeside, AreMarked, IsThereStill, IsLetGo, TakeTurns}
use Rattle.clients.specs.Serving.{Gathers, AnswersGroup}
use Rattle.clients.specs.Clients.{Client, IsHere, HasLeft, AreServed, WasLeft, LeftNow}
use Rattle.clients.proofs.Turns.{none_or, fresh_after, reason_before}

-- a client that has just come to a place
abbrev newcomer : {S : Type 0} → Places S → (place : ℕ) → S → Client S
newcomer p place stream = record { place = place; came = stream; last = stream; read = []; sent = []; state = session_at p place }

module _ {S : Type 0} (moved : S → S → List ℕ → List ℕ → Type 0) (has_ended : S → Type 0) (failures : S → ℕ) (idle : Option Duration) (rules : Rules) (v : View)
    (places : List ℕ) (answered : List Answered) where
  abbrev Is : Places S → Client S → Type 0
  Is p c = IsHere moved has_ended failures rules v places answered p c ⊎ HasLeft moved has_ended failures rules v places answered idle c

  -- what holds of each client that came, where the clients are seen anew
  pub record SeenAnew (p : Places S) (clients : List (Client S)) : Type 0 where
    pub now : List (Client S)
    pub same : map (λ c. c.came) now ≡ map (λ c. c.came) clients
    pub each : AllByRecursion (Is p) now

  pub record OneAnew (p : Places S) (c : Client S) : Type 0 where
    pub now : Client S
    pub same : now.came ≡ c.came
    pub is : Is p now

  pub seen_anew : (P : Client S → Type 0) (p : Places S) → ((c : Client S) → P c → OneAnew p c) → (clients : List (Client S)) → AllByRecursion P clients → SeenAnew p clients
  seen_anew P p one [] all = record { now = []; same = refl; each = tt }
  seen_anew P p one (c ∷ clients) all =
      let first = one c all.0 in
      let more = seen_anew P p one clients all.1 in
      record {
        now = first.now ∷ more.now;
        same = ap (λ s. s ∷ map (λ (d : Client S). d.came) more.now) first.same ∙ ap (λ ss. c.came ∷ ss) more.same;
        each = (first.is, more.each);
      }

  -- a client that is there is served by the line at its place
  pub here_served : (p : Places S) (c : Client S) (here : IsHere moved has_ended failures rules v places answered p c)
      → IsServed rules (after_all rules v (all_writes rules v here.earlier)) c.place here.own_places here.own (has_ended here.line.stream) c.read c.sent (session_at p c.place)
  here_served p c here =
      let Of : State → Type 0 = λ s. IsServed rules (after_all rules v (all_writes rules v here.earlier)) c.place here.own_places here.own (has_ended here.line.stream) c.read c.sent s in
      let By : S → Type 0 = λ s. IsServed rules (after_all rules v (all_writes rules v here.earlier)) c.place here.own_places here.own (has_ended s) c.read c.sent c.state in
      subst Of here.state (subst By here.last here.served)

  -- ---- the clients have turns

  module _ (moved_then : (old mid new : S) (read more sent further : List ℕ) → moved old mid read sent → moved mid new more further
      → moved old new (read ++ more) (sent ++ further)) where
    turned_here : (a b : Places S) → TakeTurns moved has_ended failures idle a b → (c : Client S) → IsHere moved has_ended failures rules v places answered a c → OneAnew b c
    turned_here a b turns c here = on ((turns.each c.place).client here.line here.there)
      where
        came_by : moved c.came here.line.stream c.read c.sent
        came_by = subst (λ s. moved c.came s c.read c.sent) here.last here.exchanged

        few : failures c.came ≤ failures here.line.stream
        few = subst (λ s. failures c.came ≤ failures s) here.last here.later

        on : IsThereStill moved has_ended failures idle c.place a b here.line ⊎ IsLetGo moved has_ended failures idle c.place a b here.line → OneAnew b c
        on (inl still) =
            let more = still.goes_on here.plain rules (after_all rules v (all_writes rules v here.earlier)) c.place here.own_places here.own c.read c.sent (here_served a c here) in
            record {
              now = record { place = c.place; came = c.came; last = still.now.stream; read = c.read ++ more.more_read; sent = c.sent ++ more.more_sent; state = session_at b c.place };
              same = refl;
              is = inl (record {
                earlier_places = here.earlier_places;
                earlier = here.earlier;
                own_places = here.own_places;
                own = here.own;
                places_are = here.places_are;
                are = here.are;
                alike = here.alike;
                own_alike = here.own_alike;
                line = still.now;
                there = still.there;
                plain = still.dialect ∙ here.plain;
                last = refl;
                state = refl;
                exchanged = moved_then c.came here.line.stream still.now.stream c.read more.more_read c.sent more.more_sent came_by more.exchanged;
                later = omega (arith, few, still.later);
                served = more.served;
              });
            }
        on (inr left) =
            let more = left.goes_on here.plain rules (after_all rules v (all_writes rules v here.earlier)) c.place here.own_places here.own c.read c.sent (here_served a c here) in
            record {
              now = record { place = c.place; came = c.came; last = left.last; read = c.read ++ more.more_read; sent = c.sent ++ more.more_sent; state = left.state };
              same = refl;
              is = inr (record {
                earlier_places = here.earlier_places;
                earlier = here.earlier;
                own_places = here.own_places;
                own = here.own;
                later_places = [];
                later = [];
                places_are = here.places_are ∙ ap (λ z. here.earlier_places ++ z) (sym (append-nil here.own_places));
                are = here.are ∙ ap (λ (z : List Answered). here.earlier ++ z) (sym (append-nil here.own));
                alike = here.alike;
                own_alike = here.own_alike;
                exchanged = moved_then c.came here.line.stream left.last c.read more.more_read c.sent more.more_sent came_by more.exchanged;
                served = more.served;
                gone = left.gone;
                reason = reason_before left.gone (failures c.came) (failures here.line.stream) (failures left.last) left.state idle few left.reason;
              });
            }

    turned_one : (a b : Places S) → TakeTurns moved has_ended failures idle a b → (c : Client S) → Is a c → OneAnew b c
    turned_one a b turns c (inl here) = turned_here a b turns c here
    turned_one a b turns c (inr left) = record { now = c; same = refl; is = inr left }

    pub turned_all : (a b : Places S) (clients : List (Client S)) → TakeTurns moved has_ended failures idle a b → AreServed moved has_ended failures rules v places answered idle a clients
        → (now : List (Client S)) × (map (λ c. c.came) now ≡ map (λ c. c.came) clients) × AreServed moved has_ended failures rules v places answered idle b now
    turned_all a b clients turns served =
        let anew = seen_anew (Is a) b (turned_one a b turns) clients served.each in (
          anew.now,
          anew.same,
          record {
            each = anew.each;
            fresh = fresh_after moved has_ended failures idle a b turns served.fresh;
            rooms = turns.many.sessions ∙ served.rooms ∙ sym turns.many.lines;
          },
        )

  -- ---- clients are marked, and one comes

  marked_one : (a b : Places S) → AreMarked a b → (c : Client S) → Is a c → OneAnew b c
  marked_one a b marks c (inr left) = record { now = c; same = refl; is = inr left }
  marked_one a b marks c (inl here) =
      let seen_line = marks.clients c.place here.line here.there in
      record {
        now = c;
        same = refl;
        is = inl (record {
          earlier_places = here.earlier_places;
          earlier = here.earlier;
          own_places = here.own_places;
          own = here.own;
          places_are = here.places_are;
          are = here.are;
          alike = here.alike;
          own_alike = here.own_alike;
          line = seen_line.0;
          there = seen_line.1;
          plain = ap (λ (o : Option Queue). option_map (λ (q : Queue). q.format) o) seen_line.3 ∙ here.plain;
          last = here.last ∙ sym seen_line.2;
          state = here.state ∙ sym (marks.sessions c.place);
          exchanged = here.exchanged;
          later = here.later;
          served = here.served;
        });
      }

  pub marked_all : (a b : Places S) (clients : List (Client S)) → AreMarked a b → AreServed moved has_ended failures rules v places answered idle a clients
      → (now : List (Client S)) × (map (λ c. c.came) now ≡ map (λ c. c.came) clients) × AreServed moved has_ended failures rules v places answered idle b now
  marked_all a b clients marks served =
      let anew = seen_anew (Is a) b (marked_one a b marks) clients served.each in (
        anew.now,
        anew.same,
        record {
          each = anew.each;
          fresh = λ i is. marks.sessions i ∙ served.fresh i (was_free i is);
          rooms = marks.many.sessions ∙ served.rooms ∙ sym marks.many.lines;
        },
      )
    where
      was_free : (i : ℕ) → IsFree b i → IsFree a i
      was_free i is = (subst (λ n. i < n) marks.many.lines is.0, on (line_at a i) refl)
        where
          on : (o : Option (Line S)) → line_at a i ≡ o → line_at a i ≡ None
          on None none = none
          on (Some line) some = let now = marks.clients i line some in absurd (none_or (line_at b i) now.0 is.1 now.1)

  -- a client comes to a place where nobody is
  pub comes : (a b : Places S) (clients : List (Client S)) (place : ℕ) (stream : S) → moved stream stream [] [] → IsFree a place → StaysBeside place a b
      → session_at b place ≡ session_at a place → ((line : Line S) × (line_at b place ≡ Some line) × (line.stream ≡ stream) × IsPlain line)
      → length places ≡ length answered → AreServed moved has_ended failures rules v places answered idle a clients
      → (now : List (Client S)) × (map (λ c. c.came) now ≡ map (λ c. c.came) clients ++ stream ∷ []) × AreServed moved has_ended failures rules v places answered idle b now
  comes a b clients place stream none free beside session (line, there, is, plain) alike served =
      let anew = seen_anew (Is a) b stays clients served.each in (
        anew.now ++ newcomer b place stream ∷ [],
        came_then anew.now ∙ ap (λ ss. ss ++ stream ∷ []) anew.same,
        record {
          each = each_then anew.now anew.each;
          fresh = λ i now. (beside.others i (elsewhere i now)).session ∙ served.fresh i (was_free i now);
          rooms = beside.many.sessions ∙ served.rooms ∙ sym beside.many.lines;
        },
      )
    where
      elsewhere : (i : ℕ) → IsFree b i → i ≡ place → ⊥
      elsewhere i now same = none_or (line_at b place) line (subst (λ n. line_at b n ≡ None) same now.1) there

      was_free : (i : ℕ) → IsFree b i → IsFree a i
      was_free i now = let stay = beside.others i (elsewhere i now) in (subst (λ n. i < n) beside.many.lines now.0, sym stay.line ∙ now.1)

      stays : (c : Client S) → Is a c → OneAnew b c
      stays c (inr left) = record { now = c; same = refl; is = inr left }
      stays c (inl here) =
          let other : c.place ≡ place → ⊥ = λ same. none_or (line_at a place) here.line free.1 (subst (λ n. line_at a n ≡ Some here.line) same here.there) in
          let stay = beside.others c.place other in
          record {
            now = c;
            same = refl;
            is = inl (record {
              earlier_places = here.earlier_places;
              earlier = here.earlier;
              own_places = here.own_places;
              own = here.own;
              places_are = here.places_are;
              are = here.are;
              alike = here.alike;
              own_alike = here.own_alike;
              line = here.line;
              there = stay.line ∙ here.there;
              plain = here.plain;
              last = here.last;
              state = here.state ∙ sym stay.session;
              exchanged = here.exchanged;
              later = here.later;
              served = here.served;
            });
          }

      is_here : IsHere moved has_ended failures rules v places answered b (newcomer b place stream)
      is_here =
          let Of : State → Type 0 = λ s. IsServed rules (seen rules v answered) place [] [] (has_ended stream) [] [] s in
          record {
            earlier_places = places;
            earlier = answered;
            own_places = [];
            own = [];
            places_are = sym (append-nil places);
            are = sym (append-nil answered);
            alike = alike;
            own_alike = refl;
            line = line;
            there = there;
            plain = plain;
            last = sym is;
            state = refl;
            exchanged = none;
            later = omega arith;
            served = subst Of (sym (session ∙ served.fresh place free)) (served_none rules (seen rules v answered) place (has_ended stream));
          }

      came_then : (cs : List (Client S)) → map (λ c. c.came) (cs ++ newcomer b place stream ∷ []) ≡ map (λ c. c.came) cs ++ stream ∷ []
      came_then [] = refl
      came_then (c ∷ cs) = ap (λ ss. c.came ∷ ss) (came_then cs)

      each_then : (cs : List (Client S)) → AllByRecursion (Is b) cs → AllByRecursion (Is b) (cs ++ newcomer b place stream ∷ [])
      each_then [] all = (inl is_here, tt)
      each_then (c ∷ cs) all = (all.0, each_then cs all.1)

-- ---- a group is answered

-- views seen one after another
seen_then : (rules : Rules) (v : View) (xs ys : List Answered) → seen rules v (xs ++ ys) ≡ seen rules (seen rules v xs) ys
seen_then rules v xs ys = ap (after_all rules v) (all_writes-append rules v xs ys) ∙ after_all-append rules v (all_writes rules v xs) (all_writes rules (seen rules v xs) ys)

some_below : {A : Type 0} (xs : List (Option A)) (i : ℕ) (x : A) → get_or xs i None ≡ Some x → i < length xs
some_below [] i x is = absurd cc
some_below (o ∷ xs) zero x is = omega arith
some_below (o ∷ xs) (suc i) x is = omega (arith, some_below xs i x is)

same_state : (s t : State) → s.progress ≡ t.progress → s.waiting ≡ t.waiting → s.unsent ≡ t.unsent → s.phase ≡ t.phase → s ≡ t
same_state s t progress waiting unsent phase =
    let Of : Progress → State = λ x. record { progress = x; waiting = s.waiting; unsent = s.unsent; phase = s.phase } in
    let With : List Message → State = λ x. record { progress = t.progress; waiting = x; unsent = s.unsent; phase = s.phase } in
    let Sent : List ℕ → State = λ x. record { progress = t.progress; waiting = t.waiting; unsent = x; phase = s.phase } in
    let In : Phase → State = λ x. record { progress = t.progress; waiting = t.waiting; unsent = t.unsent; phase = x } in
    ap Of progress ∙ ap With waiting ∙ ap Sent unsent ∙ ap In phase

none_held : (i : ℕ) (ps : List ℕ) (ms : List Message) → ms ≡ [] → messages_of i ps ms ≡ []
none_held i [] ms none = refl
none_held i (p ∷ ps) [] none = refl
none_held i (p ∷ ps) (m ∷ ms) none = absurd cc

front_nil : (ms ns : List Message) → [] ≡ ms ++ ns → (ms ≡ []) × (ns ≡ [])
front_nil [] ns is = (refl, sym is)
front_nil (m ∷ ms) ns is = absurd cc

-- what was gathered of one session
gathered : (first next : ℕ) (ps : List ℕ) (ms : List Message) (before between : List State) (gathers : Gathers first next ps ms before between) (i : ℕ) → i < length before
    → ((get_or before i fresh).waiting ≡ messages_of i ps ms ++ (get_or between i fresh).waiting) × StaysBut (get_or before i fresh) (get_or between i fresh)
gathered first next ps ms before between gathers i below =
    let kept = gathers.kept i fresh below in
    let full : messages_of i (places_of gathers.full) (held gathers.full) ≡ messages_of i ps ms =
    ap (λ qs. messages_of i qs (held gathers.full)) gathers.at ∙ ap (messages_of i ps) gathers.messages in
    let empty : messages_of i (places_of gathers.empty) (held gathers.empty) ≡ [] = none_held i (places_of gathers.empty) (held gathers.empty) gathers.none in (
      ap (λ (z : List Message). z ++ (get_or before i fresh).waiting) (sym empty) ∙ sym kept.0 ∙ ap (λ (z : List Message). z ++ (get_or between i fresh).waiting) full,
      kept.1,
    )

module _ {S : Type 0} (moved : S → S → List ℕ → List ℕ → Type 0) (has_ended : S → Type 0) (failures : S → ℕ) (idle : Option Duration)
    (rules : Rules) (v : View) (places : List ℕ) (answered : List Answered) (a b : Places S) (lines : (i : ℕ) → line_at b i ≡ line_at a i) (as_many : count b ≡ count a) where
  abbrev Before : Client S → Type 0
  Before c = IsHere moved has_ended failures rules v places answered a c ⊎ HasLeft moved has_ended failures rules v places answered idle c

  -- the place of a client that is there has a session
  has_session : length a.sessions.items ≡ count a → (c : Client S) → IsHere moved has_ended failures rules v places answered a c → c.place < length a.sessions.items
  has_session rooms c here = subst (λ n. c.place < n) (sym rooms) (some_below a.lines.items c.place here.line here.there)

  -- what was answered before, as a client saw it
  its_view : (c : Client S) (here : IsHere moved has_ended failures rules v places answered a c)
      → seen rules v answered ≡ seen rules (seen rules v here.earlier) here.own
  its_view c here = ap (seen rules v) here.are ∙ seen_then rules v here.earlier here.own

  -- one that left sees nothing of what is answered later
  left_still : (c : Client S) (ps : List ℕ) (xs : List Answered) → HasLeft moved has_ended failures rules v places answered idle c
      → HasLeft moved has_ended failures rules v (places ++ ps) (answered ++ xs) idle c
  left_still c ps xs left = record {
    earlier_places = left.earlier_places;
    earlier = left.earlier;
    own_places = left.own_places;
    own = left.own;
    later_places = left.later_places ++ ps;
    later = left.later ++ xs;
    places_are = ap (λ z. z ++ ps) left.places_are ∙ append_assoc left.earlier_places (left.own_places ++ left.later_places) ps
        ∙ ap (λ z. left.earlier_places ++ z) (append_assoc left.own_places left.later_places ps);
    are = ap (λ z. z ++ xs) left.are ∙ append_assoc left.earlier (left.own ++ left.later) xs ∙ ap (λ (z : List Answered). left.earlier ++ z) (append_assoc left.own left.later xs);
    alike = left.alike;
    own_alike = left.own_alike;
    exchanged = left.exchanged;
    served = left.served;
    gone = left.gone;
    reason = left.reason;
  }

  module _ {D : Type 0} {g : Ghosts D} (old new : Store D g) (u : View) (is : u ≡ seen rules v answered) (first next : ℕ) (group : AnswersGroup rules first next old new u a.sessions.items b.sessions.items)
      (rooms : length a.sessions.items ≡ count a) where
    abbrev ps : List ℕ
    ps = group.places

    abbrev xs : List Answered
    xs = group.turned.answered

    sizes : length ps ≡ length xs
    sizes = group.gathers.alike ∙ sym (ap length group.turned.answers) ∙ length-map xs (λ (z : Answered). z.message)

    abbrev mid : ℕ → State
    mid i = get_or group.between i fresh

    own_before : (i : ℕ) → i < length a.sessions.items → (session_at a i).waiting ≡ messages_of i ps (messages xs) ++ (mid i).waiting
    own_before i below =
        (gathered first next ps group.messages a.sessions.items group.between group.gathers i below).0
        ∙ ap (λ ms. messages_of i ps ms ++ (mid i).waiting) (sym group.turned.answers)

    gains : (i : ℕ) → i < length a.sessions.items → GoesOnWith (mid i) (session_at b i) (bytes_of rules u i ps xs)
    gains i below = group.turned.given i fresh (subst (λ n. i < n) (sym group.gathers.many) below)

    answered_here : (c : Client S) → IsHere moved has_ended failures rules v places answered a c
        → OneAnew moved has_ended failures idle rules v (places ++ ps) (answered ++ xs) b c
    answered_here c here =
        let i : ℕ = c.place in
        let below = has_session rooms c here in
        let w : View = seen rules v here.earlier in
        let Seen : View → Type 0 = λ z. GoesOnWith (mid i) (session_at b i) (bytes_of rules z i ps xs) in
        record {
          now = record { place = i; came = c.came; last = here.line.stream; read = c.read; sent = c.sent; state = session_at b i };
          same = refl;
          is = inl (record {
            earlier_places = here.earlier_places;
            earlier = here.earlier;
            own_places = here.own_places ++ ps;
            own = here.own ++ xs;
            places_are = ap (λ z. z ++ ps) here.places_are ∙ append_assoc here.earlier_places here.own_places ps;
            are = ap (λ z. z ++ xs) here.are ∙ append_assoc here.earlier here.own xs;
            alike = here.alike;
            own_alike = length-append here.own_places ps ∙ omega (arith, here.own_alike, sizes) ∙ sym (length-append here.own xs);
            line = here.line;
            there = lines i ∙ here.there;
            plain = here.plain;
            last = refl;
            state = refl;
            exchanged = subst (λ s. moved c.came s c.read c.sent) here.last here.exchanged;
            later = subst (λ s. failures c.came ≤ failures s) here.last here.later;
            served = served_turn rules w i here.own_places ps here.own xs (has_ended here.line.stream) c.read c.sent (session_at a i) (mid i) (session_at b i) here.own_alike
                (here_served moved has_ended failures idle rules v places answered a c here) (own_before i below)
                (gathered first next ps group.messages a.sessions.items group.between group.gathers i below).1 (subst Seen (is ∙ its_view c here) (gains i below));
          });
        }

    answered_one : (c : Client S) → Before c → OneAnew moved has_ended failures idle rules v (places ++ ps) (answered ++ xs) b c
    answered_one c (inl here) = answered_here c here
    answered_one c (inr left) = record { now = c; same = refl; is = inr (left_still c ps xs left) }

    -- where nobody is, nothing waited, and nothing is gained
    fresh_still : IsFreshWhereFree a → IsFreshWhereFree b
    fresh_still all i free =
        let was : IsFree a i = (subst (λ n. i < n) as_many free.0, sym (lines i) ∙ free.1) in
        let before : session_at a i ≡ fresh = all i was in
        let below : i < length a.sessions.items = subst (λ n. i < n) (sym rooms) was.0 in
        let parts = front_nil (messages_of i ps (messages xs)) (mid i).waiting (sym (ap (λ (s : State). s.waiting) before) ∙ own_before i below) in
        let stays = (gathered first next ps group.messages a.sessions.items group.between group.gathers i below).1 in
        let between : mid i ≡ session_at a i =
        same_state (mid i) (session_at a i) stays.progress (parts.1 ∙ sym (ap (λ (s : State). s.waiting) before)) stays.unsent stays.phase in
        (gains i below).none (no_bytes rules u i ps xs parts.0) ∙ between ∙ before

    pub answered_all : (clients : List (Client S)) → AreServed moved has_ended failures rules v places answered idle a clients
        → (now : List (Client S)) × (map (λ c. c.came) now ≡ map (λ c. c.came) clients) × AreServed moved has_ended failures rules v (places ++ ps) (answered ++ xs) idle b now
    answered_all clients served =
        let anew = seen_anew moved has_ended failures idle rules v (places ++ ps) (answered ++ xs) Before b answered_one clients served.each in (
          anew.now,
          anew.same,
          record { each = anew.each; fresh = fresh_still served.fresh; rooms = many_after ∙ sym as_many },
        )
      where
        many_after : length b.sessions.items ≡ count a
        many_after = group.many ∙ rooms

  -- ---- the store fails at a group

  module _ {D : Type 0} {g : Ghosts D} (old new : Store D g) (u : View) (is_view : u ≡ seen rules v answered) (first next : ℕ) (all_places : List ℕ) (ms : List Message) (between : List State)
      (gathers : Gathers first next all_places ms a.sessions.items between) (fails : TurnFails rules old new u all_places ms between b.sessions.items)
      (rooms : length a.sessions.items ≡ count a) where
    abbrev ys : List Answered
    ys = fails.answered

    abbrev fronts : List ℕ
    fronts = take (length ys) all_places

    abbrev others : List Message
    others = messages fails.failing ++ fails.waiting

    of_places : length all_places ≡ length (messages ys ++ others)
    of_places = gathers.alike ∙ ap length fails.split

    abbrev Left : Client S → Type 0
    Left c = WasLeft moved has_ended failures idle rules v (places ++ fronts) (answered ++ ys) b c

    record FailedAnew (c : Client S) : Type 0 where
      pub now : Client S
      pub same : now.came ≡ c.came
      pub is : Left now

    fails_here : (c : Client S) → IsHere moved has_ended failures rules v places answered a c → FailedAnew c
    fails_here c here =
        let i : ℕ = c.place in
        let below = has_session rooms c here in
        let inside : i < length between = subst (λ n. i < n) (sym gathers.many) below in
        let room : i < length fails.between = subst (λ n. i < n) (sym fails.many) inside in
        let w : View = seen rules v here.earlier in
        let Seen : View → Type 0 = λ z. GoesOnWith (get_or between i fresh) (get_or fails.between i fresh) (bytes_of rules z i fronts ys) in
        let own = gathered first next all_places ms a.sessions.items between gathers i below in
        record {
          now = record { place = i; came = c.came; last = here.line.stream; read = c.read; sent = c.sent; state = session_at b i };
          same = refl;
          is = inr (
            record {
              earlier_places = here.earlier_places;
              earlier = here.earlier;
              own_places = here.own_places ++ fronts;
              own = here.own ++ ys;
              places_are = ap (λ z. z ++ fronts) here.places_are ∙ append_assoc here.earlier_places here.own_places fronts;
              are = ap (λ z. z ++ ys) here.are ∙ append_assoc here.earlier here.own ys;
              exchanged = subst (λ s. moved c.came s c.read c.sent) here.last here.exchanged;
              served = served_or_told rules w i here.own_places all_places here.own ys others (has_ended here.line.stream) c.read c.sent (session_at a i)
                  (get_or between i fresh) (get_or fails.between i fresh) (session_at b i) here.own_alike
                  (here_served moved has_ended failures idle rules v places answered a c here) of_places
                  (own.0 ∙ ap (λ ns. messages_of i all_places ns ++ (get_or between i fresh).waiting) fails.split) own.1
                  (subst Seen (is_view ∙ its_view c here) (fails.given i fresh inside)) (fails.refused i fresh room);
            },
            inl (record { line = here.line; there = lines i ∙ here.there; last = refl; state = refl }),
          );
        }

    fails_one : (c : Client S) → Before c → FailedAnew c
    fails_one c (inl here) = fails_here c here
    fails_one c (inr left) = record { now = c; same = refl; is = inl (left_still c fronts ys left) }

    pub fails_all : (clients : List (Client S)) → AllByRecursion Before clients
        → LeftNow moved has_ended failures idle rules v (places ++ fronts) (answered ++ ys) b clients
    fails_all [] all = record { now = []; came = refl; left = tt }
    fails_all (c ∷ clients) all =
        let one = fails_one c all.0 in
        let more = fails_all clients all.1 in
        record {
          now = one.now ∷ more.now;
          came = ap (λ s. s ∷ map (λ (d : Client S). d.came) more.now) one.same ∙ ap (λ ss. c.came ∷ ss) more.came;
          left = (one.is, more.left);
        }
