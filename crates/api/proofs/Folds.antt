-- Answers, one after another.
use Rattle.std.proofs.Common.{arith, ◌≡◌, ◌≤◌, ◌⊎◌, inl, inr, ⊎_elim, ℕ, List, [], ◌∷◌, ◌++◌, refl, ap, sym, ◌∙◌, append_assoc, subst, Result, Ok, Err}
use Rattle.std.proofs.lemmas.List.{append-nil, map-append}
use Rattle.std.specs.List.{AllByRecursion}
use Rattle.device.specs.declared.device.Device.{Ghosts}
use Rattle.device.proofs.Moments.{followed_by}
use Rattle.names.specs.declared.format.Format.{Format}
use Rattle.names.specs.declared.format.Rules.{Rules}
use Rattle.decoded.specs.Standing.{Write, History, View}
use Rattle.apicore.specs.Admitted.{AreAdmitted}
use Rattle.apicore.proofs.Admitting.{AreAdmitted-append}
use Rattle.histories.specs.View.{view, after_all}
use Rattle.histories.proofs.ViewLemmas.{after_all-append}
use Rattle.durable.specs.declared.store.Store.{Store}
use Rattle.durable.specs.Stands.{StandsFor}
use Rattle.durable.specs.Settled.{device_of, IsFound, IsSettledAt, IsLeftAt, LeavesSome}
use Rattle.durable.proofs.Answering.{view-after}
use Rattle.durable.proofs.Findings.{leaves-idle}
use Rattle.httpmsg.specs.Flow.{HasCause, TookSome, Writes}
use Rattle.httpmsg.specs.Stream.{Message}
use Rattle.api.specs.declared.fault.ServeFault.{ServeFault}
use Rattle.api.specs.declared.fault.ServeFault.TheVariants.{Read, Write as WriteFault, Device, Memory, Damaged, Failed}
use Rattle.routes.specs.ReplyBytes.{reply_bytes}
use Rattle.objects.specs.Failing.{HasGrown}
use Rattle.api.specs.Answers.{Answered, ShowsAt, AreRead, messages, writes_of, reply_of, all_writes, all_bytes, HasApplied, HasFailedIn, Answers, WritesSome, MeetsFailure, Stops}

module _ (rules : Rules) where
  -- what is seen after some answers
  abbrev pub seen : View → List Answered → View
  seen v xs = after_all rules v (all_writes rules v xs)

  pub all_writes-append : (v : View) (xs ys : List Answered) → all_writes rules v (xs ++ ys) ≡ all_writes rules v xs ++ all_writes rules (seen v xs) ys
  all_writes-append v [] ys = refl
  all_writes-append v (x ∷ xs) ys =
      let w : List Write = writes_of rules v x in
      let u : View = after_all rules v w in
      let more : List Write = all_writes rules u xs in
      ap (λ r. w ++ r) (all_writes-append u xs ys)
      ∙ sym (append_assoc w more (all_writes rules (after_all rules u more) ys))
      ∙ ap (λ z. (w ++ more) ++ all_writes rules z ys) (sym (after_all-append rules v w more))

  pub all_bytes-append : (v : View) (xs ys : List Answered) → all_bytes rules v (xs ++ ys) ≡ all_bytes rules v xs ++ all_bytes rules (seen v xs) ys
  all_bytes-append v [] ys = refl
  all_bytes-append v (x ∷ xs) ys =
      let w : List Write = writes_of rules v x in
      let u : View = after_all rules v w in
      let more : List Write = all_writes rules u xs in
      let bytes : List ℕ = reply_bytes rules.format x.message (reply_of rules v x) in
      ap (λ r. bytes ++ r) (all_bytes-append u xs ys)
      ∙ sym (append_assoc bytes (all_bytes rules u xs) (all_bytes rules (after_all rules u more) ys))
      ∙ ap (λ z. (bytes ++ all_bytes rules u xs) ++ all_bytes rules z ys) (sym (after_all-append rules v w more))

  seen-append : (v : View) (xs ys : List Answered) → seen v (xs ++ ys) ≡ seen (seen v xs) ys
  seen-append v xs ys = ap (after_all rules v) (all_writes-append v xs ys) ∙ after_all-append rules v (all_writes rules v xs) (all_writes rules (seen v xs) ys)

none_then : (xs ys : List Answered) → xs ≡ [] → ys ≡ [] → xs ++ ys ≡ []
none_then xs ys first second = ap (λ (z : List Answered). z ++ ys) first ∙ second

read_then : (format : Format) (xs ys : List Answered) → AreRead format xs → AreRead format ys → AreRead format (xs ++ ys)
read_then format [] ys first second = second
read_then format (x ∷ xs) ys first second = (first.0, read_then format xs ys first.1 second)

module _ (rules : Rules) where
  -- the writes of some answers, and then of others
  admitted_then : (v : View) (xs ys : List Answered) → AreAdmitted rules v (all_writes rules v xs)
      → AreAdmitted rules (seen rules v xs) (all_writes rules (seen rules v xs) ys) → AreAdmitted rules v (all_writes rules v (xs ++ ys))
  admitted_then v xs ys first second =
      subst (AreAdmitted rules v) (sym (all_writes-append rules v xs ys))
      (AreAdmitted-append rules v (all_writes rules v xs) (all_writes rules (seen rules v xs) ys) first second)

  -- the view of a history, and of what follows it
  pub seen_view : (v : View) (h : History) (ws : List Write) → v ≡ view rules h → after_all rules v ws ≡ view rules (h ++ ws)
  seen_view v h ws is = ap (λ x. after_all rules x ws) is ∙ view-after rules h ws

-- ---- what is found

module _ (rules : Rules) where
  found_before : (h : History) (writes more : List Write) (c : List ℕ) → IsFound rules h [] writes c → IsFound rules h [] (writes ++ more) c
  found_before h writes more c found = record {
    more = found.more;
    rest = found.rest ++ more;
    parts = ap (λ w. w ++ more) found.parts ∙ append_assoc found.more found.rest more;
    stands = found.stands;
  }

  pub found_after : (h : History) (first kept writes : List Write) (c : List ℕ) → IsFound rules (h ++ first) kept writes c
      → IsFound rules h (first ++ kept) (first ++ writes) c
  found_after h first kept writes c found = record {
    more = found.more;
    rest = found.rest;
    parts = ap (λ w. first ++ w) found.parts ∙ sym (append_assoc first kept (found.more ++ found.rest));
    stands = subst (StandsFor rules c)
        (append_assoc h first (kept ++ found.more) ∙ ap (λ w. h ++ w) (sym (append_assoc first kept found.more))) found.stands;
  }

  found_later : (h : History) (first writes : List Write) (c : List ℕ) → IsFound rules (h ++ first) [] writes c → IsFound rules h [] (first ++ writes) c
  found_later h first writes c found = record {
    more = first ++ found.more;
    rest = found.rest;
    parts = ap (λ w. first ++ w) found.parts ∙ sym (append_assoc first found.more found.rest);
    stands = subst (StandsFor rules c) (append_assoc h first found.more) found.stands;
  }

module _ {D : Type 0} {g : Ghosts D} (rules : Rules) where
  -- the moments of one run and then of another
  pub moments_then : (old mid new : Store D g) (h : History) (first second : List Write) → LeavesSome rules old mid h first
      → LeavesSome rules mid new (h ++ first) second → LeavesSome rules old new h (first ++ second)
  moments_then old mid new h first second before after =
      followed_by g.disk (device_of old) (device_of mid) (device_of new) (IsFound rules h [] first) (IsFound rules (h ++ first) [] second)
      (IsFound rules h [] (first ++ second)) before after (found_before rules h first second) (found_later rules h first second)

  pub left_after : (new : Store D g) (h : History) (first kept writes : List Write) → IsLeftAt rules new (h ++ first) kept writes
      → IsLeftAt rules new h (first ++ kept) (first ++ writes)
  left_after new h first kept writes left = record {
    stopped = left.stopped;
    keeps = left.keeps;
    read = found_after rules h first kept writes (g.disk.content (device_of new)) left.read;
    left = λ c is. found_after rules h first kept writes c (left.left c is);
  }

  pub applied_then : (old mid new : Store D g) (v : View) (xs ys : List Answered) → HasApplied rules old mid v xs
      → HasApplied rules mid new (seen rules v xs) ys → HasApplied rules old new v (xs ++ ys)
  applied_then old mid new v xs ys before after =
      let us : List Write = all_writes rules v xs in
      let ws : List Write = all_writes rules (seen rules v xs) ys in
      let writes : all_writes rules v (xs ++ ys) ≡ us ++ ws = all_writes-append rules v xs ys in
      record {
        serving = after.serving ∙ before.serving;
        shows = subst (ShowsAt rules new) (sym (seen-append rules v xs ys)) after.shows;
        failed = λ stopped.
            let first = before.failed stopped in
            let second = after.failed (before.serving ∙ stopped) in
            (second.0 ∙ first.0, none_then xs ys first.1 second.1);
        specified = read_then rules.format xs ys before.specified after.specified;
        admitted = admitted_then rules v xs ys before.admitted after.admitted;
        settled = λ h is settled. subst (IsSettledAt rules new) (append_assoc h us ws ∙ ap (λ w. h ++ w) (sym writes))
            (after.settled (h ++ us) (seen_view rules v h us is) (before.settled h is settled));
        moments = λ h is settled. subst (LeavesSome rules old new h) (sym writes)
            (moments_then old mid new h us ws (before.moments h is settled)
            (after.moments (h ++ us) (seen_view rules v h us is) (before.settled h is settled)));
      }

  pub applied_none : (store : Store D g) (v : View) → ShowsAt rules store v
      → (g.disk.keeps (device_of store) → (c : List ℕ) → g.disk.since (device_of store) (g.disk.moment (device_of store)) c → g.disk.left (device_of store) c)
      → HasApplied rules store store v []
  applied_none store v shows only_now = record {
    serving = refl;
    shows = shows;
    failed = λ stopped. (refl, refl);
    specified = tt;
    admitted = tt;
    settled = λ h is settled. subst (IsSettledAt rules store) (sym (append-nil h)) settled;
    moments = λ h is settled. leaves-idle rules store h [] (only_now settled.keeps) settled;
  }

  -- some answers, and then the device fails
  pub failed_then : (old mid new : Store D g) (v : View) (xs ys last : List Answered) → HasApplied rules old mid v xs
      → HasFailedIn rules mid new (seen rules v xs) ys last → HasFailedIn rules old new v (xs ++ ys) last
  failed_then old mid new v xs ys last before after =
      let first : List Write = all_writes rules v xs in
      let u : View = seen rules v xs in
      let kept : first ++ all_writes rules u ys ≡ all_writes rules v (xs ++ ys) = sym (all_writes-append rules v xs ys) in
      let all : first ++ all_writes rules u (ys ++ last) ≡ all_writes rules v ((xs ++ ys) ++ last) =
      sym (all_writes-append rules v xs (ys ++ last)) ∙ ap (all_writes rules v) (sym (append_assoc xs ys last))
      in
      record {
        some = after.some;
        few = after.few;
        tried = subst (λ b. AllByRecursion (λ a. a.is_served ≡ b) last) before.serving after.tried;
        stopped = after.stopped;
        failed = λ stopped.
            let earlier = before.failed stopped in
            let then_ = after.failed (before.serving ∙ stopped) in
            (then_.0 ∙ earlier.0, none_then xs ys earlier.1 then_.1);
        specified = subst (AreRead rules.format) (sym (append_assoc xs ys last)) (read_then rules.format xs (ys ++ last) before.specified after.specified);
        admitted = subst (λ zs. AreAdmitted rules v (all_writes rules v zs)) (sym (append_assoc xs ys last))
            (admitted_then rules v xs (ys ++ last) before.admitted after.admitted);
        left = λ h is settled. subst (λ k. IsLeftAt rules new h k (all_writes rules v ((xs ++ ys) ++ last))) kept
            (subst (IsLeftAt rules new h (first ++ all_writes rules u ys)) all
            (left_after new h first (all_writes rules u ys) (all_writes rules u (ys ++ last))
            (after.left (h ++ first) (seen_view rules v h first is) (before.settled h is settled))));
        moments = λ h is settled. subst (LeavesSome rules old new h) all
            (moments_then old mid new h first (all_writes rules u (ys ++ last)) (before.moments h is settled)
            (after.moments (h ++ first) (seen_view rules v h first is) (before.settled h is settled)));
      }

-- ---- bytes and messages

module _ (rules : Rules) where
  pub bytes_then : (v : View) (xs ys : List Answered) (closing : List ℕ)
      → (all_bytes rules v xs ++ []) ++ (all_bytes rules (seen rules v xs) ys ++ closing) ≡ all_bytes rules v (xs ++ ys) ++ closing
  bytes_then v xs ys closing =
      let back : List ℕ = all_bytes rules (seen rules v xs) ys in
      ap (λ b. b ++ (back ++ closing)) (append-nil (all_bytes rules v xs)) ∙ sym (append_assoc (all_bytes rules v xs) back closing)
      ∙ ap (λ b. b ++ closing) (sym (all_bytes-append rules v xs ys))

pub messages_then : (xs ys : List Answered) (ms ns : List Message) → messages xs ≡ ms → messages ys ≡ ns → messages (xs ++ ys) ≡ ms ++ ns
messages_then xs ys ms ns first second = map-append (λ (a : Answered). a.message) xs ys ∙ ap (λ z. z ++ messages ys) first ∙ ap (λ z. ms ++ z) second

pub split_then : (xs : List Answered) (ms ns : List Message) (ys : List Answered) (waiting : List Message) → messages xs ≡ ms
    → ns ≡ messages ys ++ waiting → ms ++ ns ≡ messages (xs ++ ys) ++ waiting
split_then xs ms ns ys waiting first second =
    ap (λ z. z ++ ns) (sym first) ∙ ap (λ z. messages xs ++ z) second ∙ sym (append_assoc (messages xs) (messages ys) waiting)
    ∙ ap (λ z. z ++ waiting) (sym (map-append (λ (a : Answered). a.message) xs ys))

-- what was written, whether the call failed or not
pub took_some_of : {O T E : Type 0} (took : O → O → List ℕ → Type 0) (o p : O) (bytes : List ℕ) (r : Result T E) → Writes took o p bytes r
    → TookSome took o p bytes
took_some_of took o p bytes (Ok x) writes = record { front = bytes; rest = []; split = sym (append-nil bytes); taken = writes }
took_some_of took o p bytes (Err e) writes = writes

-- all of it, unless the output failed
pub took_whole : {O T E : Type 0} (took : O → O → List ℕ → Type 0) (o p : O) (bytes : List ℕ) (r : Result T E) (before now : ℕ)
    → (writes : Writes took o p bytes r) → HasCause before now r → ((took_some_of took o p bytes r writes).rest ≡ []) ⊎ HasGrown before now
unfolding took_some_of
took_whole took o p bytes (Ok x) before now writes cause = inl refl
took_whole took o p bytes (Err e) before now writes cause = inr (cause.failed refl)

pub grown_after : (a b c : ℕ) → a ≤ b → HasGrown b c → HasGrown a c
grown_after a b c le (inl grown) = inl (omega (arith, le, grown))
grown_after a b c le (inr most) = inr most

-- ---- answers

module _ {O D : Type 0} {g : Ghosts D} (rules : Rules) (took : O → O → List ℕ → Type 0) where
  pub answers_none : (o : O) (store : Store D g) (v : View) → took o o [] → ShowsAt rules store v
      → (g.disk.keeps (device_of store) → (c : List ℕ) → g.disk.since (device_of store) (g.disk.moment (device_of store)) c → g.disk.left (device_of store) c)
      → Answers rules took o o store store v [] []
  answers_none o store v none shows only_now = record { answered = []; answers = refl; written = none; store = applied_none rules store v shows only_now }

  -- further messages wait
  abbrev pub fails_before : (failures : O → ℕ) (o p : O) (old new : Store D g) (v : View) (ms more : List Message)
      → MeetsFailure rules took o p old new failures v ms → MeetsFailure rules took o p old new failures v (ms ++ more)
  fails_before failures o p old new v ms more stops = record {
    answered = stops.answered;
    failing = stops.failing;
    waiting = stops.waiting ++ more;
    split = ap (λ z. z ++ more) stops.split ∙ append_assoc (messages stops.answered) (messages stops.failing ++ stops.waiting) more
        ∙ ap (λ z. messages stops.answered ++ z) (append_assoc (messages stops.failing) stops.waiting more);
    closing = stops.closing;
    unwritten = stops.unwritten;
    refusal = stops.refusal;
    whole = stops.whole;
    written = stops.written;
    store = stops.store;
  }

  pub stops_before : (failures : O → ℕ) (o p : O) (old new : Store D g) (v : View) (ms more : List Message) (fault : ServeFault)
      → Stops rules took failures o p old new v ms fault → Stops rules took failures o p old new v (ms ++ more) fault
  stops_before failures o p old new v ms more Read stops = stops
  stops_before failures o p old new v ms more WriteFault stops = record {
    answered = stops.answered;
    waiting = stops.waiting ++ more;
    split = ap (λ z. z ++ more) stops.split ∙ append_assoc (messages stops.answered) stops.waiting more;
    written = stops.written;
    store = stops.store;
  }
  stops_before failures o p old new v ms more Device stops = fails_before failures o p old new v ms more stops
  stops_before failures o p old new v ms more Memory stops = stops
  stops_before failures o p old new v ms more (Damaged damage) stops = stops
  stops_before failures o p old new v ms more Failed stops = fails_before failures o p old new v ms more stops

  -- The messages before the rest are answered.
  pub record AnswersBefore (o p : O) (old new : Store D g) (v : View) (ms rest : List Message) : Type 0 where
    pub front : List Message
    pub split : ms ≡ front ++ rest
    pub answers : Answers rules took o p old new v front []

module _ {O D : Type 0} {g : Ghosts D} (rules : Rules) (took : O → O → List ℕ → Type 0)
    (took_then : (old mid new : O) (front back : List ℕ) → took old mid front → took mid new back → took old new (front ++ back)) where
  -- the answers to some messages and then to others
  pub answers_then : (o q p : O) (old mid new : Store D g) (v : View) (ms ns : List Message) (closing : List ℕ)
      → (before : Answers rules took o q old mid v ms []) → Answers rules took q p mid new (seen rules v before.answered) ns closing
      → Answers rules took o p old new v (ms ++ ns) closing
  answers_then o q p old mid new v ms ns closing before after =
      let xs : List Answered = before.answered in
      let ys : List Answered = after.answered in
      record {
        answered = xs ++ ys;
        answers = messages_then xs ys ms ns before.answers after.answers;
        written = subst (took o p) (bytes_then rules v xs ys closing)
            (took_then o q p (all_bytes rules v xs ++ []) (all_bytes rules (seen rules v xs) ys ++ closing) before.written after.written);
        store = applied_then rules old mid new v xs ys before.store after.store;
      }

  -- the answers to some messages, and then some of those to others
  abbrev pub writes_some_then : (o q p : O) (old mid new : Store D g) (v : View) (ms ns : List Message) (closing : List ℕ)
      → (before : Answers rules took o q old mid v ms []) → WritesSome rules took q p mid new (seen rules v before.answered) ns closing
      → WritesSome rules took o p old new v (ms ++ ns) closing
  writes_some_then o q p old mid new v ms ns closing before after =
      let xs : List Answered = before.answered in
      let ys : List Answered = after.answered in
      let front : List ℕ = all_bytes rules v xs ++ [] in
      record {
        answered = xs ++ ys;
        waiting = after.waiting;
        split = split_then xs ms ns ys after.waiting before.answers after.split;
        written = record {
          front = front ++ after.written.front;
          rest = after.written.rest;
          split = sym (bytes_then rules v xs ys closing) ∙ ap (λ b. front ++ b) after.written.split
              ∙ sym (append_assoc front after.written.front after.written.rest);
          taken = took_then o q p front after.written.front before.written after.written.taken;
        };
        store = applied_then rules old mid new v xs ys before.store after.store;
      }

  -- the answers to some messages, and then the device fails at another
  pub fails_then : (failures : O → ℕ) (o q p : O) → failures o ≤ failures q → (old mid new : Store D g) (v : View) (ms ns : List Message)
      → (before : Answers rules took o q old mid v ms []) → MeetsFailure rules took q p mid new failures (seen rules v before.answered) ns
      → MeetsFailure rules took o p old new failures v (ms ++ ns)
  fails_then failures o q p later old mid new v ms ns before after =
      let xs : List Answered = before.answered in
      let ys : List Answered = after.answered in
      let u : View = seen rules v xs in
      record {
        answered = xs ++ ys;
        failing = after.failing;
        waiting = after.waiting;
        split = split_then xs ms ns ys (messages after.failing ++ after.waiting) before.answers after.split;
        closing = after.closing;
        unwritten = after.unwritten;
        refusal = after.refusal;
        whole = ⊎_elim (λ none. inl none) (λ grown. inr (grown_after (failures o) (failures q) (failures p) later grown)) after.whole;
        written = subst (took o p) (bytes_then rules v xs ys after.closing)
            (took_then o q p (all_bytes rules v xs ++ []) (all_bytes rules u ys ++ after.closing) before.written after.written);
        store = failed_then rules old mid new v xs ys after.failing before.store after.store;
      }

  pub stops_then : (failures : O → ℕ) (o q p : O) → failures o ≤ failures q → (old mid new : Store D g) (v : View) (ms ns : List Message) (fault : ServeFault)
      → (before : Answers rules took o q old mid v ms []) → Stops rules took failures q p mid new (seen rules v before.answered) ns fault
      → Stops rules took failures o p old new v (ms ++ ns) fault
  stops_then failures o q p later old mid new v ms ns Read before after = after
  stops_then failures o q p later old mid new v ms ns WriteFault before after = writes_some_then o q p old mid new v ms ns [] before after
  stops_then failures o q p later old mid new v ms ns Device before after = fails_then failures o q p later old mid new v ms ns before after
  stops_then failures o q p later old mid new v ms ns Memory before after = after
  stops_then failures o q p later old mid new v ms ns (Damaged damage) before after = after
  stops_then failures o q p later old mid new v ms ns Failed before after = fails_then failures o q p later old mid new v ms ns before after

  -- none yet
  pub before_none : (o : O) (store : Store D g) (v : View) (ms : List Message) → took o o [] → ShowsAt rules store v
      → (g.disk.keeps (device_of store) → (c : List ℕ) → g.disk.since (device_of store) (g.disk.moment (device_of store)) c → g.disk.left (device_of store) c)
      → AnswersBefore rules took o o store store v ms ms
  before_none o store v ms none shows only_now = record { front = []; split = refl; answers = answers_none rules took o store v none shows only_now }

  -- some more of them
  pub before_more : (o q p : O) (old mid new : Store D g) (v : View) (ms rest next more : List Message) → (before : AnswersBefore rules took o q old mid v ms rest)
      → rest ≡ next ++ more → Answers rules took q p mid new (seen rules v before.answers.answered) next [] → AnswersBefore rules took o p old new v ms more
  before_more o q p old mid new v ms rest next more before is after = record {
    front = before.front ++ next;
    split = before.split ∙ ap (λ (x : List Message). before.front ++ x) is ∙ sym (append_assoc before.front next more);
    answers = answers_then o q p old mid new v before.front next [] before.answers after;
  }

  -- all of them
  pub before_all : (o p : O) (old new : Store D g) (v : View) (ms rest : List Message) → AnswersBefore rules took o p old new v ms rest → rest ≡ []
      → Answers rules took o p old new v ms []
  before_all o p old new v ms rest before none =
      subst (λ (x : List Message). Answers rules took o p old new v x [])
      (sym (before.split ∙ ap (λ (x : List Message). before.front ++ x) none ∙ append-nil before.front)) before.answers

  -- or it stops at the next ones
  pub before_stops : (failures : O → ℕ) (o q p : O) → failures o ≤ failures q → (old mid new : Store D g) (v : View) (ms rest next more : List Message)
      (fault : ServeFault) → (before : AnswersBefore rules took o q old mid v ms rest) → rest ≡ next ++ more
      → Stops rules took failures q p mid new (seen rules v before.answers.answered) next fault → Stops rules took failures o p old new v ms fault
  before_stops failures o q p later old mid new v ms rest next more fault before is after =
      subst (λ (x : List Message). Stops rules took failures o p old new v x fault)
      (append_assoc before.front next more ∙ ap (λ (x : List Message). before.front ++ x) (sym is) ∙ sym before.split)
      (stops_before rules took failures o p old new v (before.front ++ next) more fault
      (stops_then failures o q p later old mid new v before.front next fault before.answers after))
