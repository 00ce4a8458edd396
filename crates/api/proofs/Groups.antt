-- The answers to the messages of a group, from what the store replied.
use Rattle.std.proofs.Common.{arith, ◌≡◌, ◌<◌, ◌≤◌, ◌+◌, ◌∙◌, sym, ap, refl, subst, ◌⊎◌, inl, inr, ℕ, suc, List, [], ◌∷◌, ◌++◌, length, map, take, drop, get_or, true, false, true≢false, Option, None}
use Rattle.std.specs.Prelude.{option_map}
use Rattle.std.specs.Borrow.{Bor}
use Rattle.std.specs.List.{AllByRecursion}
use Rattle.std.proofs.lemmas.List.{append-nil, append_assoc, take-append-drop, take-map, take-take, take_all, length-map, length-take, length-append, get_or-map, get_or-take}
use Rattle.device.specs.declared.device.Device.{Ghosts}
use Rattle.http.specs.StatusCode.{IsStatusCode}
use Rattle.requests.specs.declared.refusal.Refusal.TheVariants.{OutOfMemory, StorageFailed}
use Rattle.requests.specs.Request.{Request}
use Rattle.names.specs.declared.format.Format.{Format}
use Rattle.names.specs.declared.format.Rules.{Rules}
use Rattle.records.specs.Payload.{group_limit}
use Rattle.expressions.specs.Specification.{sound}
use Rattle.decoded.specs.Standing.{Write, History, View}
use Rattle.apicore.specs.Admitted.{AreAdmitted}
use Rattle.apicore.specs.Prepared.{IsReadOf}
use Rattle.apicore.specs.Step.{Asked, writes, reply, accepted, replies}
use Rattle.requests.specs.Reply.{Reply, status}
use Rattle.histories.specs.View.{view, after_all}
use Rattle.durable.specs.declared.fault.Damage.{Damage}
use Rattle.durable.specs.declared.store.Store.{Store}
use Rattle.durable.specs.Settled.{added, device_of, format_of, serves, ServesAt, IsSettledAt, IsLeftAt, LeavesSome, HasAnsweredAt, HasServedAs, HasServed, HasStopped}
use Rattle.durable.proofs.Numbers.{kept_format}
use Rattle.durable.proofs.Running.{found_first}
use Rattle.httpmsg.specs.Flow.{TookSome}
use Rattle.httpmsg.specs.Stream.{Message}
use Rattle.routes.specs.Allow.{allow_of}
use Rattle.routes.specs.Asked.{asked}
use Rattle.api.specs.declared.fault.ServeFault.{ServeFault}
use Rattle.api.specs.declared.fault.ServeFault.TheVariants.{Device, Damaged, Failed}
use Rattle.routes.specs.ReplyBytes.{reply_bytes, closing_bytes}
use Rattle.routes.specs.AnswerBytes.{answers_bytes, CanAnswerAll}
use Rattle.objects.specs.Failing.{HasGrown}
use Rattle.api.specs.Answers.{Answered, served, asked_of, messages, AreRead, all_writes, all_bytes, ShowsAt, HasApplied, HasFailedIn, Answers, WritesSome, MeetsFailure, Stops}
use Rattle.api.proofs.Codes.{request_code}

-- ---- messages, and what was asked in the first of them

-- a message that was not served
abbrev pub refused : Message → Answered
refused m = record { message = m; specification = sound []; is_served = false }

-- the messages: those in which this was asked were served, and the others were not
abbrev pub served_as : List Message → List Asked → List Answered
served_as [] xs = []
served_as (m ∷ ms) [] = refused m ∷ served_as ms []
served_as (m ∷ ms) (x ∷ xs) = served m x.specification ∷ served_as ms xs

-- this was asked in the first of the messages
abbrev pub AskedFirst : Format → List Asked → List Message → Type 0
AskedFirst format [] ms = Unit {0}
AskedFirst format (x ∷ xs) [] = ⊥
AskedFirst format (x ∷ xs) (m ∷ ms) = (x.request ≡ asked format m) × AskedFirst format xs ms

pub asked_first : (format : Format) (xs : List Asked) (ms : List Message) (rest : List Request) → map (λ (x : Asked). x.request) xs ++ rest ≡ map (asked format) ms
    → AskedFirst format xs ms
asked_first format [] ms rest is = tt
asked_first format (x ∷ xs) [] rest is = cc
asked_first format (x ∷ xs) (m ∷ ms) rest is =
    let head : x.request ≡ asked format m = cc in
    let tail : map (λ (y : Asked). y.request) xs ++ rest ≡ map (asked format) ms = cc in
    (head, asked_first format xs ms rest tail)

pub messages-served_as : (ms : List Message) (xs : List Asked) → messages (served_as ms xs) ≡ ms
messages-served_as [] xs = refl
messages-served_as (m ∷ ms) [] = ap (λ (more : List Message). m ∷ more) (messages-served_as ms [])
messages-served_as (m ∷ ms) (x ∷ xs) = ap (λ (more : List Message). m ∷ more) (messages-served_as ms xs)

-- what was asked in a message that was served
pub same_asked : (format : Format) (m : Message) (x : Asked) → x.request ≡ asked format m → asked_of format (served m x.specification) ≡ x
same_asked format m x is = let With : Request → Asked = λ q. record { request = q; specification = x.specification } in ap With (sym is)

module _ (rules : Rules) where
  -- their writes are those that were accepted
  pub all_writes-served_as : (v : View) (ms : List Message) (xs : List Asked) → AskedFirst rules.format xs ms → all_writes rules v (served_as ms xs) ≡ accepted rules v xs
  all_writes-served_as v [] [] first = refl
  all_writes-served_as v [] (x ∷ xs) first = absurd first
  all_writes-served_as v (m ∷ ms) [] first = all_writes-served_as v ms [] tt
  all_writes-served_as v (m ∷ ms) (x ∷ xs) first =
      ap (λ y. writes rules v y ++ all_writes rules (after_all rules v (writes rules v y)) (served_as ms xs)) (same_asked rules.format m x first.0)
      ∙ ap (λ (ws : List Write). writes rules v x ++ ws) (all_writes-served_as (after_all rules v (writes rules v x)) ms xs first.1)

  -- the bytes of their answers are those of the replies
  pub all_bytes-served_as : (v : View) (ms : List Message) (xs : List Asked) → AskedFirst rules.format xs ms
      → all_bytes rules v (served_as ms xs) ≡ answers_bytes rules.format ms (replies rules v xs)
  all_bytes-served_as v [] [] first = refl
  all_bytes-served_as v [] (x ∷ xs) first = absurd first
  all_bytes-served_as v (m ∷ ms) [] first = ap (λ b. reply_bytes rules.format m (status OutOfMemory) ++ b) (all_bytes-served_as v ms [] tt)
  all_bytes-served_as v (m ∷ ms) (x ∷ xs) first =
      ap (λ y. reply_bytes rules.format m (reply rules v y) ++ all_bytes rules (after_all rules v (writes rules v y)) (served_as ms xs)) (same_asked rules.format m x first.0)
      ∙ ap (λ b. reply_bytes rules.format m (reply rules v x) ++ b) (all_bytes-served_as (after_all rules v (writes rules v x)) ms xs first.1)

  length-replies : (v : View) (xs : List Asked) → length (replies rules v xs) ≡ length xs
  length-replies v [] = refl
  length-replies v (x ∷ xs) = ap suc (length-replies (after_all rules v (writes rules v x)) xs)

  codes_of : (v : View) (xs : List Asked) → AllByRecursion (λ (r : Reply). IsStatusCode r.code) (replies rules v xs)
  codes_of v [] = tt
  codes_of v (x ∷ xs) = (request_code rules v x, codes_of (after_all rules v (writes rules v x)) xs)

-- in the document of each request stands what is said
abbrev pub AllRead : Format → List Asked → Type 0
AllRead format xs = AllByRecursion (λ (x : Asked). IsReadOf format x.request x.specification) xs

pub read-served_as : (format : Format) (ms : List Message) (xs : List Asked) → AskedFirst format xs ms → AllRead format xs → AreRead format (served_as ms xs)
read-served_as format [] xs first read = tt
read-served_as format (m ∷ ms) [] first read = ((λ is. absurd (true≢false (sym is))), read-served_as format ms [] tt tt)
read-served_as format (m ∷ ms) (x ∷ xs) first read =
    ((λ is. subst (λ q. IsReadOf format q x.specification) first.0 read.0), read-served_as format ms xs first.1 read.1)

-- where something was asked in each message, all of them were served
all_served : (ms : List Message) (xs : List Asked) → length ms ≤ length xs → AllByRecursion (λ (a : Answered). a.is_served ≡ true) (served_as ms xs)
all_served [] xs few = tt
all_served (m ∷ ms) [] few = absurd (omega arith)
all_served (m ∷ ms) (x ∷ xs) few = (refl, all_served ms xs (omega (arith, few)))

-- ---- the store

module _ {D : Type 0} {g : Ghosts D} (rules : Rules) (old new : Store D g) (v : View) (ms : List Message) (xs : List Asked) (first : AskedFirst rules.format xs ms) where
  -- what they add to a history with this view
  added_is : (h : History) → v ≡ view rules h → added rules h xs ≡ all_writes rules v (served_as ms xs)
  added_is h is = ap (λ x. accepted rules x xs) (sym is) ∙ sym (all_writes-served_as rules v ms xs first)

  applied_as : serves old ≡ true → AllRead rules.format xs → (given : List Reply)
      → HasAnsweredAt rules old new v xs given → ((h : History) → IsSettledAt rules old h → HasServedAs rules old new h xs)
      → HasApplied rules old new v (served_as ms xs)
  applied_as working read given at settled =
      let same : accepted rules v xs ≡ all_writes rules v (served_as ms xs) = sym (all_writes-served_as rules v ms xs first) in
      record {
        serving = at.serving.working ∙ sym working;
        shows = λ goes_on. subst (λ (ws : List Write). ServesAt rules new (after_all rules v ws)) same at.serving;
        failed = λ stopped. absurd (true≢false (sym working ∙ stopped));
        specified = read-served_as rules.format ms xs first read;
        admitted = subst (AreAdmitted rules v) same at.admitted;
        settled = λ h is s. subst (λ (ws : List Write). IsSettledAt rules new (h ++ ws)) (added_is h is) (settled h s).settled;
        moments = λ h is s. subst (LeavesSome rules old new h) (added_is h is) (settled h s).moments;
      }

-- a store that serves under these numbers has their format
format_kept : {D : Type 0} {g : Ghosts D} (rules : Rules) (store : Store D g) (v : View) → ServesAt rules store v → format_of store ≡ rules.format
format_kept rules store v serving = sym (kept_format store) ∙ ap (λ (r : Rules). r.format) serving.rules_are

-- ---- messages from the front of a group

-- where all requests were answered, there are as many replies
pub served_all : {D : Type 0} {g : Ghosts D} (rules : Rules) (old new : Store D g) (v : View) (requests : List Request) (given : List Reply)
    → ServesAt rules old v → HasServed old new requests given → HasServed old new (take (length given) requests) given
served_all rules old new v requests given serving said =
    let counts : length requests ≤ length given =
    omega (
      arith,
      ap length (said.shown rules v serving).answered,
      length-replies rules v said.asked,
      length-map said.asked (λ (x : Asked). x.request),
      ap length said.are.are,
    )
    in
    subst (λ (rs : List Request). HasServed old new rs given) (sym (take_all (length given) requests counts)) said

-- what was asked in the first messages, of which more are answered
front_asked : (format : Format) (xs : List Asked) (ms : List Message) (k n count : ℕ) → map (λ (x : Asked). x.request) xs ≡ take k (map (asked format) (take n ms)) → k ≤ n → k ≤ count
    → AskedFirst format xs (take count ms)
front_asked format xs ms k n count is routed counted =
    let all : List Request = map (asked format) (take count ms) in
    let first : map (λ (x : Asked). x.request) xs ≡ take k all =
    is ∙ take-map (asked format) k (take n ms) ∙ ap (map (asked format)) (take-take k n ms routed ∙ sym (take-take k count ms counted)) ∙ sym (take-map (asked format) k (take count ms))
    in
    asked_first format xs (take count ms) (drop k all) (ap (λ (qs : List Request). qs ++ drop k all) first ∙ take-append-drop k all)

-- as many were asked as replies were given, and no more than requests
few_asked : (format : Format) (xs : List Asked) (ms : List Message) (k n : ℕ) → map (λ (x : Asked). x.request) xs ≡ take k (map (asked format) (take n ms)) → k ≡ length xs → k ≤ n
few_asked format xs ms k n is same =
    omega (
      arith,
      same,
      sym (length-map xs (λ (x : Asked). x.request)) ∙ ap length is,
      length-take k (map (asked format) (take n ms)),
      length-map (take n ms) (asked format),
      length-take n ms,
    )

-- the methods that stand beside the replies to the first messages
front_allowed : (format : Format) (ms : List Message) (allows : List (Option (Bor (List ℕ)))) (n count i : ℕ) (m : Message)
    → map (option_map (λ (methods : Bor (List ℕ)). methods.now)) allows ≡ map (allow_of format) (take n ms) → n ≤ length ms → i < length (take count ms) → i < n
    → option_map (λ (methods : Bor (List ℕ)). methods.now) (get_or allows i None) ≡ allow_of format (get_or (take count ms) i m)
front_allowed format ms allows n count i m is routed below among =
    let seen : Option (Bor (List ℕ)) → Option (List ℕ) = option_map (λ (methods : Bor (List ℕ)). methods.now) in
    let few : i < length (take n ms) = omega (arith, length-take n ms) in
    let known : i < length allows = omega (arith, sym (length-map allows seen) ∙ ap length is, length-map (take n ms) (allow_of format)) in
    let here : i < count = omega (arith, length-take count ms) in
    sym (get_or-map seen allows i None None known) ∙ ap (λ (os : List (Option (List ℕ))). get_or os i None) is
    ∙ get_or-map (allow_of format) (take n ms) i m None few ∙ ap (allow_of format) (get_or-take n ms i m among ∙ sym (get_or-take count ms i m here))

module _ {D : Type 0} {g : Ghosts D} (rules : Rules) (old new : Store D g) (v : View) (ms : List Message) (n count : ℕ) (given : List Reply)
    (routed : n ≤ length ms) (counted : length given ≤ length ms → length given ≤ count) (serving : ServesAt rules old v)
    (said : HasServed old new (take (length given) (map (asked rules.format) (take n ms))) given) where
  pub replies_are : given ≡ replies rules v said.asked
  replies_are = (said.shown rules v serving).answered

  few_given : length given ≤ n
  few_given = few_asked rules.format said.asked ms (length given) n said.are.are (ap length replies_are ∙ length-replies rules v said.asked)

  pub front_first : AskedFirst rules.format said.asked (take count ms)
  front_first =
      front_asked rules.format said.asked ms (length given) n count said.are.are few_given (counted (omega (arith, few_given, routed)))

  -- they can be answered
  pub front_can_answer : (allows : List (Option (Bor (List ℕ)))) → map (option_map (λ (methods : Bor (List ℕ)). methods.now)) allows ≡ map (allow_of rules.format) (take n ms)
      → CanAnswerAll rules.format (take count ms) given allows
  front_can_answer allows is = record {
    codes = subst (AllByRecursion (λ (r : Reply). IsStatusCode r.code)) (sym replies_are) (codes_of rules v said.asked);
    allowed = λ i m below some. front_allowed rules.format ms allows n count i m is routed below (omega (arith, some, few_given));
  }

  pub front_applied : HasApplied rules old new v (served_as (take count ms) said.asked)
  front_applied =
      applied_as rules old new v (take count ms) said.asked front_first serving.working
      (subst (λ (format : Format). AllRead format said.asked) (format_kept rules old v serving) said.are.read) given (said.shown rules v serving) (said.settled rules)

  front_bytes : answers_bytes rules.format (take count ms) given ≡ all_bytes rules v (served_as (take count ms) said.asked) ++ []
  front_bytes =
      ap (answers_bytes rules.format (take count ms)) replies_are ∙ sym (all_bytes-served_as rules v (take count ms) said.asked front_first)
      ∙ sym (append-nil (all_bytes rules v (served_as (take count ms) said.asked)))

  module _ {O : Type 0} (took : O → O → List ℕ → Type 0) (o p : O) where
    pub front_answers : took o p (answers_bytes rules.format (take count ms) given) → Answers rules took o p old new v (take count ms) []
    front_answers written = record {
      answered = served_as (take count ms) said.asked;
      answers = messages-served_as (take count ms) said.asked;
      written = subst (took o p) front_bytes written;
      store = front_applied;
    }

    pub front_writes_some : TookSome took o p (answers_bytes rules.format (take count ms) given) → WritesSome rules took o p old new v ms []
    front_writes_some written =
        let xs : List Answered = served_as (take count ms) said.asked in
        record {
          answered = xs;
          waiting = drop count ms;
          split = sym (take-append-drop count ms) ∙ ap (λ (front : List Message). front ++ drop count ms) (sym (messages-served_as (take count ms) said.asked));
          written = subst (TookSome took o p) front_bytes written;
          store = front_applied;
        }

-- ---- a device that fails

-- The device failed at the first of the messages, now or before.
pub record FailsAtFirst {D : Type 0} {g : Ghosts D} (rules : Rules) (old new : Store D g) (v : View) (ms : List Message) : Type 0 where
  pub failing : List Answered
  pub waiting : List Message
  pub split : ms ≡ messages failing ++ waiting
  pub store : HasFailedIn rules old new v [] failing

module _ {D : Type 0} {g : Ghosts D} (rules : Rules) (old new : Store D g) (v : View) (ms : List Message) where
  -- in these messages, before which none is answered
  failed_in : (front rest : List Message) (xs : List Asked) → ms ≡ front ++ rest → map (λ (x : Asked). x.request) xs ≡ map (asked rules.format) front → 1 ≤ length xs
      → length ms ≤ group_limit → AllRead rules.format xs → serves old ≡ true → serves new ≡ false
      → AreAdmitted rules v (accepted rules v xs)
      → ((h : History) → IsSettledAt rules old h → IsLeftAt rules new h [] (added rules h xs) × LeavesSome rules old new h (added rules h xs))
      → FailsAtFirst rules old new v ms
  failed_in front rest xs split are some few read working stopped admitted left =
      let first : AskedFirst rules.format xs front = asked_first rules.format xs front [] (append-nil (map (λ (x : Asked). x.request) xs) ∙ are) in
      let failing : List Answered = served_as front xs in
      let same : accepted rules v xs ≡ all_writes rules v failing = sym (all_writes-served_as rules v front xs first) in
      let sizes : length xs ≡ length front = sym (length-map xs (λ (x : Asked). x.request)) ∙ ap length are ∙ length-map front (asked rules.format) in
      let size : length failing ≡ length front = sym (length-map failing (λ (a : Answered). a.message)) ∙ ap length (messages-served_as front xs) in
      let within : length ms ≡ length front + length rest = ap length split ∙ length-append front rest in
      record {
        failing = failing;
        waiting = rest;
        split = split ∙ ap (λ (x : List Message). x ++ rest) (sym (messages-served_as front xs));
        store = record {
          some = omega (arith, some, sizes, size);
          few = omega (arith, few, size, within);
          tried = subst (λ b. AllByRecursion (λ (a : Answered). a.is_served ≡ b) failing) (sym working) (all_served front xs (omega (arith, sizes)));
          stopped = stopped;
          failed = λ is. absurd (true≢false (sym working ∙ is));
          specified = read-served_as rules.format front xs first read;
          admitted = subst (AreAdmitted rules v) same admitted;
          left = λ h is s. subst (IsLeftAt rules new h []) (added_is rules old new v front xs first h is) (left h s).0;
          moments = λ h is s. subst (LeavesSome rules old new h) (added_is rules old new v front xs first h is) (left h s).1;
        };
      }

  -- it fails now
  front_fails : (n : ℕ) (given : List Reply) → length ms ≤ group_limit → serves old ≡ true → serves new ≡ false → ServesAt rules old v
      → HasStopped old new (map (asked rules.format) (take n ms)) given → FailsAtFirst rules old new v ms
  front_fails n given few working stopped serving at =
      let k : ℕ = length given + length at.failing in
      let xs : List Asked = at.asked ++ at.failing in
      failed_in (take k (take n ms)) (drop k (take n ms) ++ drop n ms) xs
      (sym (take-append-drop n ms) ∙ ap (λ (x : List Message). x ++ drop n ms) (sym (take-append-drop k (take n ms)))
      ∙ append_assoc (take k (take n ms)) (drop k (take n ms)) (drop n ms))
      (at.are.are ∙ take-map (asked rules.format) k (take n ms)) (omega (arith, at.some, length-append at.asked at.failing)) few (subst (λ (format : Format). AllRead format xs) (format_kept rules old v serving) at.are.read) working stopped
      (at.shown rules v serving).2
      (λ h s. let now = at.stopped rules h s in (left_first (added rules h at.asked) (added rules h xs) h now.left, now.moments))
    where
      left_first : (us ws : List Write) (h : History) → IsLeftAt rules new h us ws → IsLeftAt rules new h [] ws
      left_first us ws h left = record {
        stopped = left.stopped;
        keeps = left.keeps;
        read = found_first rules h us ws (g.disk.content (device_of new)) left.read;
        left = λ c is. found_first rules h us ws c (left.left c is);
      }

  -- it had failed before
  front_failed : 1 ≤ length ms → serves old ≡ false → new ≡ old → FailsAtFirst rules old new v ms
  front_failed some stopped same = on ms some
    where
      on : (xs : List Message) → 1 ≤ length xs → FailsAtFirst rules old new v xs
      on [] none = absurd (omega arith)
      on (m ∷ more) one = record {
        failing = refused m ∷ [];
        waiting = more;
        split = refl;
        store = record {
          some = omega arith;
          few = omega arith;
          tried = (sym stopped, tt);
          stopped = ap serves same ∙ stopped;
          failed = λ is. (same, refl);
          specified = ((λ is. absurd (true≢false (sym is))), tt);
          admitted = tt;
          left = λ h is s. absurd (true≢false (sym s.working ∙ stopped));
          moments = λ h is s. absurd (true≢false (sym s.working ∙ stopped));
        };
      }

  -- which fault is told where the store answers none of the messages
  pub front_stopped : (n : ℕ) (requests : List Request) (fault : ServeFault) → (serves old ≡ true → requests ≡ map (asked rules.format) (take n ms)) → 1 ≤ length ms → length ms ≤ group_limit
      → ShowsAt rules old v → (fault ≡ Device → (given : List Reply) × HasStopped old new requests given)
      → (fault ≡ Device → (serves old ≡ true) × (serves new ≡ false)) → ((d : Damage) → fault ≡ Damaged d → ⊥) → (fault ≡ Failed → (serves old ≡ false) × (new ≡ old))
      → (fault ≡ Device) ⊎ (fault ≡ Failed) ⊎ ((d : Damage) × (fault ≡ Damaged d))
      → ((fault ≡ Device) ⊎ (fault ≡ Failed)) × FailsAtFirst rules old new v ms
  front_stopped n requests fault are some few shows stopped stops damaged failed (inl now) =
      let At : List Request → Type 0 = λ rs. HasStopped old new rs (stopped now).0 in
      let working : serves old ≡ true = (stops now).0 in
      (inl now, front_fails n (stopped now).0 few working (stops now).1 (shows working) (subst At (are working) (stopped now).1))
  front_stopped n requests fault are some few shows stopped stops damaged failed (inr (inl before)) =
      (inr before, front_failed some (failed before).0 (failed before).1)
  front_stopped n requests fault are some few shows stopped stops damaged failed (inr (inr found)) = absurd (damaged found.0 found.1)

-- how it stops the group, with the refusal that is written
pub front_stops : {O D : Type 0} {g : Ghosts D} (rules : Rules) (took : O → O → List ℕ → Type 0) (failures : O → ℕ) (o p : O) (old new : Store D g) (v : View)
    (ms : List Message) (written : TookSome took o p (closing_bytes false StorageFailed)) → (written.rest ≡ []) ⊎ HasGrown (failures o) (failures p)
    → (fault : ServeFault) → ((fault ≡ Device) ⊎ (fault ≡ Failed)) × FailsAtFirst rules old new v ms → Stops rules took failures o p old new v ms fault
front_stops rules took failures o p old new v ms written whole fault stopped = on stopped.0
  where
    meets : MeetsFailure rules took o p old new failures v ms
    meets = record {
      answered = [];
      failing = stopped.1.failing;
      waiting = stopped.1.waiting;
      split = stopped.1.split;
      closing = written.front;
      unwritten = written.rest;
      refusal = written.split;
      whole = whole;
      written = written.taken;
      store = stopped.1.store;
    }

    on : (fault ≡ Device) ⊎ (fault ≡ Failed) → Stops rules took failures o p old new v ms fault
    on (inl is) = subst (Stops rules took failures o p old new v ms) (sym is) meets
    on (inr is) = subst (Stops rules took failures o p old new v ms) (sym is) meets
