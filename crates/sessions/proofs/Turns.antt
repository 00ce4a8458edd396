-- Turns, one after another.
use Rattle.std.proofs.Common.{arith, ◌≡◌, ◌∙◌, sym, ap, refl, subst, ℕ, Bool, List, [], ◌∷◌, ◌++◌, length, take, drop, get_or, Result, Ok, Err}
use Rattle.std.specs.Prelude.{IfOk, MatchResult}
use Rattle.std.proofs.lemmas.List.{append-nil, append_assoc, length-map, length-append}
use Rattle.device.specs.declared.device.Device.{Ghosts}
use Rattle.names.specs.declared.format.Rules.{Rules}
use Rattle.decoded.specs.Standing.{View}
use Rattle.durable.specs.declared.store.Store.{Store}
use Rattle.durable.specs.Settled.{device_of}
use Rattle.httpmsg.specs.Stream.{Message}
use Rattle.api.specs.declared.fault.ServeFault.{ServeFault}
use Rattle.api.specs.declared.fault.ServeFault.TheVariants.{Read, Write, Device, Memory, Damaged, Failed}
use Rattle.api.specs.Answers.{Answered, messages, ShowsAt}
use Rattle.api.proofs.Folds.{seen, split_then, failed_then, applied_none}
use Rattle.sessions.specs.declared.note.Note.{Note}
use Rattle.sessions.specs.State.{State, GoesOnWith}
use Rattle.sessions.specs.Turn.{bytes_of, Turned}
use Rattle.sessions.specs.Notes.{notes_of, Tells}
use Rattle.sessions.specs.Refusing.{AllRefuse}
use Rattle.sessions.specs.Stops.{TurnFails, TurnStops}
use Rattle.sessions.proofs.Gaining.{gains_none, gains_then}
use Rattle.sessions.proofs.Noting.{length-notes_of, notes_of-append}
use Rattle.sessions.proofs.Turning.{bytes_of-append, turned_then}

take_both : (ps qs : List ℕ) (xs ys : List Answered) → length ps ≡ length xs → take (length (xs ++ ys)) (ps ++ qs) ≡ ps ++ take (length ys) qs
take_both [] qs [] ys same = refl
take_both [] qs (x ∷ xs) ys same = absurd (omega (arith, same))
take_both (p ∷ ps) qs [] ys same = absurd (omega (arith, same))
take_both (p ∷ ps) qs (x ∷ xs) ys same = ap (λ (z : List ℕ). p ∷ z) (take_both ps qs xs ys (omega (arith, same)))

drop_both : (ps qs : List ℕ) (xs ys : List Answered) → length ps ≡ length xs → drop (length (xs ++ ys)) (ps ++ qs) ≡ drop (length ys) qs
drop_both [] qs [] ys same = refl
drop_both [] qs (x ∷ xs) ys same = absurd (omega (arith, same))
drop_both (p ∷ ps) qs [] ys same = absurd (omega (arith, same))
drop_both (p ∷ ps) qs (x ∷ xs) ys same = drop_both ps qs xs ys (omega (arith, same))

module _ {D : Type 0} {g : Ghosts D} (rules : Rules) where
  -- no message
  turned_none : (store : Store D g) (v : View) (all : List State) → ShowsAt rules store v
      → (g.disk.keeps (device_of store) → (c : List ℕ) → g.disk.since (device_of store) (g.disk.moment (device_of store)) c → g.disk.left (device_of store) c)
      → Turned rules store store v [] [] all all
  turned_none store v all shows only_now = record {
    answered = [];
    answers = refl;
    given = λ i d below. gains_none (get_or all i d);
    store = applied_none rules store v shows only_now;
  }

  -- a turn, and then the device fails
  fails_then : (old mid new : Store D g) (v : View) (ps qs : List ℕ) (ms ns : List Message) (a b c : List State) → length ps ≡ length ms → length b ≡ length a
      → (before : Turned rules old mid v ps ms a b) → TurnFails rules mid new (seen rules v before.answered) qs ns b c
      → TurnFails rules old new v (ps ++ qs) (ms ++ ns) a c
  fails_then old mid new v ps qs ms ns a b c same kept before after =
      let xs : List Answered = before.answered in
      let ys : List Answered = after.answered in
      let sizes : length ps ≡ length xs = same ∙ sym (ap length before.answers) ∙ length-map xs (λ (z : Answered). z.message) in
      record {
        answered = xs ++ ys;
        failing = after.failing;
        waiting = after.waiting;
        split = split_then xs ms ns ys (messages after.failing ++ after.waiting) before.answers after.split;
        between = after.between;
        many = after.many ∙ kept;
        given = λ i d below.
            let Both : List ℕ → Type 0 = λ w. GoesOnWith (get_or a i d) (get_or after.between i d) w in
            subst Both
            (sym (ap (λ zs. bytes_of rules v i zs (xs ++ ys)) (take_both ps qs xs ys sizes) ∙ bytes_of-append rules v i ps (take (length ys) qs) xs ys sizes))
            (gains_then (get_or a i d) (get_or b i d) (get_or after.between i d) (bytes_of rules v i ps xs) (bytes_of rules (seen rules v xs) i (take (length ys) qs) ys)
            (before.given i d below) (after.given i d (omega (arith, kept, below))));
        refused = subst (λ (zs : List ℕ). AllRefuse zs after.between c) (sym (drop_both ps qs xs ys sizes)) after.refused;
        store = failed_then rules old mid new v xs ys after.failing before.store after.store;
      }

  stops_then : (old mid new : Store D g) (v : View) (ps qs : List ℕ) (ms ns : List Message) (a b c : List State) → length ps ≡ length ms → length b ≡ length a
      → (fault : ServeFault) → (before : Turned rules old mid v ps ms a b) → TurnStops rules mid new (seen rules v before.answered) qs ns b c fault
      → TurnStops rules old new v (ps ++ qs) (ms ++ ns) a c fault
  stops_then old mid new v ps qs ms ns a b c same kept Read before after = after
  stops_then old mid new v ps qs ms ns a b c same kept Write before after = after
  stops_then old mid new v ps qs ms ns a b c same kept Device before after = fails_then old mid new v ps qs ms ns a b c same kept before after
  stops_then old mid new v ps qs ms ns a b c same kept Memory before after = after
  stops_then old mid new v ps qs ms ns a b c same kept (Damaged damage) before after = after
  stops_then old mid new v ps qs ms ns a b c same kept Failed before after = fails_then old mid new v ps qs ms ns a b c same kept before after

-- A turn, and then another, and what is told of both.
pub told_then : {D : Type 0} {g : Ghosts D} (rules : Rules) (old mid new : Store D g) (v : View) (ps qs : List ℕ) (ms ns : List Message) (a b c : List State)
    → (is_kept : Bool) → (first second third : List Note) → length ps ≡ length ms → length b ≡ length a
    → (before : Tells rules old mid v ps ms a b is_kept first second) → Tells rules mid new (seen rules v before.turned.answered) qs ns b c is_kept second third
    → Tells rules old new v (ps ++ qs) (ms ++ ns) a c is_kept first third
unfolding turned_then
told_then rules old mid new v ps qs ms ns a b c is_kept first second third same kept before after =
    let xs : List Answered = before.turned.answered in
    let ys : List Answered = after.turned.answered in
    record {
      turned = turned_then rules old mid new v ps qs ms ns a b c same kept before.turned after.turned;
      told = λ keeps fits.
          let sizes : length xs ≡ length ms = sym (length-map xs (λ (z : Answered). z.message)) ∙ ap length before.turned.answers in
          let here : second ≡ first ++ notes_of rules v xs = before.told keeps (omega (arith, fits, length-append ms ns)) in
          let more : third ≡ second ++ notes_of rules (seen rules v xs) ys =
          after.told keeps (omega (arith, fits, length-append ms ns, ap length here, length-append first (notes_of rules v xs), length-notes_of rules v xs, sizes))
          in
          more ∙ ap (λ (z : List Note). z ++ notes_of rules (seen rules v xs) ys) here ∙ append_assoc first (notes_of rules v xs) (notes_of rules (seen rules v xs) ys)
          ∙ ap (λ (z : List Note). first ++ z) (sym (notes_of-append rules v xs ys));
    }

-- The messages before the rest are answered, and told of.
pub record TurnedBefore {D : Type 0} {g : Ghosts D} (rules : Rules) (old new : Store D g) (v : View) (places left : List ℕ) (ms rest : List Message) (before after : List State)
    (is_kept : Bool) (held holds : List Note) : Type 0 where
  pub first : List ℕ
  pub places_split : places ≡ first ++ left
  pub front : List Message
  pub split : ms ≡ front ++ rest
  pub alike : length first ≡ length front
  pub tells : Tells rules old new v first front before after is_kept held holds

module _ {D : Type 0} {g : Ghosts D} (rules : Rules) where
  pub before_none : (store : Store D g) (v : View) (places : List ℕ) (ms : List Message) (all : List State) (is_kept : Bool) (held : List Note) → ShowsAt rules store v
      → (g.disk.keeps (device_of store) → (c : List ℕ) → g.disk.since (device_of store) (g.disk.moment (device_of store)) c → g.disk.left (device_of store) c)
      → TurnedBefore rules store store v places places ms ms all all is_kept held held
  unfolding turned_none
  before_none store v places ms all is_kept held shows only_now = record {
    first = [];
    places_split = refl;
    front = [];
    split = refl;
    alike = refl;
    tells = record { turned = turned_none rules store v all shows only_now; told = λ keeps fits. sym (append-nil held) };
  }

  -- some more of them
  pub before_more : (old mid new : Store D g) (v : View) (places left next_places more_places : List ℕ) (ms rest next more : List Message) (a b c : List State)
      → (is_kept : Bool) → (held holds told : List Note)
      → (before : TurnedBefore rules old mid v places left ms rest a b is_kept held holds) → left ≡ next_places ++ more_places → rest ≡ next ++ more
      → length next_places ≡ length next → length b ≡ length a
      → Tells rules mid new (seen rules v before.tells.turned.answered) next_places next b c is_kept holds told
      → TurnedBefore rules old new v places more_places ms more a c is_kept held told
  before_more old mid new v places left next_places more_places ms rest next more a b c is_kept held holds told before places_are are alike kept after = record {
    first = before.first ++ next_places;
    places_split = before.places_split ∙ ap (λ (x : List ℕ). before.first ++ x) places_are ∙ sym (append_assoc before.first next_places more_places);
    front = before.front ++ next;
    split = before.split ∙ ap (λ (x : List Message). before.front ++ x) are ∙ sym (append_assoc before.front next more);
    alike = length-append before.first next_places ∙ omega (arith, before.alike, alike) ∙ sym (length-append before.front next);
    tells = told_then rules old mid new v before.first next_places before.front next a b c is_kept held holds told before.alike kept before.tells after;
  }

  -- all of them
  pub before_all : (old new : Store D g) (v : View) (places left : List ℕ) (ms rest : List Message) (a b : List State) (is_kept : Bool) (held holds : List Note)
      → TurnedBefore rules old new v places left ms rest a b is_kept held holds → left ≡ [] → rest ≡ [] → Tells rules old new v places ms a b is_kept held holds
  before_all old new v places left ms rest a b is_kept held holds before no_places none =
      subst (λ (x : List ℕ). Tells rules old new v x ms a b is_kept held holds)
      (sym (before.places_split ∙ ap (λ (x : List ℕ). before.first ++ x) no_places ∙ append-nil before.first))
      (subst (λ (x : List Message). Tells rules old new v before.first x a b is_kept held holds)
      (sym (before.split ∙ ap (λ (x : List Message). before.front ++ x) none ∙ append-nil before.front)) before.tells)

  -- or it stops at the rest
  pub before_stops : (old mid new : Store D g) (v : View) (places left : List ℕ) (ms rest : List Message) (a b c : List State) (fault : ServeFault)
      → (is_kept : Bool) → (held holds : List Note)
      → (before : TurnedBefore rules old mid v places left ms rest a b is_kept held holds) → length b ≡ length a
      → TurnStops rules mid new (seen rules v before.tells.turned.answered) left rest b c fault → TurnStops rules old new v places ms a c fault
  before_stops old mid new v places left ms rest a b c fault is_kept held holds before kept after =
      subst (λ (x : List ℕ). TurnStops rules old new v x ms a c fault) (sym before.places_split)
      (subst (λ (x : List Message). TurnStops rules old new v (before.first ++ left) x a c fault) (sym before.split)
      (stops_then rules old mid new v before.first left before.front rest a b c before.alike kept fault before.tells.turned after))

-- what came of a batch, and what is told of it
module _ {D : Type 0} {g : Ghosts D} (rules : Rules) (old new : Store D g) (v : View) (places : List ℕ) (ms : List Message) (a b : List State) (is_kept : Bool) (held holds : List Note) where
  pub turned_of : {T : Type 0} (r : Result T ServeFault) → MatchResult r (λ _. Tells rules old new v places ms a b is_kept held holds) (TurnStops rules old new v places ms a b)
      → MatchResult r (λ _. Turned rules old new v places ms a b) (TurnStops rules old new v places ms a b)
  turned_of (Ok x) tells = tells.turned
  turned_of (Err fault) stops = stops

  pub told_of : {T : Type 0} (r : Result T ServeFault) → MatchResult r (λ _. Tells rules old new v places ms a b is_kept held holds) (TurnStops rules old new v places ms a b)
      → (keeps : Bool) → is_kept ≡ keeps → held ≡ [] → IfOk r (λ _. Tells rules old new v places ms a b keeps [] holds)
  told_of (Ok x) tells keeps same none =
      let Kept : Bool → Type 0 = λ k. Tells rules old new v places ms a b k [] holds in
      let Held : List Note → Type 0 = λ h. Tells rules old new v places ms a b is_kept h holds in
      subst Kept same (subst Held none tells)
  told_of (Err fault) stops keeps same none = tt
