-- Events whose revisions count up by one.
use Rattle.std.proofs.Common.{◌≡◌, ℕ, zero, suc, ◌+◌, ◌-◌, ◌<◌, ◌≤◌, Bool, true, false, cond, List, [], ◌∷◌, ◌++◌, length, drop, refl, sym, ap, ◌∙◌, subst, arith, nat_lt, nat_le, length-drop, length-append}
use Rattle.std.proofs.lemmas.Bool.Decides.{nat_tests}
use Rattle.std.proofs.lemmas.List.{drop-drop}
use Rattle.circular_buffer.specs.Buffer.{keep_last}
use Rattle.names.specs.declared.format.Rules.{Rules}
use Rattle.window.specs.declared.event.Event.{Event}
use Rattle.names.specs.Key.{Key}
use Rattle.window.specs.declared.event.Change.{Change}
use Rattle.window.specs.Window.{Window, AreNumberedFrom, IsWindowOf, event_at, events_above, window_of, with_event}
use Rattle.window.proofs.Kept.{keep_last-append}

module _ {D : Type 0} where
  AreNumberedFrom-same : (m n : ℕ) (events : List (Event D)) → m ≡ n → AreNumberedFrom m events → AreNumberedFrom n events
  AreNumberedFrom-same m n events e h = subst (λ (r : ℕ). AreNumberedFrom r events) e h

  pub AreNumberedFrom-push : (r : ℕ) (events : List (Event D)) (event : Event D) → AreNumberedFrom r events → event.revision ≡ r + length events + 1
      → AreNumberedFrom r (events ++ event ∷ [])
  AreNumberedFrom-push r [] event h e = (omega arith, tt)
  AreNumberedFrom-push r (first ∷ events) event h e = (h.0, AreNumberedFrom-push (r + 1) events event h.1 (omega arith))

  pub AreNumberedFrom-drop : (r k : ℕ) (events : List (Event D)) → k ≤ length events → AreNumberedFrom r events → AreNumberedFrom (r + k) (drop k events)
  AreNumberedFrom-drop r zero events l h = AreNumberedFrom-same r (r + 0) events (omega arith) h
  AreNumberedFrom-drop r (suc k) [] l h = absurd (omega arith)
  AreNumberedFrom-drop r (suc k) (first ∷ events) l h =
      AreNumberedFrom-same (r + 1 + k) (r + suc k) (drop k events) (omega arith) (AreNumberedFrom-drop (r + 1) k events (omega arith) h.1)

  drop_none : (k : ℕ) → drop k (let none : List (Event D) = [] in none) ≡ []
  drop_none zero = refl
  drop_none (suc k) = refl

  -- the events above a revision are those that its number leaves
  pub events_above-numbered : (n r : ℕ) (events : List (Event D)) → AreNumberedFrom r events → events_above n events ≡ drop (n - r) events
  events_above-numbered n r [] h = sym (drop_none (n - r))
  events_above-numbered n r (event ∷ events) h =
      let rest = events_above-numbered n (r + 1) events h.1 in
      elim (nat_lt n event.revision) as (λ b. nat_lt n event.revision ≡ b → cond b (event ∷ events_above n events) (events_above n events) ≡ drop (n - r) (event ∷ events)) [
        | true ↦ λ e.
            let below : n ≤ r = grind (arith, nat_tests, h.0) in
            let none : n - r ≡ 0 = omega arith in
            let none_later : n - (r + 1) ≡ 0 = omega arith in
            ap (λ es. event ∷ es) (rest ∙ ap (λ (k : ℕ). drop k events) none_later) ∙ sym (ap (λ (k : ℕ). drop k (event ∷ events)) none)
        | false ↦ λ e.
            let above : r < n = grind (arith, nat_tests, h.0) in
            let more : n - r ≡ suc (n - (r + 1)) = omega arith in
            rest ∙ sym (ap (λ (k : ℕ). drop k (event ∷ events)) more)
      ] refl

  -- one more event, and the last of all
  pub record IsNumberedTo (revision : ℕ) (events : List (Event D)) : Type 0 where
    pub fewer : length events < revision
    pub numbered : AreNumberedFrom (revision - length events) events

  pub IsNumberedTo-push : (p r : ℕ) (events : List (Event D)) (event : Event D) → length events < r → AreNumberedFrom (r - length events) events → event.revision ≡ r + 1
      → IsNumberedTo (r + 1) (keep_last p (events ++ event ∷ []))
  IsNumberedTo-push p r events event l h e =
      let all = events ++ event ∷ [] in
      let k = length all - p in
      let longer : length all ≡ length events + 1 = length-append events (event ∷ []) in
      let kept : length (drop k all) ≡ length all - k = length-drop k all in
      let numbered = AreNumberedFrom-drop (r - length events) k all (omega arith) (AreNumberedFrom-push (r - length events) events event h (omega arith)) in
      record {
        fewer = omega arith;
        numbered = AreNumberedFrom-same (r - length events + k) (r + 1 - length (drop k all)) (drop k all) (omega arith) numbered;
      }

  -- the last of some events hold each one above a revision that is not too old
  pub events_above-kept : (n p r : ℕ) (all : List (Event D)) → AreNumberedFrom r all → r + length all ≤ n + p → events_above n (keep_last p all) ≡ events_above n all
  events_above-kept n p r all h l =
      let k = length all - p in
      let count : k + (n - (r + k)) ≡ n - r = omega arith in
      events_above-numbered n (r + k) (drop k all) (AreNumberedFrom-drop r k all (omega arith) h)
      ∙ drop-drop (n - (r + k)) k all ∙ ap (λ (q : ℕ). drop q all) count ∙ sym (events_above-numbered n r all h)

  -- those above a revision among those above a lower one
  pub events_above-both : (n f : ℕ) (all : List (Event D)) → f ≤ n → events_above n (events_above f all) ≡ events_above n all
  events_above-both n f [] le = refl
  events_above-both n f (e ∷ all) le =
      let later = events_above-both n f all le in
      elim (nat_lt f e.revision) as (λ b. nat_lt f e.revision ≡ b
      → events_above n (cond b (e ∷ events_above f all) (events_above f all)) ≡ cond (nat_lt n e.revision) (e ∷ events_above n all) (events_above n all)) [
        | true ↦ λ above. ap (λ (es : List (Event D)). cond (nat_lt n e.revision) (e ∷ es) es) later
        | false ↦ λ below.
            let lower : nat_lt n e.revision ≡ false = grind (arith, nat_tests) in
            later ∙ sym (ap (λ (b : Bool). cond b (e ∷ events_above n all) (events_above n all)) lower)
      ] refl

  length_none : (es : List (Event D)) → length es ≡ 0 → es ≡ []
  length_none [] is = refl
  length_none (e ∷ es) is = absurd (omega (arith, is))

  -- what is left is numbered, where nothing is left too
  numbered_drop : (r k : ℕ) (all : List (Event D)) → AreNumberedFrom r all → AreNumberedFrom (r + k) (drop k all)
  numbered_drop r k all h = elim (nat_le k (length all)) as (λ b. nat_le k (length all) ≡ b → AreNumberedFrom (r + k) (drop k all)) [
    | true ↦ λ inside. (let le : k ≤ length all = grind (arith, nat_tests) in AreNumberedFrom-drop r k all le h)
    | false ↦ λ outside.
        let past : length all < k = grind (arith, nat_tests) in
        let none : drop k all ≡ [] = length_none (drop k all) (omega (arith, length-drop k all, past)) in
        subst (λ (es : List (Event D)). AreNumberedFrom (r + k) es) (sym none) tt
  ] refl

  -- the last events above a floor, where a revision is not too old and not below the floor
  pub events_above-told : (n p f : ℕ) (all : List (Event D)) → AreNumberedFrom 1 all → 1 + length all ≤ n + p → f ≤ n
      → events_above n (keep_last p (events_above f all)) ≡ events_above n all
  events_above-told n p f all h l le =
      let above : events_above f all ≡ drop (f - 1) all = events_above-numbered f 1 all h in
      let count : length (drop (f - 1) all) ≡ length all - (f - 1) = length-drop (f - 1) all in
      ap (λ (es : List (Event D)). events_above n (keep_last p es)) above
      ∙ events_above-kept n p (1 + (f - 1)) (drop (f - 1) all) (numbered_drop 1 (f - 1) all h) (omega arith)
      ∙ ap (events_above n) (sym above) ∙ events_above-both n f all le

  pub events_above-last : (n r : ℕ) (events : List (Event D)) → IsNumberedTo r events → n ≤ r → drop (length events - (r - n)) events ≡ events_above n events
  events_above-last n r events h l =
      let count : length events - (r - n) ≡ n - (r - length events) = (let fewer = h.fewer in omega arith) in
      ap (λ (k : ℕ). drop k events) count ∙ sym (events_above-numbered n (r - length events) events h.numbered)

  pub events_above-push : (f : ℕ) (all : List (Event D)) (e : Event D) → events_above f (all ++ e ∷ []) ≡ events_above f all ++ events_above f (e ∷ [])
  events_above-push f [] e = refl
  events_above-push f (x ∷ all) e =
      let later = events_above-push f all e in
      elim (nat_lt f x.revision) as (λ b. cond b (x ∷ events_above f (all ++ e ∷ [])) (events_above f (all ++ e ∷ [])) ≡ cond b (x ∷ events_above f all) (events_above f all) ++ events_above f (e ∷ [])) [
        | true ↦ ap (λ (es : List (Event D)). x ∷ es) later
        | false ↦ later
      ]

  -- an event above the floor is told, and another is not
  pub told_above : (f : ℕ) (e : Event D) → f < e.revision → events_above f (e ∷ []) ≡ e ∷ []
  told_above f e above = (let is : nat_lt f e.revision ≡ true = grind (arith, nat_tests) in ap (λ (b : Bool). cond b (e ∷ []) []) is)

  pub told_below : (f : ℕ) (e : Event D) → e.revision ≤ f → events_above f (e ∷ []) ≡ []
  told_below f e below = (let is : nat_lt f e.revision ≡ false = grind (arith, nat_tests) in ap (λ (b : Bool). cond b (e ∷ []) []) is)

  -- where there are no events, none is left
  pub kept_none : (p : ℕ) (events : List (Event D)) → length events ≤ 0 → keep_last p (events ++ []) ≡ events
  kept_none p [] none = drop_none (0 - p)
  kept_none p (e ∷ events) none = absurd (omega (arith, none))

  -- no more events than one more are kept,
  pub kept_longer : (p : ℕ) (events : List (Event D)) (e : Event D) → length (keep_last p (events ++ e ∷ [])) ≤ length events + 1
  kept_longer p events e =
      let all = events ++ e ∷ [] in
      omega (arith, length-drop (length all - p) all, length-append events (e ∷ []))

  -- and none are numbered from any revision
  pub numbered_none : (r : ℕ) (events : List (Event D)) → length events ≤ 0 → AreNumberedFrom r events
  numbered_none r [] none = tt
  numbered_none r (e ∷ events) none = absurd (omega (arith, none))

  -- a window with an event above its floor,
  pub with_told : (old new : Window D) (change : Change) (key : Key) (document : D) → old.floor < old.revision + 1
      → new.events ≡ keep_last old.places (old.events ++ event_at (old.revision + 1) change key document ∷ []) → new.revision ≡ old.revision + 1 → new.places ≡ old.places
      → new.floor ≡ old.floor → new ≡ with_event old change key document
  with_told old new change key document above events revision places floor =
      let event = event_at (old.revision + 1) change key document in
      let told = events ∙ ap (λ es. keep_last old.places (old.events ++ es)) (sym (told_above old.floor event above)) in
      λ i. record { events = told i; revision = revision i; places = places i; floor = floor i }

  -- and with one that is not
  pub with_untold : (old new : Window D) (change : Change) (key : Key) (document : D) → old.revision + 1 ≤ old.floor → length old.events ≤ old.revision - old.floor
      → new.events ≡ old.events → new.revision ≡ old.revision + 1 → new.places ≡ old.places → new.floor ≡ old.floor → new ≡ with_event old change key document
  with_untold old new change key document below few events revision places floor =
      let event = event_at (old.revision + 1) change key document in
      let untold = events ∙ sym (kept_none old.places old.events (omega (arith, few, below)))
      ∙ ap (λ es. keep_last old.places (old.events ++ es)) (sym (told_below old.floor event below))
      in
      λ i. record { events = untold i; revision = revision i; places = places i; floor = floor i }

  pub IsWindowOf-push : (rules : Rules) (all : List (Event D)) (old new : Window D) (change : Change) (key : Key) (document : D) → IsWindowOf rules all old
      → new ≡ with_event old change key document → IsWindowOf rules (all ++ event_at (old.revision + 1) change key document ∷ []) new
  IsWindowOf-push rules all old new change key document h e =
      let n = rules.window_events in
      let f = rules.floor in
      let event = event_at (1 + length all + 1) change key document in
      let longer : 1 + length all + 1 ≡ 1 + length (all ++ event ∷ []) = omega (arith, length-append all (event ∷ [])) in
      let kept : keep_last n (keep_last n (events_above f all) ++ events_above f (event ∷ [])) ≡ keep_last n (events_above f (all ++ event ∷ [])) =
      keep_last-append n (events_above f all) (events_above f (event ∷ [])) ∙ ap (keep_last n) (sym (events_above-push f all event))
      in
      let first : IsWindowOf rules (all ++ event ∷ []) (with_event (window_of rules all) change key document) = record {
        numbered = AreNumberedFrom-push 1 all event h.numbered refl;
        shows = λ i. record { events = kept i; revision = longer i; places = n; floor = f };
      }
      in
      let After : Window D → Type 0 = λ w. IsWindowOf rules (all ++ event_at (w.revision + 1) change key document ∷ []) (with_event w change key document) in
      subst (λ (w : Window D). IsWindowOf rules (all ++ event_at (old.revision + 1) change key document ∷ []) w) (sym e) (subst After (sym h.shows) first)

  -- events that have the revisions up to one, one after another, and none up to a floor
  pub record AreTold (floor revision : ℕ) (events : List (Event D)) : Type 0 where
    pub fewer : length events < revision
    pub numbered : AreNumberedFrom (revision - length events) events
    pub few : length events ≤ revision - floor

  -- so are those after one more write, whose event is told where it is above the floor
  pub told_push : (places floor r : ℕ) (events : List (Event D)) (e : Event D) → AreTold floor r events → e.revision ≡ r + 1
      → AreTold floor (r + 1) (keep_last places (events ++ events_above floor (e ∷ [])))
  told_push places floor r events e is next =
      elim (nat_lt floor e.revision) as (λ b. nat_lt floor e.revision ≡ b → AreTold floor (r + 1) (keep_last places (events ++ events_above floor (e ∷ [])))) [
        | true ↦ λ test.
            let above : floor < e.revision = grind (arith, nat_tests) in
            let pushed = IsNumberedTo-push places r events e is.fewer is.numbered next in
            let longer = kept_longer places events e in
            subst (λ (es : List (Event D)). AreTold floor (r + 1) (keep_last places (events ++ es))) (sym (told_above floor e above)) (record {
              fewer = pushed.fewer;
              numbered = pushed.numbered;
              few = omega (arith, longer, is.few, above, next);
            })
        | false ↦ λ test.
            let below : e.revision ≤ floor = grind (arith, nat_tests) in
            let none : length events ≤ 0 = omega (arith, is.few, below, next) in
            subst (λ (es : List (Event D)). AreTold floor (r + 1) (keep_last places (events ++ es))) (sym (told_below floor e below))
            (subst (λ (es : List (Event D)). AreTold floor (r + 1) es) (sym (kept_none places events none)) (record {
              fewer = omega (arith, none);
              numbered = numbered_none (r + 1 - length events) events none;
              few = omega (arith, none);
            }))
      ] refl
