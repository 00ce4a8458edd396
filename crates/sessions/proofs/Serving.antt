-- What one client was served, step by step.
use Rattle.std.proofs.Common.{arith, ◌≡◌, ◌∙◌, sym, ap, refl, subst, ◌⊎◌, inl, inr, ℕ, Bool, true, false, true≢false, Option, Some, None, List, [], ◌∷◌, ◌++◌, ◌+◌, length, take, drop, take-append-drop, ◌==◌, ◌||◌, cond}
use Rattle.std.proofs.lemmas.List.{append-nil, append_assoc, append_cancel_left, map-append, length-map, length-append, length-take-le, length-drop}
use Rattle.requests.specs.declared.refusal.Refusal.TheVariants.{OutOfMemory, StorageFailed}
use Rattle.histories.specs.View.{after_all}
use Rattle.names.specs.declared.format.Rules.{Rules}
use Rattle.decoded.specs.Standing.{View}
use Rattle.httpmsg.specs.declared.head.End.{End}
use Rattle.httpmsg.specs.declared.head.End.TheVariants.{Clean, Closed, Broken}
use Rattle.httpmsg.specs.Stream.{Message, Progress, IsCut}
use Rattle.httpmsg.proofs.Cuts.{awaits_first, awaits_now}
use Rattle.routes.specs.ReplyBytes.{reply_bytes, closing_bytes, end_bytes}
use Rattle.api.specs.Answers.{Answered, messages, writes_of, reply_of}
use Rattle.api.proofs.Folds.{seen}
use Rattle.api.proofs.Streams.{at_once}
use Rattle.sessions.specs.declared.session.Phase.{Phase}
use Rattle.sessions.specs.declared.session.Phase.TheVariants.{Open, Over, Lost}
use Rattle.sessions.specs.Batch.{messages_of, StaysBut}
use Rattle.sessions.specs.State.{State, is_open, is_lost, GoesOnWith, Closes}
use Rattle.sessions.specs.Turn.{bytes_of}
use Rattle.sessions.specs.Refusing.{is_among, Refuses, RefusedIf}
use Rattle.sessions.specs.Pieces.{HasClosed, TakesMessages, TakesPiece, EndsInput}
use Rattle.sessions.specs.Served.{IsLastTold, IsServed, IsToldOfFailure}
use Rattle.sessions.proofs.Turning.{bytes_of-append}

-- ---- phases

open_is_not_lost : (p : Phase) → is_open p ≡ true → is_lost p ≡ false
open_is_not_lost Open is = refl
open_is_not_lost Over is = refl
open_is_not_lost Lost is = absurd (true≢false (sym is))

open_is : (p : Phase) → is_open p ≡ true → p ≡ Open
open_is Open is = refl
open_is Over is = absurd (true≢false (sym is))
open_is Lost is = absurd (true≢false (sym is))

over_is_not_lost : (p : Phase) → p ≡ Over → is_lost p ≡ false
over_is_not_lost p is = ap is_lost is

over_is_not_open : (p : Phase) → p ≡ Over → is_open p ≡ false
over_is_not_open p is = ap is_open is

-- ---- lists

messages_of-append : (i : ℕ) (ps qs : List ℕ) (ms ns : List Message) → length ps ≡ length ms
    → messages_of i (ps ++ qs) (ms ++ ns) ≡ messages_of i ps ms ++ messages_of i qs ns
messages_of-append i [] qs [] ns same = refl
messages_of-append i [] qs (m ∷ ms) ns same = absurd (omega (arith, same))
messages_of-append i (p ∷ ps) qs [] ns same = absurd (omega (arith, same))
messages_of-append i (p ∷ ps) qs (m ∷ ms) ns same =
    ap (λ (z : List Message). cond (p == i) (m ∷ []) [] ++ z) (messages_of-append i ps qs ms ns (omega (arith, same)))
    ∙ sym (append_assoc (cond (p == i) (m ∷ []) []) (messages_of i ps ms) (messages_of i qs ns))

-- a place that is among them has a message
among_has : (i : ℕ) (ps : List ℕ) (ms : List Message) → length ps ≡ length ms → is_among i ps ≡ true → messages_of i ps ms ≡ [] → ⊥
among_has i [] ms same among none = true≢false (sym among)
among_has i (p ∷ ps) [] same among none = omega (arith, same)
among_has i (p ∷ ps) (m ∷ ms) same among none = on (among_has i ps ms (omega (arith, same))) (p == i) among none
  where
    on : (is_among i ps ≡ true → messages_of i ps ms ≡ [] → ⊥) → (b : Bool) → (b || is_among i ps) ≡ true → cond b (m ∷ []) [] ++ messages_of i ps ms ≡ [] → ⊥
    on behind true is empty = cc
    on behind false is empty = behind is empty

among_none : (i : ℕ) (ps : List ℕ) (ms : List Message) → is_among i ps ≡ false → messages_of i ps ms ≡ []
among_none i [] ms other = refl
among_none i (p ∷ ps) [] other = refl
among_none i (p ∷ ps) (m ∷ ms) other = on (among_none i ps ms) (p == i) other
  where
    on : (is_among i ps ≡ false → messages_of i ps ms ≡ []) → (b : Bool) → (b || is_among i ps) ≡ false → cond b (m ∷ []) [] ++ messages_of i ps ms ≡ []
    on behind true is = absurd (true≢false is)
    on behind false is = behind is

-- the bytes that a client gains, where nothing waited or what it gains is nothing
text_then : (sent unsent front rest more : List ℕ) → (rest ≡ []) ⊎ (front ≡ [])
    → sent ++ ((unsent ++ front) ++ (rest ++ more)) ≡ (sent ++ (unsent ++ rest)) ++ (front ++ more)
text_then sent unsent front rest more (inl none) =
    ap (λ r. sent ++ ((unsent ++ front) ++ (r ++ more))) none
    ∙ ap (λ z. sent ++ z) (append_assoc unsent front more)
    ∙ sym (append_assoc sent unsent (front ++ more))
    ∙ ap (λ z. (sent ++ z) ++ (front ++ more)) (sym (append-nil unsent))
    ∙ ap (λ r. (sent ++ (unsent ++ r)) ++ (front ++ more)) (sym none)
text_then sent unsent front rest more (inr none) =
    ap (λ f. sent ++ ((unsent ++ f) ++ (rest ++ more))) none
    ∙ ap (λ u. sent ++ (u ++ (rest ++ more))) (append-nil unsent)
    ∙ ap (λ z. sent ++ z) (sym (append_assoc unsent rest more))
    ∙ sym (append_assoc sent (unsent ++ rest) more)
    ∙ ap (λ f. (sent ++ (unsent ++ rest)) ++ (f ++ more)) (sym none)

last_stays : (bytes last more : List ℕ) → (last ≡ []) ⊎ (more ≡ []) → (bytes ++ last) ++ more ≡ (bytes ++ more) ++ last
last_stays bytes last more (inl none) =
    ap (λ l. (bytes ++ l) ++ more) none ∙ ap (λ z. z ++ more) (append-nil bytes) ∙ sym (append-nil (bytes ++ more)) ∙ ap (λ l. (bytes ++ more) ++ l) (sym none)
last_stays bytes last more (inr none) =
    ap (λ m. (bytes ++ last) ++ m) none ∙ append-nil (bytes ++ last) ∙ ap (λ z. z ++ last) (sym (append-nil bytes)) ∙ ap (λ m. (bytes ++ m) ++ last) (sym none)

-- ---- a session's gains

-- what is gained where the session was lost, and where it is not
module _ (a b : State) (bytes : List ℕ) (goes : GoesOnWith a b bytes) where
  gains_or_lost : (l : Bool) → is_lost a.phase ≡ l → (is_lost a.phase ≡ false) ⊎ (goes.gains.front ≡ [])
  gains_or_lost false is = inl is
  gains_or_lost true is =
      let same : b.unsent ≡ a.unsent = ap (λ (s : State). s.unsent) (goes.lost is) in
      inr (append_cancel_left a.unsent goes.gains.front [] (sym goes.gains.unsent ∙ same ∙ sym (append-nil a.unsent)))

  was_not_lost : is_lost b.phase ≡ false → (l : Bool) → is_lost a.phase ≡ l → is_lost a.phase ≡ false
  was_not_lost well false is = is
  was_not_lost well true is =
      let same : b.phase ≡ a.phase = ap (λ (s : State). s.phase) (goes.lost is) in
      absurd (true≢false (sym is ∙ ap is_lost (sym same) ∙ well))

module _ (rules : Rules) where
  -- no bytes without messages
  pub no_bytes : (v : View) (i : ℕ) (ps : List ℕ) (xs : List Answered) → messages_of i ps (messages xs) ≡ [] → bytes_of rules v i ps xs ≡ []
  no_bytes v i [] xs none = refl
  no_bytes v i (p ∷ ps) [] none = refl
  no_bytes v i (p ∷ ps) (x ∷ xs) none = on (no_bytes (after_all rules v (writes_of rules v x)) i ps xs) (p == i) none
    where
      on : (messages_of i ps (messages xs) ≡ [] → bytes_of rules (after_all rules v (writes_of rules v x)) i ps xs ≡ []) → (b : Bool)
          → cond b (x.message ∷ []) [] ++ messages_of i ps (messages xs) ≡ [] → cond b (reply_bytes rules.format x.message (reply_of rules v x)) [] ++ bytes_of rules (after_all rules v (writes_of rules v x)) i ps xs ≡ []
      on behind true empty = absurd cc
      on behind false empty = behind empty

  -- a client that has just come
  pub served_none : (v : View) (i : ℕ) (ended : Type 0)
      → IsServed rules v i [] [] ended [] [] (record { progress = record { pending = []; end = None }; waiting = []; unsent = []; phase = Open })
  served_none v i ended = record {
    cut = [];
    uncut = [];
    parts = refl;
    stream = (refl, (awaits_now [] 1 (awaits_first [] refl)).1);
    last = [];
    rest = [];
    text = refl;
    whole = λ well. refl;
    while_open = λ opened. (refl, refl);
    over = λ is. cc;
    lost = inl refl;
  }

  -- it was told that it sends no more, or is told so still
  pub served_ended : (v : View) (i : ℕ) (ps : List ℕ) (xs : List Answered) (before after : Type 0) (read sent : List ℕ) (s : State) → (before → after)
      → IsServed rules v i ps xs before read sent s → IsServed rules v i ps xs after read sent s
  served_ended v i ps xs before after read sent s stays served = record {
    cut = served.cut;
    uncut = served.uncut;
    parts = served.parts;
    stream = served.stream;
    last = served.last;
    rest = served.rest;
    text = served.text;
    whole = served.whole;
    while_open = served.while_open;
    over = λ is. ((served.over is).0, last_told (served.over is).1);
    lost = still_lost served.lost;
  }
    where
      last_told : IsLastTold before served.cut (messages_of i ps (messages xs)) served.last → IsLastTold after served.cut (messages_of i ps (messages xs)) served.last
      last_told (inl (end, inl (ended, stream), is)) = inl (end, inl (stays ended, stream), is)
      last_told (inl (end, inr stream, is)) = inl (end, inr stream, is)
      last_told (inr is) = inr is

      still_lost : (served.last ≡ []) ⊎ ((s.waiting ≡ []) × IsLastTold before served.cut (messages_of i ps (messages xs)) served.last)
          → (served.last ≡ []) ⊎ ((s.waiting ≡ []) × IsLastTold after served.cut (messages_of i ps (messages xs)) served.last)
      still_lost (inl none) = inl none
      still_lost (inr (none, told)) = inr (none, last_told told)

  -- ---- a group is answered

  module _ (v : View) (i : ℕ) (ps qs : List ℕ) (xs ys : List Answered) (ended : Type 0) (read sent : List ℕ) (a b c : State)
      (same : length ps ≡ length xs) (served : IsServed rules v i ps xs ended read sent a) (waited : a.waiting ≡ messages_of i qs (messages ys) ++ b.waiting)
      (stays : StaysBut a b) (goes : GoesOnWith b c (bytes_of rules (seen rules v xs) i qs ys)) where
    abbrev own : List Message
    own = messages_of i ps (messages xs)

    abbrev taken : List Message
    taken = messages_of i qs (messages ys)

    abbrev gained : List ℕ
    gained = bytes_of rules (seen rules v xs) i qs ys

    own_then : messages_of i (ps ++ qs) (messages (xs ++ ys)) ≡ own ++ taken
    own_then =
        ap (messages_of i (ps ++ qs)) (map-append (λ (z : Answered). z.message) xs ys)
        ∙ messages_of-append i ps qs (messages xs) (messages ys) (same ∙ sym (length-map xs (λ (z : Answered). z.message)))

    -- where none waited, none was taken
    none_taken : a.waiting ≡ [] → (taken ≡ []) × (b.waiting ≡ [])
    none_taken none = on taken b.waiting (sym waited ∙ none)
      where
        on : (ms ns : List Message) → ms ++ ns ≡ [] → (ms ≡ []) × (ns ≡ [])
        on [] ns is = (refl, is)
        on (m ∷ ms) ns is = absurd cc

    own_same : a.waiting ≡ [] → messages_of i (ps ++ qs) (messages (xs ++ ys)) ≡ own
    own_same none = own_then ∙ ap (λ (z : List Message). own ++ z) (none_taken none).0 ∙ append-nil own

    told_still : (last : List ℕ) → a.waiting ≡ [] → IsLastTold ended served.cut own last → IsLastTold ended served.cut (messages_of i (ps ++ qs) (messages (xs ++ ys))) last
    told_still last none told = let Told : List Message → Type 0 = λ ms. IsLastTold ended served.cut ms last in subst Told (sym (own_same none)) told

    waits_none : a.waiting ≡ [] → c.waiting ≡ []
    waits_none none = goes.waiting ∙ (none_taken none).1

    not_lost_before : is_lost c.phase ≡ false → is_lost a.phase ≡ false
    not_lost_before well = ap is_lost (sym stays.phase) ∙ was_not_lost b c gained goes well (is_lost b.phase) refl

    phase_before : is_lost c.phase ≡ false → c.phase ≡ a.phase
    phase_before well = goes.phase well ∙ stays.phase

    -- nothing was left out before, or nothing is gained
    none_between : (served.rest ≡ []) ⊎ (goes.gains.front ≡ [])
    none_between = on (gains_or_lost b c gained goes (is_lost b.phase) refl)
      where
        on : (is_lost b.phase ≡ false) ⊎ (goes.gains.front ≡ []) → (served.rest ≡ []) ⊎ (goes.gains.front ≡ [])
        on (inl well) = inl (served.whole (ap is_lost (sym stays.phase) ∙ well))
        on (inr none) = inr none

    last_or_none : (served.last ≡ []) ⊎ (gained ≡ [])
    last_or_none = on served.lost
      where
        on : (served.last ≡ []) ⊎ ((a.waiting ≡ []) × IsLastTold ended served.cut own served.last) → (served.last ≡ []) ⊎ (gained ≡ [])
        on (inl none) = inl none
        on (inr (none, told)) = inr (no_bytes (seen rules v xs) i qs ys (none_taken none).0)

    text_after : sent ++ (c.unsent ++ (served.rest ++ goes.gains.rest)) ≡ bytes_of rules v i (ps ++ qs) (xs ++ ys) ++ served.last
    text_after =
        let replies : List ℕ = bytes_of rules v i ps xs in
        ap (λ u. sent ++ (u ++ (served.rest ++ goes.gains.rest))) (goes.gains.unsent ∙ ap (λ u. u ++ goes.gains.front) stays.unsent)
        ∙ text_then sent a.unsent goes.gains.front served.rest goes.gains.rest none_between
        ∙ ap (λ t. t ++ (goes.gains.front ++ goes.gains.rest)) served.text
        ∙ ap (λ t. (replies ++ served.last) ++ t) (sym goes.gains.split)
        ∙ last_stays replies served.last gained last_or_none
        ∙ ap (λ t. t ++ served.last) (sym (bytes_of-append rules v i ps qs xs ys same))

    stream_after : IsCut served.cut (messages_of i (ps ++ qs) (messages (xs ++ ys)) ++ c.waiting) c.progress
    stream_after =
        let Cut : List Message → Type 0 = λ ms. IsCut served.cut ms c.progress in
        let From : Progress → Type 0 = λ p. IsCut served.cut (own ++ a.waiting) p in
        subst Cut
        (ap (λ (z : List Message). own ++ z) waited ∙ sym (append_assoc own taken b.waiting) ∙ ap (λ (z : List Message). z ++ b.waiting) (sym own_then)
        ∙ ap (λ (z : List Message). messages_of i (ps ++ qs) (messages (xs ++ ys)) ++ z) (sym goes.waiting))
        (subst From (sym (goes.progress ∙ stays.progress)) served.stream)

    pub served_turn : IsServed rules v i (ps ++ qs) (xs ++ ys) ended read sent c
    served_turn = record {
      cut = served.cut;
      uncut = served.uncut;
      parts = served.parts;
      stream = stream_after;
      last = served.last;
      rest = served.rest ++ goes.gains.rest;
      text = text_after;
      whole = λ well. ap (λ r. r ++ goes.gains.rest) (served.whole (not_lost_before well)) ∙ goes.gains.whole well;
      while_open = λ opened. served.while_open (ap is_open (sym (phase_before (open_is_not_lost c.phase opened))) ∙ opened);
      over = λ is.
          let was = served.over (sym (phase_before (over_is_not_lost c.phase is)) ∙ is) in
          (waits_none was.0, told_still served.last was.0 was.1);
      lost = still_lost served.lost;
    }
      where
        still_lost : (served.last ≡ []) ⊎ ((a.waiting ≡ []) × IsLastTold ended served.cut own served.last)
            → (served.last ≡ []) ⊎ ((c.waiting ≡ []) × IsLastTold ended served.cut (messages_of i (ps ++ qs) (messages (xs ++ ys))) served.last)
        still_lost (inl none) = inl none
        still_lost (inr (none, told)) = inr (waits_none none, told_still served.last none told)

  -- ---- bytes are sent, and read

  module _ (v : View) (i : ℕ) (ps : List ℕ) (xs : List Answered) (ended : Type 0) (read sent : List ℕ) (a b : State) where
    -- the first bytes that waited were sent
    pub served_sent : (front : List ℕ) → a.unsent ≡ front ++ b.unsent → b.waiting ≡ a.waiting → b.progress ≡ a.progress → b.phase ≡ a.phase
        → IsServed rules v i ps xs ended read sent a → IsServed rules v i ps xs ended read (sent ++ front) b
    served_sent front waited waits progress phase served = record {
      cut = served.cut;
      uncut = served.uncut;
      parts = served.parts;
      stream =
          let Cut : List Message → Type 0 = λ ms. IsCut served.cut (messages_of i ps (messages xs) ++ ms) b.progress in
          let At : Progress → Type 0 = λ p. IsCut served.cut (messages_of i ps (messages xs) ++ a.waiting) p in
          subst Cut (sym waits) (subst At (sym progress) served.stream);
      last = served.last;
      rest = served.rest;
      text = append_assoc sent front (b.unsent ++ served.rest) ∙ ap (λ z. sent ++ z) (sym (append_assoc front b.unsent served.rest))
          ∙ ap (λ u. sent ++ (u ++ served.rest)) (sym waited) ∙ served.text;
      whole = λ well. served.whole (ap is_lost (sym phase) ∙ well);
      while_open = λ opened. served.while_open (ap is_open (sym phase) ∙ opened);
      over = λ is. let was = served.over (sym phase ∙ is) in (waits ∙ was.0, was.1);
      lost = on served.lost;
    }
      where
        on : (served.last ≡ []) ⊎ ((a.waiting ≡ []) × IsLastTold ended served.cut (messages_of i ps (messages xs)) served.last)
            → (served.last ≡ []) ⊎ ((b.waiting ≡ []) × IsLastTold ended served.cut (messages_of i ps (messages xs)) served.last)
        on (inl none) = inl none
        on (inr (none, told)) = inr (waits ∙ none, told)

    pub told_sent : (front : List ℕ) → a.unsent ≡ front ++ b.unsent → b.waiting ≡ a.waiting → b.progress ≡ a.progress → b.phase ≡ a.phase
        → IsToldOfFailure rules v i ps xs read sent a → IsToldOfFailure rules v i ps xs read (sent ++ front) b
    told_sent front waited waits progress phase told = record {
      unanswered = told.unanswered;
      cut = told.cut;
      uncut = told.uncut;
      parts = told.parts;
      stream =
          let Cut : List Message → Type 0 = λ ms. IsCut told.cut (messages_of i ps (messages xs) ++ (told.unanswered ++ ms)) b.progress in
          let At : Progress → Type 0 = λ p. IsCut told.cut (messages_of i ps (messages xs) ++ (told.unanswered ++ a.waiting)) p in
          subst Cut (sym waits) (subst At (sym progress) told.stream);
      rest = told.rest;
      text = append_assoc sent front (b.unsent ++ told.rest) ∙ ap (λ z. sent ++ z) (sym (append_assoc front b.unsent told.rest))
          ∙ ap (λ u. sent ++ (u ++ told.rest)) (sym waited) ∙ told.text;
      whole = λ well. told.whole (ap is_lost (sym phase) ∙ well);
      over = ap is_open phase ∙ told.over;
    }

  module _ (v : View) (i : ℕ) (ps : List ℕ) (xs : List Answered) (ended : Type 0) (read sent : List ℕ) (s : State) where
    -- what is read is forgotten, where the session takes no more
    pub served_forgets : (piece : List ℕ) → is_open s.phase ≡ false → IsServed rules v i ps xs ended read sent s → IsServed rules v i ps xs ended (read ++ piece) sent s
    served_forgets piece closed served = record {
      cut = served.cut;
      uncut = served.uncut ++ piece;
      parts = ap (λ r. r ++ piece) served.parts ∙ append_assoc served.cut served.uncut piece;
      stream = served.stream;
      last = served.last;
      rest = served.rest;
      text = served.text;
      whole = served.whole;
      while_open = λ opened. absurd (true≢false (sym opened ∙ closed));
      over = served.over;
      lost = served.lost;
    }

    pub told_forgets : (piece : List ℕ) → IsToldOfFailure rules v i ps xs read sent s → IsToldOfFailure rules v i ps xs (read ++ piece) sent s
    told_forgets piece told = record {
      unanswered = told.unanswered;
      cut = told.cut;
      uncut = told.uncut ++ piece;
      parts = ap (λ r. r ++ piece) told.parts ∙ append_assoc told.cut told.uncut piece;
      stream = told.stream;
      rest = told.rest;
      text = told.text;
      whole = told.whole;
      over = told.over;
    }

  -- ---- a piece of what the client sends, and its end

  module _ (v : View) (i : ℕ) (ps : List ℕ) (xs : List Answered) (ended : Type 0) (read sent : List ℕ) (a b : State)
      (idle : a.waiting ≡ []) (opened : is_open a.phase ≡ true) (served : IsServed rules v i ps xs ended read sent a) where
    abbrev mine : List Message
    mine = messages_of i ps (messages xs)

    all_cut : read ≡ served.cut
    all_cut = served.parts ∙ ap (λ u. served.cut ++ u) (served.while_open opened).0 ∙ append-nil served.cut

    pub cut_before : IsCut read mine a.progress
    cut_before =
        let Cut : List Message → Type 0 = λ ms. IsCut read ms a.progress in
        let Of : List ℕ → Type 0 = λ r. IsCut r (mine ++ a.waiting) a.progress in
        subst Cut (ap (λ (z : List Message). mine ++ z) idle ∙ append-nil mine) (subst Of (sym all_cut) served.stream)

    -- all replies were put to what is sent
    text_before : sent ++ a.unsent ≡ bytes_of rules v i ps xs
    text_before =
        ap (λ u. sent ++ u) (sym (append-nil a.unsent)) ∙ ap (λ r. sent ++ (a.unsent ++ r)) (sym (served.whole (open_is_not_lost a.phase opened))) ∙ served.text
        ∙ ap (λ l. bytes_of rules v i ps xs ++ l) (served.while_open opened).1 ∙ append-nil (bytes_of rules v i ps xs)

    -- something is told last, and then the session takes no more
    ends_with : (cut uncut last : List ℕ) → (all_read : List ℕ) → all_read ≡ cut ++ uncut → IsCut cut mine b.progress
        → Closes a b last → IsLastTold ended cut mine last → IsServed rules v i ps xs ended all_read sent b
    ends_with cut uncut last all_read parts stream closes told = record {
      cut = cut;
      uncut = uncut;
      parts = parts;
      stream =
          let Cut : List Message → Type 0 = λ ms. IsCut cut ms b.progress in
          subst Cut (sym (ap (λ (z : List Message). mine ++ z) (closes.waiting ∙ idle) ∙ append-nil mine)) stream;
      last = last;
      rest = closes.gains.rest;
      text = ap (λ u. sent ++ (u ++ closes.gains.rest)) closes.gains.unsent ∙ ap (λ z. sent ++ z) (append_assoc a.unsent closes.gains.front closes.gains.rest)
          ∙ sym (append_assoc sent a.unsent (closes.gains.front ++ closes.gains.rest)) ∙ ap (λ t. t ++ (closes.gains.front ++ closes.gains.rest)) text_before
          ∙ ap (λ t. bytes_of rules v i ps xs ++ t) (sym closes.gains.split);
      whole = closes.gains.whole;
      while_open = λ is. absurd (true≢false (sym is ∙ closes.over));
      over = λ is. (closes.waiting ∙ idle, told);
      lost = inr (closes.waiting ∙ idle, told);
    }

    has_closed : HasClosed b ⊎ (HasClosed b → ⊥)
    has_closed = on b.waiting b.progress.end
      where
        on : (ms : List Message) (end : Option End) → ((ms ≡ []) × (end ≡ Some Closed)) ⊎ ((ms ≡ []) × (end ≡ Some Closed) → ⊥)
        on [] None = inr (λ is. cc)
        on [] (Some Clean) = inr (λ is. cc)
        on [] (Some Closed) = inl (refl, refl)
        on [] (Some (Broken broken)) = inr (λ is. cc)
        on (m ∷ ms) end = inr (λ is. cc)

    piece_messages : (piece : List ℕ) → TakesMessages read mine piece a b → IsServed rules v i ps xs ended (read ++ piece) sent b
    piece_messages piece takes = on has_closed
      where
        text_now : sent ++ (b.unsent ++ []) ≡ bytes_of rules v i ps xs ++ []
        text_now = ap (λ z. sent ++ z) (append-nil b.unsent) ∙ ap (λ u. sent ++ u) takes.unsent ∙ text_before ∙ sym (append-nil (bytes_of rules v i ps xs))

        on : HasClosed b ⊎ (HasClosed b → ⊥) → IsServed rules v i ps xs ended (read ++ piece) sent b
        on (inl (none, closed)) =
            let over_now : b.phase ≡ Over = takes.closed (none, closed) in
            let Cut : List Message → Type 0 = λ ms. IsCut (read ++ piece) ms b.progress in
            let cut : IsCut (read ++ piece) mine b.progress = subst Cut (ap (λ (z : List Message). mine ++ z) none ∙ append-nil mine) takes.cut in
            let told : IsLastTold ended (read ++ piece) mine [] = inl (Closed, inr (at_once (read ++ piece) mine b.progress Closed cut closed), refl) in
            record {
              cut = read ++ piece;
              uncut = [];
              parts = sym (append-nil (read ++ piece));
              stream = takes.cut;
              last = [];
              rest = [];
              text = text_now;
              whole = λ well. refl;
              while_open = λ is. absurd (true≢false (sym is ∙ ap is_open over_now));
              over = λ is. (none, told);
              lost = inl refl;
            }
        on (inr goes) =
            let open_now : b.phase ≡ Open = takes.goes_on goes in
            record {
              cut = read ++ piece;
              uncut = [];
              parts = sym (append-nil (read ++ piece));
              stream = takes.cut;
              last = [];
              rest = [];
              text = text_now;
              whole = λ well. refl;
              while_open = λ is. (refl, refl);
              over = λ is. let clash : Open ≡ Over = sym open_now ∙ is in absurd cc;
              lost = inl refl;
            }

    pub served_piece : (piece : List ℕ) → TakesPiece read mine piece a b → IsServed rules v i ps xs ended (read ++ piece) sent b
    served_piece piece (inl takes) = piece_messages piece takes
    served_piece piece (inr (inl meets)) =
        ends_with (read ++ piece) [] (end_bytes (Broken meets.broken)) (read ++ piece) (sym (append-nil (read ++ piece))) meets.cut meets.closes
        (inl (Broken meets.broken, inr (at_once (read ++ piece) mine b.progress (Broken meets.broken) meets.cut meets.end), refl))
    served_piece piece (inr (inr lacks)) =
        let At : Progress → Type 0 = λ p. IsCut read mine p in
        ends_with read piece (closing_bytes false OutOfMemory) (read ++ piece) refl (subst At (sym lacks.progress) cut_before) lacks.closes (inr refl)

    pub served_end : ended → EndsInput read mine a b → IsServed rules v i ps xs ended read sent b
    served_end has_ended ends =
        let At : Progress → Type 0 = λ p. IsCut read mine p in
        ends_with read [] (end_bytes ends.end) read (sym (append-nil read)) (subst At (sym ends.progress) cut_before) ends.closes
        (inl (ends.end, inl (has_ended, ends.stream), refl))

  -- ---- the store fails

  -- the same session, seen once more
  served_same : (v : View) (i : ℕ) (ps : List ℕ) (xs : List Answered) (ended : Type 0) (read sent : List ℕ) (a b : State) → b.unsent ≡ a.unsent → b.waiting ≡ a.waiting
      → b.progress ≡ a.progress → b.phase ≡ a.phase → IsServed rules v i ps xs ended read sent a → IsServed rules v i ps xs ended read sent b
  served_same v i ps xs ended read sent a b unsent waits progress phase served =
      let Sent : List ℕ → Type 0 = λ z. IsServed rules v i ps xs ended read z b in
      subst Sent (append-nil sent) (served_sent v i ps xs ended read sent a b [] (sym unsent) waits progress phase served)

  module _ (v : View) (i : ℕ) (ps qs : List ℕ) (xs ys : List Answered) (others : List Message) (ended : Type 0) (read sent : List ℕ) (a b c d : State)
      (same : length ps ≡ length xs) (served : IsServed rules v i ps xs ended read sent a) (alike : length qs ≡ length (messages ys ++ others))
      (waited : a.waiting ≡ messages_of i qs (messages ys ++ others) ++ b.waiting) (stays : StaysBut a b)
      (goes : GoesOnWith b c (bytes_of rules (seen rules v xs) i (take (length ys) qs) ys)) (refused : RefusedIf (is_among i (drop (length ys) qs)) c d) where
    abbrev fronts : List ℕ
    fronts = take (length ys) qs

    abbrev backs : List ℕ
    backs = drop (length ys) qs

    -- the messages of the client that are not answered
    abbrev left : List Message
    left = messages_of i backs others

    sizes : length (messages ys) ≡ length ys
    sizes = length-map ys (λ (z : Answered). z.message)

    total : length qs ≡ length ys + length others
    total = alike ∙ length-append (messages ys) others ∙ ap (λ n. n + length others) sizes

    fronts_size : length fronts ≡ length ys
    fronts_size = length-take-le (length ys) qs (omega (arith, total))

    backs_size : length backs ≡ length others
    backs_size = omega (arith, length-drop (length ys) qs, total)

    split_own : messages_of i qs (messages ys ++ others) ≡ messages_of i fronts (messages ys) ++ left
    split_own =
        ap (λ z. messages_of i z (messages ys ++ others)) (sym (take-append-drop (length ys) qs))
        ∙ messages_of-append i fronts backs (messages ys) others (fronts_size ∙ sym sizes)

    -- as if those that are not answered waited still
    abbrev waits_on : State → State
    waits_on s = record s { waiting = left ++ s.waiting }

    answered_first : IsServed rules v i (ps ++ fronts) (xs ++ ys) ended read sent (waits_on c)
    answered_first =
        served_turn v i ps fronts xs ys ended read sent a (waits_on b) (waits_on c) same served
        (waited ∙ ap (λ (z : List Message). z ++ b.waiting) split_own ∙ append_assoc (messages_of i fronts (messages ys)) left b.waiting)
        (record { unsent = stays.unsent; progress = stays.progress; phase = stays.phase })
        (record {
          gains = record { front = goes.gains.front; rest = goes.gains.rest; split = goes.gains.split; unsent = goes.gains.unsent; whole = goes.gains.whole };
          phase = goes.phase;
          lost = λ is. ap waits_on (goes.lost is);
          none = λ is. ap waits_on (goes.none is);
          waiting = ap (λ (z : List Message). left ++ z) goes.waiting;
          progress = goes.progress;
        })

    some_left : is_among i backs ≡ true → (waits_on c).waiting ≡ [] → ⊥
    some_left among none = among_has i backs others backs_size among (on left c.waiting none)
      where
        on : (ms ns : List Message) → ms ++ ns ≡ [] → ms ≡ []
        on [] ns is = refl
        on (m ∷ ms) ns is = absurd cc

    not_told : is_among i backs ≡ false → d ≡ c → IsServed rules v i (ps ++ fronts) (xs ++ ys) ended read sent d
    not_told other is =
        served_same v i (ps ++ fronts) (xs ++ ys) ended read sent (waits_on c) d (ap (λ (s : State). s.unsent) is)
        (ap (λ (s : State). s.waiting) is ∙ ap (λ (z : List Message). z ++ c.waiting) (sym (among_none i backs others other)))
        (ap (λ (s : State). s.progress) is) (ap (λ (s : State). s.phase) is) answered_first

    refused_text : (last : List ℕ) → last ≡ [] → (front rest before : List ℕ) → d.unsent ≡ c.unsent ++ front → closing_bytes false StorageFailed ≡ front ++ rest → before ≡ []
        → sent ++ (c.unsent ++ before) ≡ bytes_of rules v i (ps ++ fronts) (xs ++ ys) ++ last
        → sent ++ (d.unsent ++ rest) ≡ bytes_of rules v i (ps ++ fronts) (xs ++ ys) ++ closing_bytes false StorageFailed
    refused_text last no_last front rest before gains split none text =
        let replies : List ℕ = bytes_of rules v i (ps ++ fronts) (xs ++ ys) in
        ap (λ u. sent ++ (u ++ rest)) gains ∙ text_then sent c.unsent front [] rest (inl refl)
        ∙ ap (λ r. (sent ++ (c.unsent ++ r)) ++ (front ++ rest)) (sym none)
        ∙ ap (λ t. t ++ (front ++ rest)) text ∙ ap (λ l. (replies ++ l) ++ (front ++ rest)) no_last ∙ ap (λ t. t ++ (front ++ rest)) (append-nil replies)
        ∙ ap (λ t. replies ++ t) (sym split)

    told_open : is_open c.phase ≡ true → Refuses c d → IsToldOfFailure rules v i (ps ++ fronts) (xs ++ ys) read sent d
    told_open opened refuses =
        let closes = refuses.refused opened in
        let was = answered_first in
        record {
          unanswered = left;
          cut = was.cut;
          uncut = was.uncut;
          parts = was.parts;
          stream =
              let Cut : List Message → Type 0 = λ ms. IsCut was.cut (messages_of i (ps ++ fronts) (messages (xs ++ ys)) ++ (left ++ ms)) d.progress in
              let At : Progress → Type 0 = λ p. IsCut was.cut (messages_of i (ps ++ fronts) (messages (xs ++ ys)) ++ (left ++ c.waiting)) p in
              subst Cut (sym closes.waiting) (subst At (sym refuses.progress) was.stream);
          rest = closes.gains.rest;
          text = refused_text was.last (was.while_open opened).1 closes.gains.front closes.gains.rest was.rest closes.gains.unsent closes.gains.split
              (was.whole (open_is_not_lost c.phase opened)) was.text;
          whole = closes.gains.whole;
          over = closes.over;
        }

    told_lost : is_among i backs ≡ true → c.phase ≡ Lost → d ≡ c → IsToldOfFailure rules v i (ps ++ fronts) (xs ++ ys) read sent d
    told_lost among is_gone is =
        let was = answered_first in
        let replies : List ℕ = bytes_of rules v i (ps ++ fronts) (xs ++ ys) in
        let failure : List ℕ = closing_bytes false StorageFailed in
        let Told : State → Type 0 = λ s. IsToldOfFailure rules v i (ps ++ fronts) (xs ++ ys) read sent s in
        subst Told (sym is) (record {
          unanswered = left;
          cut = was.cut;
          uncut = was.uncut;
          parts = was.parts;
          stream = was.stream;
          rest = was.rest ++ failure;
          text = ap (λ z. sent ++ z) (sym (append_assoc c.unsent was.rest failure)) ∙ sym (append_assoc sent (c.unsent ++ was.rest) failure)
              ∙ ap (λ t. t ++ failure) was.text ∙ ap (λ l. (replies ++ l) ++ failure) (no_last was.lost) ∙ ap (λ t. t ++ failure) (append-nil replies);
          whole = λ well. absurd (true≢false (sym (ap is_lost is_gone) ∙ well));
          over = ap is_open is_gone;
        })
      where
        no_last : (answered_first.last ≡ []) ⊎ (((waits_on c).waiting ≡ []) × IsLastTold ended answered_first.cut (messages_of i (ps ++ fronts) (messages (xs ++ ys))) answered_first.last)
            → answered_first.last ≡ []
        no_last (inl none) = none
        no_last (inr (none, told)) = absurd (some_left among none)

    pub served_or_told : IsServed rules v i (ps ++ fronts) (xs ++ ys) ended read sent d ⊎ IsToldOfFailure rules v i (ps ++ fronts) (xs ++ ys) read sent d
    served_or_told = on (is_among i backs) refl refused
      where
        by_phase : is_among i backs ≡ true → Refuses c d → (p : Phase) → c.phase ≡ p → IsToldOfFailure rules v i (ps ++ fronts) (xs ++ ys) read sent d
        by_phase among refuses Open is = told_open (ap is_open is) refuses
        by_phase among refuses Over is = absurd (some_left among (answered_first.over is).0)
        by_phase among refuses Lost is = told_lost among is (refuses.over (ap is_open is))

        on : (among : Bool) → is_among i backs ≡ among → RefusedIf among c d
            → IsServed rules v i (ps ++ fronts) (xs ++ ys) ended read sent d ⊎ IsToldOfFailure rules v i (ps ++ fronts) (xs ++ ys) read sent d
        on true among refuses = inr (by_phase among refuses c.phase refl)
        on false other is = inl (not_told other is)
