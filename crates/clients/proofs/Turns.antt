-- What turns of clients do to places, one after another.
use Rattle.std.proofs.Common.{arith, ◌≡◌, ◌∙◌, sym, ap, refl, subst, ⊎_elim, ◌<◌, ◌≤◌, ◌⊎◌, inl, inr, ℕ, List, [], ◌++◌, length, get_or, set, Option, Some, None}
use Rattle.std.proofs.lemmas.List.{get_or_default, get_or-set_same, get_or-set_other, length-set}
use Rattle.std.proofs.lemmas.Bool.{cases_eq}
use Rattle.std.specs.declared.time.Duration.{Duration}
use Rattle.objects.specs.Failing.{HasGrown}
use Rattle.sessions.specs.State.{State}
use Rattle.clients.specs.declared.line.Line.{Line}
use Rattle.clients.specs.declared.line.Gone.{Gone}
use Rattle.clients.specs.declared.line.Gone.TheVariants as gone
use Rattle.clients.specs.declared.places.Places.{Places}
use Rattle.clients.specs.Plain.{dialect_of, IsPlain}
use Rattle.clients.specs.Story.{GoesOn, SendsOn}
use Rattle.clients.specs.Places.{fresh, count, line_at, session_at, IsFree, IsFreshWhereFree, HasAsMany, StaysAt, StaysBeside, AreMarked, HasReason, IsThereStill, IsLetGo, TurnsAt, TakesTurn, TakeTurns, SendsLast, EndsAt, TakesLastTurn, TakeLastTurns}
use Rattle.clients.proofs.Sending.{sends_none, sends_then}
use Rattle.clients.proofs.Stories.{goes_none, goes_then}

pub still_free : {S : Type 0} (i : ℕ) (a b : Places S) → HasAsMany a b → StaysAt i a b → IsFree a i → IsFree b i
still_free i a b many stays is = (subst (λ n. i < n) (sym many.lines) is.0, stays.line ∙ is.1)

as_many_then : {S : Type 0} (a b c : Places S) → HasAsMany a b → HasAsMany b c → HasAsMany a c
as_many_then a b c first then = record { lines = then.lines ∙ first.lines; sessions = then.sessions ∙ first.sessions }

as_many_same : {S : Type 0} (a : Places S) → HasAsMany a a
as_many_same a = record { lines = refl; sessions = refl }

-- some is not none
pub none_or : {A : Type 0} (o : Option A) (x : A) → o ≡ None → o ≡ Some x → ⊥
none_or o x none some = let clash : None ≡ Some x = sym none ∙ some in cc

pub some_same : {A : Type 0} (x y : A) → Some x ≡ Some y → x ≡ y
some_same x y is = cc

-- an index that is inside gives what is there, whatever stands for nothing
pub at_index : {A : Type 0} (xs : List A) (i : ℕ) (x d : A) → i < length xs → x ≡ get_or xs i x → get_or xs i d ≡ x
at_index xs i x d inside is = get_or_default xs i d x inside ∙ sym is

-- a place has a line and a session set
module _ {S : Type 0} (a b : Places S) (place : ℕ) (now : Option (Line S)) (state : State) (inside : place < count a) (room : place < length a.sessions.items)
    (lines : b.lines.items ≡ set a.lines.items place now) (sessions : b.sessions.items ≡ set a.sessions.items place state) where
  set_many : HasAsMany a b
  set_many = record {
    lines = ap length lines ∙ length-set a.lines.items place now;
    sessions = ap length sessions ∙ length-set a.sessions.items place state;
  }

  pub set_beside : StaysBeside place a b
  set_beside = record {
    many = set_many;
    others = λ i other. record {
      line = ap (λ xs. get_or xs i None) lines ∙ get_or-set_other a.lines.items place i now None other;
      session = ap (λ xs. get_or xs i fresh) sessions ∙ get_or-set_other a.sessions.items place i state fresh other;
    };
  }

  pub set_line : line_at b place ≡ now
  set_line = ap (λ xs. get_or xs place None) lines ∙ get_or-set_same a.lines.items place now None inside

  pub set_session : session_at b place ≡ state
  set_session = ap (λ xs. get_or xs place fresh) sessions ∙ get_or-set_same a.sessions.items place state fresh room

pub beside_then : {S : Type 0} (place : ℕ) (a b c : Places S) → StaysBeside place a b → StaysBeside place b c → StaysBeside place a c
beside_then place a b c first then = record {
  many = record { lines = then.many.lines ∙ first.many.lines; sessions = then.many.sessions ∙ first.many.sessions };
  others = λ i other.
      let one = first.others i other in
      let two = then.others i other in
      record { line = two.line ∙ one.line; session = two.session ∙ one.session };
}

-- ---- marks

pub marked_none : {S : Type 0} (p : Places S) → AreMarked p p
marked_none p = record { many = as_many_same p; free = λ i is. is; sessions = λ i. refl; clients = λ i line is. (line, is, refl, refl) }

pub marked_then : {S : Type 0} (a b c : Places S) → AreMarked a b → AreMarked b c → AreMarked a c
marked_then a b c first then = record {
  many = as_many_then a b c first.many then.many;
  free = λ i is. then.free i (first.free i is);
  sessions = λ i. then.sessions i ∙ first.sessions i;
  clients = λ i line is.
      let one = first.clients i line is in
      let two = then.clients i one.0 one.1 in
      (two.0, two.1, two.2 ∙ one.2, two.3 ∙ one.3);
}

-- the client at one place is marked
pub marked_one : {S : Type 0} (place : ℕ) (b c : Places S) → StaysBeside place b c → session_at c place ≡ session_at b place → (IsFree b place → IsFree c place)
    → ((line : Line S) → line_at b place ≡ Some line → (marked : Line S) × (line_at c place ≡ Some marked) × (marked.stream ≡ line.stream) × (marked.later ≡ line.later)) → AreMarked b c
marked_one {S} place b c beside session free client = record {
  many = beside.many;
  free = λ i is. ⊎_elim (λ same. subst (λ n. IsFree c n) (sym same) (free (subst (λ n. IsFree b n) same is))) (λ other. still_free i b c beside.many (beside.others i other) is) (cases_eq i place);
  sessions = λ i. ⊎_elim (λ same. subst (λ n. session_at c n ≡ session_at b n) (sym same) session) (λ other. (beside.others i other).session) (cases_eq i place);
  clients = λ i line is.
      ⊎_elim
      (λ same.
      let At : ℕ → Type 0 = λ n. (marked : Line S) × (line_at c n ≡ Some marked) × (marked.stream ≡ line.stream) × (marked.later ≡ line.later) in
      subst At (sym same) (client line (subst (λ n. line_at b n ≡ Some line) same is)))
      (λ other. (line, (beside.others i other).line ∙ is, refl, refl)) (cases_eq i place);
}

grown_before : (earlier before now : ℕ) → earlier ≤ before → HasGrown before now → HasGrown earlier now
grown_before earlier before now later (inl more) = inl (omega (arith, later, more))
grown_before earlier before now later (inr full) = inr full

pub reason_before : (g : Gone) (earlier before now : ℕ) (s : State) (idle : Option Duration) → earlier ≤ before → HasReason g before now s idle → HasReason g earlier now s idle
reason_before gone.Lost earlier before now s idle later reason = reason
reason_before gone.Failed earlier before now s idle later reason = grown_before earlier before now later reason
reason_before gone.Done earlier before now s idle later reason = reason
reason_before gone.Late earlier before now s idle later reason = reason

-- where a turn leaves a place free, its session is fresh
pub fresh_after : {S : Type 0} (moved : S → S → List ℕ → List ℕ → Type 0) (has_ended : S → Type 0) (failures : S → ℕ) (idle : Option Duration) (a b : Places S)
    → TakeTurns moved has_ended failures idle a b → IsFreshWhereFree a → IsFreshWhereFree b
fresh_after {S} moved has_ended failures idle a b turns all i is = on (line_at a i) refl
  where
    on : (o : Option (Line S)) → line_at a i ≡ o → session_at b i ≡ fresh
    on None none =
        let was : IsFree a i = (subst (λ n. i < n) turns.many.lines is.0, none) in
        ((turns.each i).free was).session ∙ all i was
    on (Some line) some = by ((turns.each i).client line some)
      where
        by : IsThereStill moved has_ended failures idle i a b line ⊎ IsLetGo moved has_ended failures idle i a b line → session_at b i ≡ fresh
        by (inl still) = absurd (none_or (line_at b i) still.now is.1 still.there)
        by (inr left) = left.fresh

module _ {S : Type 0} (moved : S → S → List ℕ → List ℕ → Type 0) (has_ended : S → Type 0) (failures : S → ℕ) (idle : Option Duration)
    (moved_none : (stream : S) → moved stream stream [] [])
    (moved_then : (old mid new : S) (read more sent further : List ℕ) → moved old mid read sent → moved mid new more further
    → moved old new (read ++ more) (sent ++ further)) where
  pub turns_stay : (i : ℕ) (a b : Places S) → StaysAt i a b → TurnsAt moved has_ended failures idle i a b
  turns_stay i a b stays = record {
    free = λ is. stays;
    client = λ line is.
        let To : State → Type 0 = λ s. GoesOn moved has_ended line.stream line.stream (session_at a i) s in
        inl (record {
          now = line;
          there = stays.line ∙ is;
          dialect = refl;
          goes_on = λ plain. subst To (sym stays.session) (goes_none moved has_ended line.stream (session_at a i) (moved_none line.stream));
          later = omega arith;
        });
  }

  turns_at_then : (i : ℕ) (a b c : Places S) → HasAsMany a b → HasAsMany b c → TurnsAt moved has_ended failures idle i a b
      → TurnsAt moved has_ended failures idle i b c → TurnsAt moved has_ended failures idle i a c
  turns_at_then i a b c many_ab many_bc first then = record {
    free = λ is.
        let one = first.free is in
        let two = then.free (still_free i a b many_ab one is) in
        record { line = two.line ∙ one.line; session = two.session ∙ one.session };
    client = λ line is. on line (first.client line is);
  }
    where
      after : (line : Line S) (still : IsThereStill moved has_ended failures idle i a b line)
          → IsThereStill moved has_ended failures idle i b c still.now ⊎ IsLetGo moved has_ended failures idle i b c still.now
          → IsThereStill moved has_ended failures idle i a c line ⊎ IsLetGo moved has_ended failures idle i a c line
      after line still (inl later) = inl (record {
        now = later.now;
        there = later.there;
        dialect = later.dialect ∙ still.dialect;
        goes_on = λ plain. goes_then moved has_ended line.stream still.now.stream later.now.stream (session_at a i) (session_at b i) (session_at c i) moved_then (still.goes_on plain) (later.goes_on (still.dialect ∙ plain));
        later = omega (arith, still.later, later.later);
      })
      after line still (inr left) = inr (record {
        last = left.last;
        state = left.state;
        gone = left.gone;
        goes_on = λ plain. goes_then moved has_ended line.stream still.now.stream left.last (session_at a i) (session_at b i) left.state moved_then (still.goes_on plain) (left.goes_on (still.dialect ∙ plain));
        later = omega (arith, still.later, left.later);
        reason = reason_before left.gone (failures line.stream) (failures still.now.stream) (failures left.last) left.state idle still.later left.reason;
        free = left.free;
        fresh = left.fresh;
      })

      on : (line : Line S) → IsThereStill moved has_ended failures idle i a b line ⊎ IsLetGo moved has_ended failures idle i a b line
          → IsThereStill moved has_ended failures idle i a c line ⊎ IsLetGo moved has_ended failures idle i a c line
      on line (inl still) = after line still (then.client still.now still.there)
      on line (inr left) =
          let stays = then.free left.free in
          inr (record {
            last = left.last;
            state = left.state;
            gone = left.gone;
            goes_on = left.goes_on;
            later = left.later;
            reason = left.reason;
            free = still_free i b c many_bc stays left.free;
            fresh = stays.session ∙ left.fresh;
          })

  -- one client has a turn
  turn_each : (place : ℕ) (b c : Places S) → TakesTurn moved has_ended failures idle b c place → (i : ℕ) → TurnsAt moved has_ended failures idle i b c
  turn_each place b c turn i =
      ⊎_elim (λ same. subst (λ n. TurnsAt moved has_ended failures idle n b c) (sym same) turn.turn) (λ other. turns_stay i b c (turn.beside.others i other)) (cases_eq i place)

  pub turns_none : (p : Places S) → TakeTurns moved has_ended failures idle p p
  turns_none p = record { many = as_many_same p; each = λ i. turns_stay i p p (record { line = refl; session = refl }) }

  pub turns_then : (place : ℕ) (a b c : Places S) → TakeTurns moved has_ended failures idle a b → TakesTurn moved has_ended failures idle b c place
      → TakeTurns moved has_ended failures idle a c
  turns_then place a b c first turn = record {
    many = as_many_then a b c first.many turn.beside.many;
    each = λ i. turns_at_then i a b c first.many turn.beside.many (first.each i) (turn_each place b c turn i);
  }

  -- ---- once nothing more is answered

  ends_stay : (i : ℕ) (a b : Places S) → StaysAt i a b → EndsAt moved a b i
  ends_stay i a b stays = record {
    free = λ is. stays;
    client = λ line is. record {
      last = line.stream;
      state = session_at a i;
      sends = sends_none moved line.stream (session_at a i) (moved_none line.stream);
      left = inl (line, stays.line ∙ is, refl, stays.session);
    };
  }

  ends_at_then : (i : ℕ) (a b c : Places S) → HasAsMany a b → HasAsMany b c → EndsAt moved a b i → EndsAt moved b c i → EndsAt moved a c i
  ends_at_then i a b c many_ab many_bc first then = record {
    free = λ is.
        let one = first.free is in
        let two = then.free (still_free i a b many_ab one is) in
        record { line = two.line ∙ one.line; session = two.session ∙ one.session };
    client = λ line is. let sent = first.client line is in on line sent sent.left;
  }
    where
      on : (line : Line S) (sent : SendsLast moved a b i line)
          → ((now : Line S) × (line_at b i ≡ Some now) × (now.stream ≡ sent.last) × (session_at b i ≡ sent.state)) ⊎ (IsFree b i × (session_at b i ≡ fresh))
          → SendsLast moved a c i line
      on line sent (inl (now, there, stream, session)) =
          let more = then.client now there in
          let From : S → State → Type 0 = λ s t. SendsOn moved s more.last t more.state in
          record {
            last = more.last;
            state = more.state;
            sends = sends_then moved line.stream sent.last more.last (session_at a i) sent.state more.state moved_then sent.sends
                (subst (λ s. From s sent.state) stream (subst (λ t. From now.stream t) session more.sends));
            left = more.left;
          }
      on line sent (inr (free, is_fresh)) =
          let stays = then.free free in
          record { last = sent.last; state = sent.state; sends = sent.sends; left = inr (still_free i b c many_bc stays free, stays.session ∙ is_fresh) }

  end_each : (place : ℕ) (b c : Places S) → TakesLastTurn moved b c place → (i : ℕ) → EndsAt moved b c i
  end_each place b c turn i =
      ⊎_elim (λ same. subst (λ n. EndsAt moved b c n) (sym same) turn.turn) (λ other. ends_stay i b c (turn.beside.others i other)) (cases_eq i place)

  pub ends_none : (p : Places S) → TakeLastTurns moved p p
  ends_none p = record { many = as_many_same p; each = λ i. ends_stay i p p (record { line = refl; session = refl }) }

  pub ends_then : (place : ℕ) (a b c : Places S) → TakeLastTurns moved a b → TakesLastTurn moved b c place → TakeLastTurns moved a c
  ends_then place a b c first turn = record {
    many = as_many_then a b c first.many turn.beside.many;
    each = λ i. ends_at_then i a b c first.many turn.beside.many (first.each i) (end_each place b c turn i);
  }

  -- ---- what one turn of a client does

  -- nothing
  pub takes_none : (a : Places S) (place : ℕ) → TakesTurn moved has_ended failures idle a a place
  takes_none a place = record {
    beside = record { many = as_many_same a; others = λ i other. record { line = refl; session = refl } };
    turn = turns_stay place a a (record { line = refl; session = refl });
  }

  pub sends_nothing : (a : Places S) (place : ℕ) → TakesLastTurn moved a a place
  sends_nothing a place = record {
    beside = record { many = as_many_same a; others = λ i other. record { line = refl; session = refl } };
    turn = ends_stay place a a (record { line = refl; session = refl });
  }

  module _ (a b : Places S) (place : ℕ) (line now : Line S) (before state : State) (inside : place < count a) (room : place < length a.sessions.items)
      (lines : b.lines.items ≡ set a.lines.items place (Some now)) (sessions : b.sessions.items ≡ set a.sessions.items place state)
      (was : line_at a place ≡ Some line) (had : session_at a place ≡ before) where
    beside : StaysBeside place a b
    beside = set_beside a b place (Some now) state inside room lines sessions

    is_now : line_at b place ≡ Some now
    is_now = set_line a b place (Some now) state inside room lines sessions

    has_now : session_at b place ≡ state
    has_now = set_session a b place (Some now) state inside room lines sessions

    nobody : IsFree a place → ⊥
    nobody free = none_or (line_at a place) line free.1 was

    -- it goes on
    pub takes_on : (IsPlain line → GoesOn moved has_ended line.stream now.stream before state) → dialect_of now ≡ dialect_of line → failures line.stream ≤ failures now.stream
        → TakesTurn moved has_ended failures idle a b place
    takes_on goes dialect later = record {
      beside = beside;
      turn = record {
        free = λ free. absurd (nobody free);
        client = λ other is.
            let same : line ≡ other = some_same line other (sym was ∙ is) in
            let From : Line S → State → State → Type 0 = λ l s t. IsPlain l → GoesOn moved has_ended l.stream now.stream s t in
            inl (record {
              now = now;
              there = is_now;
              dialect = subst (λ (l : Line S). dialect_of now ≡ dialect_of l) same dialect;
              goes_on = subst (λ l. From l (session_at a place) (session_at b place)) same
                  (subst (λ s. From line s (session_at b place)) (sym had) (subst (λ t. From line before t) (sym has_now) goes));
              later = subst (λ (l : Line S). failures l.stream ≤ failures now.stream) same later;
            });
      };
    }

    -- or it is let go
    pub takes_off : (c : Places S) (g : Gone) → (IsPlain line → GoesOn moved has_ended line.stream now.stream before state) → failures line.stream ≤ failures now.stream
        → HasReason g (failures line.stream) (failures now.stream) state idle → StaysBeside place b c → IsFree c place → session_at c place ≡ fresh
        → TakesTurn moved has_ended failures idle a c place
    takes_off c g goes later reason let_go free is_fresh = record {
      beside = beside_then place a b c beside let_go;
      turn = record {
        free = λ was_free. absurd (nobody was_free);
        client = λ other is.
            let same : line ≡ other = some_same line other (sym was ∙ is) in
            let From : Line S → State → Type 0 = λ l s. IsPlain l → GoesOn moved has_ended l.stream now.stream s state in
            inr (record {
              last = now.stream;
              state = state;
              gone = g;
              goes_on = subst (λ l. From l (session_at a place)) same (subst (λ s. From line s) (sym had) goes);
              later = subst (λ (l : Line S). failures l.stream ≤ failures now.stream) same later;
              reason = subst (λ (l : Line S). HasReason g (failures l.stream) (failures now.stream) state idle) same reason;
              free = free;
              fresh = is_fresh;
            });
      };
    }

    -- the last bytes were sent to it
    pub sends_on : SendsOn moved line.stream now.stream before state → TakesLastTurn moved a b place
    sends_on sends = record {
      beside = beside;
      turn = record {
        free = λ free. absurd (nobody free);
        client = λ other is.
            let same : line ≡ other = some_same line other (sym was ∙ is) in
            let From : Line S → State → Type 0 = λ l s. SendsOn moved l.stream now.stream s state in
            record {
              last = now.stream;
              state = state;
              sends = subst (λ l. From l (session_at a place)) same (subst (λ s. From line s) (sym had) sends);
              left = inl (now, is_now, refl, has_now);
            };
      };
    }

    pub sends_off : (c : Places S) → SendsOn moved line.stream now.stream before state → StaysBeside place b c → IsFree c place → session_at c place ≡ fresh
        → TakesLastTurn moved a c place
    sends_off c sends let_go free is_fresh = record {
      beside = beside_then place a b c beside let_go;
      turn = record {
        free = λ was_free. absurd (nobody was_free);
        client = λ other is.
            let same : line ≡ other = some_same line other (sym was ∙ is) in
            let From : Line S → State → Type 0 = λ l s. SendsOn moved l.stream now.stream s state in
            record {
              last = now.stream;
              state = state;
              sends = subst (λ l. From l (session_at a place)) same (subst (λ s. From line s) (sym had) sends);
              left = inr (free, is_fresh);
            };
      };
    }
