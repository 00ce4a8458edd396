-- What several calls of a stream send, one after another.
use Rattle.std.proofs.Common.{◌≡◌, ◌∙◌, ap, sym, refl, List, [], ◌++◌, append_assoc, ℕ, true}
use Rattle.sessions.specs.State.{State, is_open}
use Rattle.clients.specs.Moving.{Sends}
use Rattle.clients.specs.Story.{SendsOn}

module _ {S : Type 0} (moved : S → S → List ℕ → List ℕ → Type 0) where
  pub sends_none : (stream : S) (s : State) → moved stream stream [] [] → SendsOn moved stream stream s s
  sends_none stream s none =
      record { forgotten = []; front = []; exchanged = none; while_open = λ opened. refl; waited = refl; waiting = refl; progress = refl; phase = refl }

  pub sends_once : (a b : S) (s t : State) → Sends moved a b s t → SendsOn moved a b s t
  sends_once a b s t once = record {
    forgotten = [];
    front = once.front;
    exchanged = once.sent;
    while_open = λ opened. refl;
    waited = once.waited;
    waiting = once.waiting;
    progress = once.progress;
    phase = once.phase;
  }

  pub sends_then : (a b c : S) (s t u : State)
      → ((old mid new : S) (read more sent further : List ℕ) → moved old mid read sent → moved mid new more further → moved old new (read ++ more) (sent ++ further))
      → SendsOn moved a b s t → SendsOn moved b c t u → SendsOn moved a c s u
  sends_then a b c s t u moved_then first then = record {
    forgotten = first.forgotten ++ then.forgotten;
    front = first.front ++ then.front;
    exchanged = moved_then a b c first.forgotten then.forgotten first.front then.front first.exchanged then.exchanged;
    while_open = λ opened.
        ap (λ z. z ++ then.forgotten) (first.while_open (ap is_open (sym then.phase) ∙ opened)) ∙ then.while_open opened;
    waited = first.waited ∙ ap (λ x. first.front ++ x) then.waited ∙ sym (append_assoc first.front then.front u.unsent);
    waiting = then.waiting ∙ first.waiting;
    progress = then.progress ∙ first.progress;
    phase = then.phase ∙ first.phase;
  }

  -- what is read of a client whose session takes no more is forgotten
  pub forgets : (a b : S) (s : State) (read : List ℕ) → (is_open s.phase ≡ true → ⊥) → moved a b read [] → SendsOn moved a b s s
  forgets a b s read closed given =
      record { forgotten = read; front = []; exchanged = given; while_open = λ opened. absurd (closed opened); waited = refl; waiting = refl; progress = refl; phase = refl }
