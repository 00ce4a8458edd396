-- What a write to its outbox leaves of a session.
use Rattle.std.proofs.Common.{◌≡◌, ◌∙◌, sym, ap, refl, subst, ℕ, List, [], ◌∷◌, ◌++◌, true, false, true≢false}
use Rattle.std.proofs.lemmas.List.{append-nil}
use Rattle.names.specs.declared.format.Format.{Format}
use Rattle.requests.specs.declared.refusal.Refusal.TheVariants.{OutOfMemory}
use Rattle.requests.specs.Reply.{Reply, status}
use Rattle.routes.specs.AnswerBytes.{answer_bytes}
use Rattle.std.specs.Prelude.{Option, None, unwrap_or}
use Rattle.dialect.specs.ConstantBytes.{constant_bytes}
use Rattle.routes.specs.ReplyBytes.{response_of, allow_in, reply_bytes}
use Rattle.httpmsg.specs.Response.{crlf, content}
use Rattle.httpmsg.specs.Stream.{is_head}
use Rattle.httpmsg.specs.Flow.{TookSome}
use Rattle.httpmsg.specs.Stream.{Message, Progress}
use Rattle.sessions.specs.declared.outbox.Outbox.{Outbox}
use Rattle.sessions.specs.declared.session.Phase.{Phase}
use Rattle.sessions.specs.declared.session.Phase.TheVariants.{Open, Over, Lost}
use Rattle.sessions.specs.Outbox.{unsent}
use Rattle.sessions.specs.State.{State, is_open, is_lost, Gains, GoesOnWith, Closes}

back_nil : (x y : List ℕ) → x ++ y ≡ [] → y ≡ []
back_nil [] y is = is
back_nil (b ∷ x) y is = absurd cc

front_nil : (x y : List ℕ) → x ++ y ≡ [] → x ≡ []
front_nil [] y is = refl
front_nil (b ∷ x) y is = absurd cc

-- a reply has bytes: the line that is empty, at least
reply_has_some : (format : Format) (m : Message) (r : Reply) → reply_bytes format m r ≡ [] → ⊥
reply_has_some format m r none =
    let ends : crlf ≡ [] = back_nil _ crlf (front_nil _ (content (response_of (allow_in format m r) (is_head m.method) m.closes r)) none) in
    cc

pub answer_has_some : (format : Format) (m : Message) (reply : Option Reply) → answer_bytes format m reply ≡ [] → ⊥
answer_has_some format m reply none = reply_has_some format m (unwrap_or reply (status OutOfMemory)) none

-- a constant has bytes too
pub constant_has_some : (m : Message) (text : List ℕ) → constant_bytes m text ≡ [] → ⊥
constant_has_some m text none =
    let ends : crlf ≡ [] = back_nil _ crlf (front_nil _ (content (response_of None (is_head m.method) m.closes (record { code = 200; warnings = []; body = text }))) none) in
    cc

-- what an outbox took
abbrev pub Gathers : Outbox → Outbox → List ℕ → Type 0
Gathers old new bytes = unsent new ≡ unsent old ++ bytes

module _ (progress : Progress) (waiting : List Message) (o p : Outbox) (bytes : List ℕ) where
  abbrev pub with_outbox : Outbox → Phase → State
  with_outbox box phase = record { progress = progress; waiting = waiting; unsent = unsent box; phase = phase }

  all_gained : (old new : Phase) → Gathers o p bytes → Gains (with_outbox o old) (with_outbox p new) bytes
  all_gained old new took = record { front = bytes; rest = []; split = sym (append-nil bytes); unsent = took; whole = λ kept. refl }

  some_gained : (old : Phase) → TookSome Gathers o p bytes → Gains (with_outbox o old) (with_outbox p Lost) bytes
  some_gained old some = record {
    front = some.front;
    rest = some.rest;
    split = some.split;
    unsent = some.taken;
    whole = λ kept. absurd (true≢false kept);
  }

  pub closes_written : (phase : Phase) (now : State) → with_outbox o phase ≡ now → Gathers o p bytes → Closes now (with_outbox p Over) bytes
  closes_written phase now is took =
      subst (λ (s : State). Closes s (with_outbox p Over) bytes) is (record { gains = all_gained phase Over took; over = refl; waiting = refl })

  pub closes_in_part : (phase : Phase) (now : State) → with_outbox o phase ≡ now → TookSome Gathers o p bytes → Closes now (with_outbox p Lost) bytes
  closes_in_part phase now is some =
      subst (λ (s : State). Closes s (with_outbox p Lost) bytes) is (record { gains = some_gained phase some; over = refl; waiting = refl })

  pub goes_on_written : (phase : Phase) (now : State) → (bytes ≡ [] → ⊥) → with_outbox o phase ≡ now → is_lost now.phase ≡ false → Gathers o p bytes
      → GoesOnWith now (with_outbox p phase) bytes
  goes_on_written phase now some is kept took =
      let From : State → Type 0 = λ s. is_lost s.phase ≡ false → GoesOnWith s (with_outbox p phase) bytes in
      subst From is
      (λ here. record {
        gains = all_gained phase phase took;
        phase = λ kept. refl;
        lost = λ lost. absurd (true≢false (sym lost ∙ here));
        none = λ none. absurd (some none);
        waiting = refl;
        progress = refl;
      })
      kept

  pub goes_on_in_part : (phase : Phase) (now : State) → (bytes ≡ [] → ⊥) → with_outbox o phase ≡ now → is_lost now.phase ≡ false → TookSome Gathers o p bytes
      → GoesOnWith now (with_outbox p Lost) bytes
  goes_on_in_part phase now any is kept some =
      let From : State → Type 0 = λ s. is_lost s.phase ≡ false → GoesOnWith s (with_outbox p Lost) bytes in
      subst From is
      (λ here. record {
        gains = some_gained phase some;
        phase = λ kept. absurd (true≢false kept);
        lost = λ lost. absurd (true≢false (sym lost ∙ here));
        none = λ none. absurd (any none);
        waiting = refl;
        progress = refl;
      })
      kept

-- a session that was lost gets nothing
pub goes_on_lost : (s : State) (bytes : List ℕ) → is_lost s.phase ≡ true → GoesOnWith s s bytes
goes_on_lost s bytes lost = record {
  gains = record {
    front = [];
    rest = bytes;
    split = refl;
    unsent = sym (append-nil s.unsent);
    whole = λ kept. absurd (true≢false (sym lost ∙ kept));
  };
  phase = λ kept. refl;
  lost = λ is. refl;
  none = λ none. refl;
  waiting = refl;
  progress = refl;
}

-- seen from before what else changed
pub closes_from : (now mid new : State) (bytes : List ℕ) → mid.unsent ≡ now.unsent → mid.waiting ≡ now.waiting → Closes mid new bytes → Closes now new bytes
closes_from now mid new bytes same waits closes =
    let gains = closes.gains in
    record {
      gains = record {
        front = gains.front;
        rest = gains.rest;
        split = gains.split;
        unsent = gains.unsent ∙ ap (λ u. u ++ gains.front) same;
        whole = gains.whole;
      };
      over = closes.over;
      waiting = closes.waiting ∙ waits;
    }

-- nothing is written
pub closes_quietly : (now new : State) (bytes : List ℕ) → bytes ≡ [] → new ≡ record now { phase = Over } → Closes now new bytes
closes_quietly now new bytes none is =
    let To : State → Type 0 = λ s. Closes now s bytes in
    subst To (sym is) (record {
      gains = record { front = []; rest = []; split = none; unsent = sym (append-nil now.unsent); whole = λ kept. refl };
      over = refl;
      waiting = refl;
    })

pub opened : (phase : Phase) → is_open phase ≡ true → phase ≡ Open
opened Open is = refl
opened Over is = cc
opened Lost is = cc
