-- What was served to a client goes on, call after call.
use Rattle.std.proofs.Common.{◌≡◌, ◌∙◌, ap, sym, refl, subst, List, [], ◌++◌, append_assoc, ℕ, Bool, true, false}
use Rattle.std.proofs.lemmas.List.{append-nil}
use Rattle.names.specs.declared.format.Rules.{Rules}
use Rattle.decoded.specs.Standing.{View}
use Rattle.httpmsg.specs.Stream.{Message, IsCut}
use Rattle.api.specs.Answers.{Answered, messages}
use Rattle.sessions.specs.Batch.{messages_of}
use Rattle.sessions.specs.State.{State, is_open}
use Rattle.sessions.specs.Pieces.{TakesPiece}
use Rattle.sessions.specs.Served.{IsServed, IsToldOfFailure}
use Rattle.sessions.proofs.Serving.{served_ended, served_sent, served_forgets, served_piece, served_end, cut_before, told_sent, told_forgets}
use Rattle.clients.specs.declared.moving.Moved.{Moved}
use Rattle.clients.specs.declared.moving.Moved.TheVariants as moved_as
use Rattle.clients.specs.Moving.{Reads, ReadsNothing}
use Rattle.clients.specs.Story.{IsServedOn, GoesOn, SendsOn}

module _ {S : Type 0} (moved : S → S → List ℕ → List ℕ → Type 0) (has_ended : S → Type 0) where
  -- nothing was done
  pub goes_none : (stream : S) (s : State) → moved stream stream [] [] → GoesOn moved has_ended stream stream s s
  goes_none stream s none rules v place places answered read sent served =
      let Read : List ℕ → Type 0 = λ r. IsServed rules v place places answered (has_ended stream) r (sent ++ []) s in
      let Sent : List ℕ → Type 0 = λ w. IsServed rules v place places answered (has_ended stream) read w s in
      record { more_read = []; more_sent = []; exchanged = none; served = subst Read (sym (append-nil read)) (subst Sent (sym (append-nil sent)) served) }

  pub goes_then : (a b c : S) (s t u : State)
      → ((old mid new : S) (read more sent further : List ℕ) → moved old mid read sent → moved mid new more further → moved old new (read ++ more) (sent ++ further))
      → GoesOn moved has_ended a b s t → GoesOn moved has_ended b c t u → GoesOn moved has_ended a c s u
  goes_then a b c s t u moved_then first then rules v place places answered read sent served =
      let one = first rules v place places answered read sent served in
      let two = then rules v place places answered (read ++ one.more_read) (sent ++ one.more_sent) one.served in
      let Read : List ℕ → Type 0 = λ r. IsServed rules v place places answered (has_ended c) r (sent ++ (one.more_sent ++ two.more_sent)) u in
      let Sent : List ℕ → Type 0 = λ w. IsServed rules v place places answered (has_ended c) ((read ++ one.more_read) ++ two.more_read) w u in
      record {
        more_read = one.more_read ++ two.more_read;
        more_sent = one.more_sent ++ two.more_sent;
        exchanged = moved_then a b c one.more_read two.more_read one.more_sent two.more_sent one.exchanged two.exchanged;
        served = subst Read (append_assoc read one.more_read two.more_read) (subst Sent (append_assoc sent one.more_sent two.more_sent) two.served);
      }

  -- bytes were sent, and what was read is forgotten
  pub sends_go : (a b : S) (s t : State) → ((old new : S) (read sent : List ℕ) → moved old new read sent → has_ended old → has_ended new)
      → SendsOn moved a b s t → GoesOn moved has_ended a b s t
  sends_go a b s t ended_then sends rules v place places answered read sent served =
      let ended : has_ended a → has_ended b = ended_then a b sends.forgotten sends.front sends.exchanged in
      let sent_now = served_sent rules v place places answered (has_ended b) read sent s t sends.front sends.waited sends.waiting sends.progress sends.phase
      (served_ended rules v place places answered (has_ended a) (has_ended b) read sent s ended served) in
      record { more_read = sends.forgotten; more_sent = sends.front; exchanged = sends.exchanged; served = on (is_open t.phase) refl sent_now }
    where
      on : (o : Bool) → is_open t.phase ≡ o → IsServed rules v place places answered (has_ended b) read (sent ++ sends.front) t
          → IsServed rules v place places answered (has_ended b) (read ++ sends.forgotten) (sent ++ sends.front) t
      on true opened now =
          let Read : List ℕ → Type 0 = λ r. IsServed rules v place places answered (has_ended b) r (sent ++ sends.front) t in
          subst Read (sym (ap (λ f. read ++ f) (sends.while_open opened) ∙ append-nil read)) now
      on false closed now = served_forgets rules v place places answered (has_ended b) read (sent ++ sends.front) t sends.forgotten closed now

  -- the same of a client that was told of a failure
  pub sends_tell : (a b : S) (s t : State) (sends : SendsOn moved a b s t) (rules : Rules) (v : View) (place : ℕ) (places : List ℕ) (answered : List Answered) (read sent : List ℕ)
      → IsToldOfFailure rules v place places answered read sent s → IsToldOfFailure rules v place places answered (read ++ sends.forgotten) (sent ++ sends.front) t
  sends_tell a b s t sends rules v place places answered read sent told =
      told_forgets rules v place places answered (has_ended b) read (sent ++ sends.front) t sends.forgotten
      (told_sent rules v place places answered (has_ended b) read sent s t sends.front sends.waited sends.waiting sends.progress sends.phase told)

  -- a session took a piece
  pub piece_goes : (a b : S) (s t : State) (piece : List ℕ) → s.waiting ≡ [] → is_open s.phase ≡ true
      → ((old new : S) (read sent : List ℕ) → moved old new read sent → has_ended old → has_ended new)
      → moved a b piece [] → ((read : List ℕ) (ms : List Message) → IsCut read ms s.progress → TakesPiece read ms piece s t) → GoesOn moved has_ended a b s t
  piece_goes a b s t piece idle opened ended_then given takes rules v place places answered read sent served =
      let now = served_ended rules v place places answered (has_ended a) (has_ended b) read sent s (ended_then a b piece [] given) served in
      let Sent : List ℕ → Type 0 = λ w. IsServed rules v place places answered (has_ended b) (read ++ piece) w t in
      let cut = cut_before rules v place places answered (has_ended b) read sent s t idle opened now in
      record {
        more_read = piece;
        more_sent = [];
        exchanged = given;
        served = subst Sent (sym (append-nil sent))
            (served_piece rules v place places answered (has_ended b) read sent s t idle opened now piece (takes read (messages_of place places (messages answered)) cut));
      }

  -- one read of a stream
  pub reads_go : (a b : S) (s t : State) (m : Moved) → s.waiting ≡ [] → is_open s.phase ≡ true
      → ((old new : S) (read sent : List ℕ) → moved old new read sent → has_ended old → has_ended new)
      → ((read : List ℕ) (ms : List Message) → IsCut read ms s.progress → Reads moved a b has_ended read ms s t m) → GoesOn moved has_ended a b s t
  reads_go a b s t m idle opened ended_then reads rules v place places answered read sent served =
      on m (reads read (messages_of place places (messages answered)) (cut_before rules v place places answered (has_ended a) read sent s t idle opened served))
    where
      none : ReadsNothing moved a b s t → IsServedOn moved has_ended a b rules v place places answered read sent t
      none nothing =
          let now = served_ended rules v place places answered (has_ended a) (has_ended b) read sent s (ended_then a b [] [] nothing.none) served in
          let To : State → Type 0 = λ x. IsServed rules v place places answered (has_ended b) (read ++ []) (sent ++ []) x in
          let Read : List ℕ → Type 0 = λ r. IsServed rules v place places answered (has_ended b) r (sent ++ []) s in
          let Sent : List ℕ → Type 0 = λ w. IsServed rules v place places answered (has_ended b) read w s in
          record {
            more_read = [];
            more_sent = [];
            exchanged = nothing.none;
            served = subst To (sym nothing.same) (subst Read (sym (append-nil read)) (subst Sent (sym (append-nil sent)) now));
          }

      on : (n : Moved) → Reads moved a b has_ended read (messages_of place places (messages answered)) s t n → IsServedOn moved has_ended a b rules v place places answered read sent t
      on moved_as.Some piece =
          let now = served_ended rules v place places answered (has_ended a) (has_ended b) read sent s (ended_then a b piece.piece [] piece.consumed) served in
          let Sent : List ℕ → Type 0 = λ w. IsServed rules v place places answered (has_ended b) (read ++ piece.piece) w t in
          record {
            more_read = piece.piece;
            more_sent = [];
            exchanged = piece.consumed;
            served = subst Sent (sym (append-nil sent))
                (served_piece rules v place places answered (has_ended b) read sent s t idle opened now piece.piece piece.taken);
          }
      on moved_as.Again nothing = none nothing
      on moved_as.Waits nothing = none nothing
      on moved_as.Ended end =
          let now = served_ended rules v place places answered (has_ended a) (has_ended b) read sent s (ended_then a b [] [] end.none) served in
          let Read : List ℕ → Type 0 = λ r. IsServed rules v place places answered (has_ended b) r (sent ++ []) t in
          let Sent : List ℕ → Type 0 = λ w. IsServed rules v place places answered (has_ended b) read w t in
          record {
            more_read = [];
            more_sent = [];
            exchanged = end.none;
            served = subst Read (sym (append-nil read)) (subst Sent (sym (append-nil sent))
                (served_end rules v place places answered (has_ended b) read sent s t idle opened now end.ended end.input));
          }
      on moved_as.Failed nothing = none nothing

  -- it is looked at what stands behind the messages that were answered
  pub looks_go : (stream : S) (s t : State) → s.waiting ≡ [] → moved stream stream [] []
      → ((old new : S) (read sent : List ℕ) → moved old new read sent → has_ended old → has_ended new)
      → (is_open s.phase ≡ false → t ≡ s)
      → ((read : List ℕ) (ms : List Message) → is_open s.phase ≡ true → IsCut read ms s.progress → TakesPiece read ms [] s t) → GoesOn moved has_ended stream stream s t
  looks_go stream s t idle none ended_then over takes = on (is_open s.phase) refl
    where
      on : (o : Bool) → is_open s.phase ≡ o → GoesOn moved has_ended stream stream s t
      on true opened = piece_goes stream stream s t [] idle opened ended_then none (λ read ms cut. takes read ms opened cut)
      on false closed =
          let To : State → Type 0 = λ x. GoesOn moved has_ended stream stream s x in
          subst To (sym (over closed)) (goes_none stream s none)
