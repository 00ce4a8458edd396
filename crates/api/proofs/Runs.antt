-- A connection, piece after piece.
use Rattle.std.proofs.Common.{◌≡◌, ℕ, List, [], ◌∷◌, ◌++◌, ap, sym, ◌∙◌, refl, subst, append_assoc, Some, None, inl, inr, ◌⊎◌, false, Bool, Result, Ok, Err, IfOk, MatchResult, IsErrOf, ◌≤◌, arith}
use Rattle.std.proofs.lemmas.List.{append-nil}
use Rattle.device.specs.declared.device.Device.{Ghosts}
use Rattle.requests.specs.declared.refusal.Refusal.TheVariants.{OutOfMemory}
use Rattle.names.specs.declared.format.Rules.{Rules}
use Rattle.decoded.specs.Standing.{View}
use Rattle.durable.specs.declared.store.Store.{Store}
use Rattle.durable.specs.Settled.{device_of}
use Rattle.httpmsg.specs.declared.head.End.{End}
use Rattle.httpmsg.specs.Flow.{TookSome}
use Rattle.httpmsg.specs.Stream.{Message, Progress, IsCut}
use Rattle.httpmsg.proofs.Cuts.{awaits_first, awaits_now}
use Rattle.api.specs.declared.fault.ServeFault.{ServeFault}
use Rattle.api.specs.declared.fault.ServeFault.TheVariants.{Read, Write, Device, Memory, Damaged, Failed}
use Rattle.routes.specs.ReplyBytes.{closing_bytes, end_bytes}
use Rattle.api.specs.Answers.{ShowsAt, messages, all_bytes, Answers, WritesSome, MeetsFailure}
use Rattle.api.specs.Piece.{TellsMore, FailsAtMore, Breaks, StepsWrong, Finishes, FinishesInPart}
use Rattle.api.specs.Serving.{Ends, IsClosing, HasEnded, HasReadSome, HasWrittenSome, HasFailed, HasLackedMemory, HasStopped, HasAllCauses, Exchanged}
use Rattle.api.proofs.Folds.{seen, grown_after, answers_none, answers_then, writes_some_then, fails_then}
use Rattle.api.proofs.Streams.{at_once, ended_stream}

module _ (rules : Rules) where
  -- The bytes that were cut are these messages, which are answered, and a piece after them is read and not fed yet.
  pub record SoFar {I O D : Type 0} {g : Ghosts D} (gave : I → I → List ℕ → Type 0) (took : O → O → List ℕ → Type 0) (i j : I) (o p : O)
      (old new : Store D g) (v : View) (now : Progress) (piece : List ℕ) : Type 0 where
    pub read : List ℕ
    pub ms : List Message
    pub given : gave i j (read ++ piece)
    pub cut : IsCut read ms now
    pub answers : Answers rules took o p old new v ms []

nothing_waits : {A : Type 0} (xs ys : List A) → [] ≡ xs ++ ys → ys ≡ []
nothing_waits [] ys e = sym e
nothing_waits (x ∷ xs) ys e = cc

module _ {I O D : Type 0} {g : Ghosts D} (rules : Rules) (gave : I → I → List ℕ → Type 0) (took : O → O → List ℕ → Type 0) (failures : O → ℕ) where
  -- before the first piece
  pub so_far_none : (i : I) (o : O) (store : Store D g) (v : View) → gave i i [] → took o o []
      → (g.disk.keeps (device_of store) → (c : List ℕ) → g.disk.since (device_of store) (g.disk.moment (device_of store)) c → g.disk.left (device_of store) c)
      → ShowsAt rules store v → SoFar rules gave took i i o o store store v (record { pending = []; end = None }) []
  so_far_none i o store v none_given none_taken only_now shows = record {
    read = [];
    ms = [];
    given = none_given;
    cut = (refl, (awaits_now [] 1 (awaits_first [] refl)).1);
    answers = answers_none rules took o store v none_taken shows only_now;
  }

  -- the output failed
  wrote_some : (i j : I) (o p : O) (old new : Store D g) (v : View) (ms : List Message) (closing : List ℕ) (cut uncut : List ℕ) (now : Progress)
      → gave i j (cut ++ uncut) → IsCut cut ms now → (some : WritesSome rules took o p old new v ms closing)
      → (closing ≡ []) ⊎ ((some.waiting ≡ []) × IsClosing cut ms closing) → Exchanged gave took i j o p (HasWrittenSome rules old new v)
  wrote_some i j o p old new v ms closing cut uncut now given is_cut some closes = record {
    read = cut ++ uncut;
    written = some.written.front;
    gave_them = given;
    took_them = some.written.taken;
    holds = record {
      answered = some.answered;
      waiting = some.waiting;
      cut = cut;
      uncut = uncut;
      parts = refl;
      progress = now;
      stream = subst (λ xs. IsCut cut xs now) some.split is_cut;
      closing = closing;
      closes = all_closed closes;
      unwritten = some.written.rest;
      text = some.written.split;
      store = some.store;
    };
  }
    where
      all_closed : (closing ≡ []) ⊎ ((some.waiting ≡ []) × IsClosing cut ms closing)
          → (closing ≡ []) ⊎ ((some.waiting ≡ []) × IsClosing cut (messages some.answered) closing)
      all_closed (inl none) = inl none
      all_closed (inr last) =
          let all : ms ≡ messages some.answered =
          some.split ∙ ap (λ xs. messages some.answered ++ xs) last.0 ∙ append-nil (messages some.answered)
          in
          inr (last.0, subst (λ xs. IsClosing cut xs closing) all last.1)

  -- memory was refused to further bytes
  lacked : (i j : I) (o p : O) (old new : Store D g) (v : View) (ms : List Message) (cut uncut : List ℕ) (now : Progress)
      → gave i j (cut ++ uncut) → IsCut cut ms now → Answers rules took o p old new v ms (closing_bytes false OutOfMemory)
      → Exchanged gave took i j o p (HasLackedMemory rules old new v)
  lacked i j o p old new v ms cut uncut now given is_cut all = record {
    read = cut ++ uncut;
    written = all_bytes rules v all.answered ++ closing_bytes false OutOfMemory;
    gave_them = given;
    took_them = all.written;
    holds = record {
      answered = all.answered;
      cut = cut;
      uncut = uncut;
      parts = refl;
      progress = now;
      stream = subst (λ xs. IsCut cut xs now) (sym all.answers) is_cut;
      text = refl;
      store = all.store;
    };
  }

  -- the stream was served to its end
  served_to_end : (i j : I) (o p : O) (old new : Store D g) (v : View) (ms : List Message) (ended : Type 0) (read : List ℕ) (end : End)
      → gave i j read → Ends ended read ms end → Answers rules took o p old new v ms (end_bytes end)
      → Exchanged gave took i j o p (λ r w. HasEnded rules old new v r w ended end)
  served_to_end i j o p old new v ms ended read end given stream all = record {
    read = read;
    written = all_bytes rules v all.answered ++ end_bytes end;
    gave_them = given;
    took_them = all.written;
    holds = record {
      answered = all.answered;
      stream = subst (λ xs. Ends ended read xs end) (sym all.answers) stream;
      text = refl;
      store = all.store;
    };
  }

  -- the input failed
  pub failed_to_read : (i j k : I) (o p : O) (old new : Store D g) (v : View) (now : Progress)
      → ((old mid new : I) (front back : List ℕ) → gave old mid front → gave mid new back → gave old new (front ++ back))
      → SoFar rules gave took i j o p old new v now [] → gave j k [] → now.end ≡ None → Exchanged gave took i k o p (HasReadSome rules old new v)
  failed_to_read i j k o p old new v now gave_then so_far nothing open_ =
      let all = so_far.answers in
      let Given : List ℕ → Type 0 = λ bytes. gave i k bytes in
      record {
        read = so_far.read;
        written = all_bytes rules v all.answered ++ [];
        gave_them = subst Given (append-nil (so_far.read ++ []) ∙ append-nil so_far.read) (gave_then i j k (so_far.read ++ []) [] so_far.given nothing);
        took_them = all.written;
        holds = record {
          answered = all.answered;
          stream = (
            now.pending,
            subst (λ e. IsCut so_far.read (messages all.answered) (record { pending = now.pending; end = e })) open_
                (subst (λ xs. IsCut so_far.read xs now) (sym all.answers) so_far.cut),
          );
          text = append-nil (all_bytes rules v all.answered);
          store = all.store;
        };
      }

  -- a further piece
  pub so_far_read : (i j k : I) (o p : O) (old new : Store D g) (v : View) (now : Progress) (piece : List ℕ)
      → ((old mid new : I) (front back : List ℕ) → gave old mid front → gave mid new back → gave old new (front ++ back))
      → SoFar rules gave took i j o p old new v now [] → gave j k piece → SoFar rules gave took i k o p old new v now piece
  so_far_read i j k o p old new v now piece gave_then so_far more = record {
    read = so_far.read;
    ms = so_far.ms;
    given = subst (λ bytes. gave i k (bytes ++ piece)) (append-nil so_far.read) (gave_then i j k (so_far.read ++ []) piece so_far.given more);
    cut = so_far.cut;
    answers = so_far.answers;
  }

  module _ (took_then : (old mid new : O) (front back : List ℕ) → took old mid front → took mid new back → took old new (front ++ back)) where
    -- the piece is fed, and its messages are answered
    pub so_far_told : (i j : I) (o p q : O) (old mid new : Store D g) (v : View) (before now : Progress) (piece : List ℕ)
        → (so_far : SoFar rules gave took i j o p old mid v before piece)
        → TellsMore rules took failures p q mid new (seen rules v so_far.answers.answered) so_far.read so_far.ms before piece now []
        → SoFar rules gave took i j o q old new v now []
    so_far_told i j o p q old mid new v before now piece so_far told = record {
      read = so_far.read ++ piece;
      ms = so_far.ms ++ told.more;
      given = subst (λ bytes. gave i j bytes) (sym (append-nil (so_far.read ++ piece))) so_far.given;
      cut = told.cut;
      answers = answers_then rules took took_then o p q old mid new v so_far.ms told.more [] so_far.answers told.answers;
    }

    -- the piece ends the stream
    pub ended_by : (i j : I) (o p q : O) (old mid new : Store D g) (v : View) (before now : Progress) (piece : List ℕ) (ended : Type 0) (end : End)
        → (so_far : SoFar rules gave took i j o p old mid v before piece)
        → TellsMore rules took failures p q mid new (seen rules v so_far.answers.answered) so_far.read so_far.ms before piece now (end_bytes end)
        → now.end ≡ Some end → Exchanged gave took i j o q (λ r w. HasEnded rules old new v r w ended end)
    ended_by i j o p q old mid new v before now piece ended end so_far told is =
        served_to_end i j o q old new v (so_far.ms ++ told.more) ended (so_far.read ++ piece) end so_far.given
        (inr (at_once (so_far.read ++ piece) (so_far.ms ++ told.more) now end told.cut is))
        (answers_then rules took took_then o p q old mid new v so_far.ms told.more (end_bytes end) so_far.answers told.answers)

    answers_and : (o p q : O) (old new : Store D g) (v : View) (ms : List Message) (closing : List ℕ) → Answers rules took o p old new v ms []
        → took p q closing → Answers rules took o q old new v ms closing
    answers_and o p q old new v ms closing all more = record {
      answered = all.answered;
      answers = all.answers;
      written = subst (λ b. took o q (b ++ closing)) (append-nil (all_bytes rules v all.answered)) (took_then o p q (all_bytes rules v all.answered ++ []) closing all.written more);
      store = all.store;
    }

    abbrev writes_and : (o p q : O) (old new : Store D g) (v : View) (ms : List Message) (closing : List ℕ) → Answers rules took o p old new v ms []
        → TookSome took p q closing → WritesSome rules took o q old new v ms closing
    writes_and o p q old new v ms closing all some =
        let front : List ℕ = all_bytes rules v all.answered ++ [] in
        record {
          answered = all.answered;
          waiting = [];
          split = sym (append-nil (messages all.answered) ∙ all.answers);
          written = record {
            front = front ++ some.front;
            rest = some.rest;
            split = ap (λ b. b ++ closing) (sym (append-nil (all_bytes rules v all.answered))) ∙ ap (λ b. front ++ b) some.split
                ∙ sym (append_assoc front some.front some.rest);
            taken = took_then o p q front some.front all.written some.taken;
          };
          store = all.store;
        }

    -- the input has ended
    pub finished : (i j k : I) (o p q : O) (old new : Store D g) (v : View) (now : Progress) (ended : Type 0) (end : End)
        → ((old mid new : I) (front back : List ℕ) → gave old mid front → gave mid new back → gave old new (front ++ back))
        → (so_far : SoFar rules gave took i j o p old new v now []) → gave j k [] → ended → Finishes took p q so_far.read so_far.ms end
        → Exchanged gave took i k o q (λ r w. HasEnded rules old new v r w ended end)
    finished i j k o p q old new v now ended end gave_then so_far nothing has_ended finishes =
        let Given : List ℕ → Type 0 = λ bytes. gave i k bytes in
        served_to_end i k o q old new v so_far.ms ended so_far.read end
        (subst Given (append-nil (so_far.read ++ []) ∙ append-nil so_far.read) (gave_then i j k (so_far.read ++ []) [] so_far.given nothing))
        (inl (has_ended, finishes.stream)) (answers_and o p q old new v so_far.ms (end_bytes end) so_far.answers finishes.written)

    pub finished_in_part : (i j k : I) (o p q : O) (old new : Store D g) (v : View) (now : Progress) (fault : ServeFault)
        → ((old mid new : I) (front back : List ℕ) → gave old mid front → gave mid new back → gave old new (front ++ back))
        → (so_far : SoFar rules gave took i j o p old new v now []) → gave j k [] → FinishesInPart took p q so_far.read so_far.ms fault
        → Exchanged gave took i k o q (HasStopped rules old new v (failures o) (failures q) fault)
    finished_in_part i j k o p q old new v now fault gave_then so_far nothing part =
        let Stopped : ServeFault → Type 0 = λ f. Exchanged gave took i k o q (HasStopped rules old new v (failures o) (failures q) f) in
        let closing : List ℕ = end_bytes part.end in
        let closes : IsClosing so_far.read so_far.ms closing = inl (part.end, part.stream, refl) in
        subst Stopped (sym part.is)
        (wrote_some i k o q old new v so_far.ms closing so_far.read [] now
        (subst (λ bytes. gave i k bytes) (append-nil (so_far.read ++ [])) (gave_then i j k (so_far.read ++ []) [] so_far.given nothing)) so_far.cut
        (writes_and o p q old new v so_far.ms closing so_far.answers part.written) (inr (refl, closes)))

    -- no further piece is taken
    pub no_more : (i j : I) (o p q : O) (old new : Store D g) (v : View) (now : Progress) (piece : List ℕ)
        → SoFar rules gave took i j o p old new v now piece → took p q (closing_bytes false OutOfMemory)
        → Exchanged gave took i j o q (HasLackedMemory rules old new v)
    no_more i j o p q old new v now piece so_far written =
        lacked i j o q old new v so_far.ms so_far.read piece now so_far.given so_far.cut
        (answers_and o p q old new v so_far.ms (closing_bytes false OutOfMemory) so_far.answers written)

    pub no_more_in_part : (i j : I) (o p q : O) (old new : Store D g) (v : View) (now : Progress) (piece : List ℕ)
        → SoFar rules gave took i j o p old new v now piece → TookSome took p q (closing_bytes false OutOfMemory)
        → Exchanged gave took i j o q (HasWrittenSome rules old new v)
    no_more_in_part i j o p q old new v now piece so_far some =
        let closing : List ℕ = closing_bytes false OutOfMemory in
        let closes : IsClosing so_far.read so_far.ms closing = inr refl in
        wrote_some i j o q old new v so_far.ms closing so_far.read piece now so_far.given so_far.cut
        (writes_and o p q old new v so_far.ms closing so_far.answers some) (inr (refl, closes))

    -- the device failed at a message of the piece, now or before
    abbrev failed_by : (i j : I) (o p q : O) → failures o ≤ failures p → (old mid new : Store D g) (v : View) (before now : Progress) (piece : List ℕ)
        → (so_far : SoFar rules gave took i j o p old mid v before piece)
        → FailsAtMore rules took failures p q mid new (seen rules v so_far.answers.answered) so_far.read so_far.ms before piece now
        → Exchanged gave took i j o q (λ r w. HasFailed rules old new v r w (failures o) (failures q))
    failed_by i j o p q later old mid new v before now piece so_far fails =
        let all : MeetsFailure rules took o q old new failures v (so_far.ms ++ fails.more) =
        fails_then rules took took_then failures o p q later old mid new v so_far.ms fails.more so_far.answers fails.fails
        in
        record {
          read = so_far.read ++ piece;
          written = all_bytes rules v all.answered ++ all.closing;
          gave_them = so_far.given;
          took_them = all.written;
          holds = record {
            answered = all.answered;
            failing = all.failing;
            waiting = all.waiting;
            progress = now;
            stream = subst (λ xs. IsCut (so_far.read ++ piece) xs now) all.split fails.cut;
            closing = all.closing;
            unwritten = all.unwritten;
            refusal = all.refusal;
            whole = all.whole;
            text = refl;
            store = all.store;
          };
        }

    -- a piece stops serving
    pub broken_by : (i j : I) (o p q : O) → failures o ≤ failures p → (old mid new : Store D g) (v : View) (before now : Progress) (piece : List ℕ) (fault : ServeFault)
        → (so_far : SoFar rules gave took i j o p old mid v before piece)
        → Breaks rules took failures p q mid new (seen rules v so_far.answers.answered) so_far.read so_far.ms before piece now fault
        → Exchanged gave took i j o q (HasStopped rules old new v (failures o) (failures q) fault)
    broken_by i j o p q later old mid new v before now piece Read so_far breaks = absurd breaks
    broken_by i j o p q later old mid new v before now piece Write so_far (inl some) =
        wrote_some i j o q old new v (so_far.ms ++ some.more) [] (so_far.read ++ piece) [] now
        (subst (λ bytes. gave i j bytes) (sym (append-nil (so_far.read ++ piece))) so_far.given) some.cut
        (writes_some_then rules took took_then o p q old mid new v so_far.ms some.more [] so_far.answers some.some) (inl refl)
    broken_by i j o p q later old mid new v before now piece Write so_far (inr (inl part)) =
        let closing : List ℕ = end_bytes part.end in
        let none : List Message = [] in
        let same : so_far.ms ++ none ≡ so_far.ms = append-nil so_far.ms in
        let cut : IsCut (so_far.read ++ piece) (so_far.ms ++ none) now = subst (λ xs. IsCut (so_far.read ++ piece) xs now) (sym same) part.cut in
        let closes : IsClosing (so_far.read ++ piece) (so_far.ms ++ none) closing =
        inl (part.end, ended_stream (so_far.read ++ piece) (so_far.ms ++ none) now part.end cut part.is, refl)
        in
        wrote_some i j o q old new v (so_far.ms ++ none) closing (so_far.read ++ piece) [] now
        (subst (λ bytes. gave i j bytes) (sym (append-nil (so_far.read ++ piece))) so_far.given) cut
        (writes_some_then rules took took_then o p q old mid new v so_far.ms none closing so_far.answers part.some)
        (inr (nothing_waits (messages part.some.answered) part.some.waiting part.some.split, closes))
    broken_by i j o p q later old mid new v before now piece Write so_far (inr (inr (some, same_cut))) =
        let closing : List ℕ = closing_bytes false OutOfMemory in
        let none : List Message = [] in
        let same : so_far.ms ++ none ≡ so_far.ms = append-nil so_far.ms in
        let closes : IsClosing so_far.read (so_far.ms ++ none) closing = inr refl in
        wrote_some i j o q old new v (so_far.ms ++ none) closing so_far.read piece before so_far.given
        (subst (λ xs. IsCut so_far.read xs before) (sym same) so_far.cut)
        (writes_some_then rules took took_then o p q old mid new v so_far.ms none closing so_far.answers some)
        (inr (nothing_waits (messages some.answered) some.waiting some.split, closes))
    broken_by i j o p q later old mid new v before now piece Device so_far fails =
        failed_by i j o p q later old mid new v before now piece so_far fails
    broken_by i j o p q later old mid new v before now piece Memory so_far (refused, same_cut) =
        let none : List Message = [] in
        lacked i j o q old new v (so_far.ms ++ none) so_far.read piece before so_far.given
        (subst (λ xs. IsCut so_far.read xs before) (sym (append-nil so_far.ms)) so_far.cut)
        (answers_then rules took took_then o p q old mid new v so_far.ms none (closing_bytes false OutOfMemory) so_far.answers refused)
    broken_by i j o p q later old mid new v before now piece (Damaged damage) so_far breaks = absurd breaks
    broken_by i j o p q later old mid new v before now piece Failed so_far fails =
        failed_by i j o p q later old mid new v before now piece so_far fails

    -- ---- the steps of a connection

    -- the stream ends
    pub ended_at : (i j k : I) (o p q : O) (old mid new : Store D g) (v : View) (before now : Progress) (piece : List ℕ) (ended : Type 0) (end : End)
        → ((old mid new : I) (front back : List ℕ) → gave old mid front → gave mid new back → gave old new (front ++ back))
        → (so_far : SoFar rules gave took i j o p old mid v before piece)
        → TellsMore rules took failures p q mid new (seen rules v so_far.answers.answered) so_far.read so_far.ms before piece now (end_bytes end)
        × (now.end ≡ Some end) × gave j k []
        → Exchanged gave took i k o q (λ r w. HasEnded rules old new v r w ended end)
    ended_at i j k o p q old mid new v before now piece ended end gave_then so_far (told, is, nothing) =
        let whole : List ℕ = so_far.read ++ piece in
        let given : gave i k whole = subst (λ bytes. gave i k bytes) (append-nil whole) (gave_then i j k whole [] so_far.given nothing) in
        let later : SoFar rules gave took i k o p old mid v before piece =
        record { read = so_far.read; ms = so_far.ms; given = given; cut = so_far.cut; answers = so_far.answers }
        in
        ended_by i k o p q old mid new v before now piece ended end later told is

    -- a step stops serving
    pub wrong_at : (i j k : I) (o p q : O) → failures o ≤ failures p → (old mid new : Store D g) (v : View) (before now : Progress) (piece : List ℕ) (fault : ServeFault)
        → ((old mid new : I) (front back : List ℕ) → gave old mid front → gave mid new back → gave old new (front ++ back))
        → (so_far : SoFar rules gave took i j o p old mid v before piece)
        → StepsWrong rules gave took failures j k p q mid new (seen rules v so_far.answers.answered) so_far.read so_far.ms before piece now fault
        → Exchanged gave took i k o q (HasStopped rules old new v (failures o) (failures q) fault)
    wrong_at i j k o p q less old mid new v before now piece fault gave_then so_far (inl breaks, nothing) =
        let whole : List ℕ = so_far.read ++ piece in
        let given : gave i k whole = subst (λ bytes. gave i k bytes) (append-nil whole) (gave_then i j k whole [] so_far.given nothing) in
        let later : SoFar rules gave took i k o p old mid v before piece =
        record { read = so_far.read; ms = so_far.ms; given = given; cut = so_far.cut; answers = so_far.answers }
        in
        broken_by i k o p q less old mid new v before now piece fault later breaks
    wrong_at i j k o p q later old mid new v before now piece fault gave_then so_far (inr (is, told, open_), nothing) =
        let Stopped : ServeFault → Type 0 = λ f. Exchanged gave took i k o q (HasStopped rules old new v (failures o) (failures q) f) in
        subst Stopped (sym is)
        (failed_to_read i j k o q old new v now gave_then (so_far_told i j o p q old mid new v before now piece so_far told) nothing open_)

    -- the input has ended, and the stream is finished or not
    pub finished_at : (i j k : I) (o p q : O) (old new : Store D g) (v : View) (now : Progress) (ended : Type 0) (r : Result End ServeFault)
        → ((old mid new : I) (front back : List ℕ) → gave old mid front → gave mid new back → gave old new (front ++ back))
        → (so_far : SoFar rules gave took i j o p old new v now []) → gave j k [] → ended
        → MatchResult r (Finishes took p q so_far.read so_far.ms) (FinishesInPart took p q so_far.read so_far.ms)
        → MatchResult r (λ end. Exchanged gave took i k o q (λ a w. HasEnded rules old new v a w ended end))
        (λ fault. Exchanged gave took i k o q (HasStopped rules old new v (failures o) (failures q) fault))
    finished_at i j k o p q old new v now ended (Ok end) gave_then so_far nothing has_ended finishes =
        finished i j k o p q old new v now ended end gave_then so_far nothing has_ended finishes
    finished_at i j k o p q old new v now ended (Err fault) gave_then so_far nothing has_ended part =
        finished_in_part i j k o p q old new v now fault gave_then so_far nothing part

-- ---- causes

-- what is said of an answer, of its success and of its error
pub at_ok : {T E : Type 0} (r : Result T E) (P : T → Type 0) (Q : E → Type 0) → MatchResult r P Q → IfOk r P
at_ok (Ok v) P Q holds = holds
at_ok (Err e) P Q holds = tt

pub at_error : {T E : Type 0} (r : Result T E) (P : T → Type 0) (Q : E → Type 0) (e : E) → MatchResult r P Q → IsErrOf r e → Q e
at_error (Ok v) P Q e holds is = cc
at_error (Err f) P Q e holds is = let same : f ≡ e = cc in subst Q same holds

retyped : {T S : Type 0} (fault other : ServeFault) → IsErrOf {T = S} (Err fault) other → IsErrOf {T = T} (Err fault) other
retyped fault other is = let same : fault ≡ other = cc in ap Err same

-- the causes of a fault, seen from an earlier state
pub causes_err : {T S : Type 0} (i j k o p q d e f : ℕ) (s t u : Bool) (fault : ServeFault) → j ≡ i → o ≤ p → d ≤ e → t ≡ s
    → HasAllCauses {T = T} j k p q e f t u (Err fault) → HasAllCauses {T = S} i k o q d f s u (Err fault)
causes_err i j k o p q d e f s t u fault input output device same all = record {
  input_later = omega (arith, input, all.input_later);
  output_later = omega (arith, output, all.output_later);
  device_later = omega (arith, device, all.device_later);
  read = λ is. grown_after i j k (omega (arith, input)) (all.read (retyped fault Read is));
  write = λ is. grown_after o p q output (all.write (retyped fault Write is));
  device = λ is. grown_after d e f device (all.device (retyped fault Device is));
  damaged = λ damage is. let found = all.damaged damage (retyped fault (Damaged damage) is) in (sym same ∙ found.0, found.1);
  failed = λ is. sym same ∙ all.failed (retyped fault Failed is);
  goes_on = tt;
  input_well = λ other. all.input_well (λ is. other (retyped fault Read is)) ∙ input;
  output_well = tt;
}
