use Rattle.std.proofs.Common.{◌≡◌, ◌∙◌, sym, ap, subst, inl, inr, ℕ, List, [], ◌++◌, Err, Some}
use Rattle.httpmsg.specs.Stream.{Progress, IsCut}
use Rattle.httpmsg.specs.declared.head.BrokenMessage.{BrokenMessage}
use Rattle.httpmsg.specs.declared.head.End.TheVariants.{Broken}
use Rattle.sessions.specs.State.{State}
use Rattle.sessions.proofs.Writing.{closes_from, opened}
use Rattle.sessions.proofs.session.Session.take_piece.Goals as goal

pub returns-in-Ok-clause-piece : goal.returns-in-Ok-clause-piece
returns-in-Ok-clause-piece c read ms is_open cut =
    let view = c.self.view_is in
    let all : List ℕ = read ++ c.args.piece.now in
    let waits = c.put_waiting.ensures.waits in
    let Cut : State → Type 0 = λ s. IsCut all (ms ++ s.waiting) s.progress in
    let Told : State → Type 0 = λ s. s.waiting ≡ [] → (b : BrokenMessage) → s.progress.end ≡ Some (Broken b) → ⊥ in
    let Before : State → Type 0 = λ s. IsCut read ms s.progress in
    inl (record {
      cut = subst Cut (sym waits) (c.in-Ok.ensures.ok read ms (subst Before (sym view) cut));
      told = subst Told (sym waits) c.in-Ok.ensures.told;
      unsent = ap (λ (s : State). s.unsent) waits ∙ ap (λ (s : State). s.unsent) view;
      closed = λ is. c.put_waiting.ensures.over (sym (ap (λ (s : State). s.waiting) waits) ∙ is.0) (sym (ap (λ (s : State). s.progress.end) waits) ∙ is.1);
      goes_on = λ never.
          c.put_waiting.ensures.goes_on (λ none closed. never (ap (λ (s : State). s.waiting) waits ∙ none, ap (λ (s : State). s.progress.end) waits ∙ closed))
          ∙ ap (λ (s : State). s.phase) view ∙ opened c.args.self.now.phase is_open;
    })

pub returns-in-Err-Broken-clause-piece : goal.returns-in-Err-Broken-clause-piece
returns-in-Err-Broken-clause-piece c read ms is_open cut =
    let view = c.self.view_is in
    let b = c.in-Err-Broken.broken in
    let Before : State → Type 0 = λ s. IsCut read ms s.progress in
    let told = c.in-Err-Broken.ensures.broken read ms (subst Before (sym view) cut) b (ap (λ x. Err x) c.in-Err-Broken.field-0-is) in
    let same = c.end_at.ensures.progress in
    inr (inl (record {
      broken = b;
      cut = subst (λ (p : Progress). IsCut (read ++ c.args.piece.now) ms p) (sym same) told.0;
      end = ap (λ (p : Progress). p.end) same ∙ told.1;
      closes = closes_from c.args.self.now _ c.end_at.new.self _ (ap (λ (s : State). s.unsent) view) (ap (λ (s : State). s.waiting) view) c.end_at.ensures.closes;
    }))

pub returns-in-Err-Memory-clause-piece : goal.returns-in-Err-Memory-clause-piece
returns-in-Err-Memory-clause-piece c read ms is_open cut =
    let view = c.self.view_is in
    inr (inr (record {
      progress = c.end_without_memory.ensures.progress ∙ c.in-Err-Memory.ensures.memory (ap (λ x. Err x) c.in-Err-Memory.field-0-is) ∙ ap (λ (s : State). s.progress) view;
      closes = closes_from c.args.self.now _ c.end_without_memory.new.self _ (ap (λ (s : State). s.unsent) view) (ap (λ (s : State). s.waiting) view)
          c.end_without_memory.ensures.closes;
    }))
