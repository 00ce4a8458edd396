use Rattle.std.proofs.Common.{subst, Bool, List, []}
use Rattle.sessions.specs.Batch.{held, places_of}
use Rattle.sessions.specs.declared.note.Note.{Note}
use Rattle.sessions.specs.Notes.{listed, Tells}
use Rattle.sessions.proofs.batch.Batch.answer.Goals as goal

pub returns-in-Ok-clause-outcome : goal.returns-in-Ok-clause-outcome
returns-in-Ok-clause-outcome g c rules v shows =
    let tells = rw (c.deref.ensures.value, c.deref-2.ensures.value) at c.in-Ok.ensures.outcome rules v shows in
    tells.turned

pub returns-in-Err-clause-outcome : goal.returns-in-Err-clause-outcome
returns-in-Err-clause-outcome g c rules v shows = rw (c.deref.ensures.value, c.deref-2.ensures.value) at c.in-Err.ensures.outcome rules v shows

pub returns-in-Ok-clause-told : goal.returns-in-Ok-clause-told
returns-in-Ok-clause-told g c rules v shows =
    let tells = rw (c.deref.ensures.value, c.deref-2.ensures.value) at c.in-Ok.ensures.outcome rules v shows in
    let batch = c.args.self.now in
    let Kept : Bool → Type 0 =
    λ k. Tells rules c.args.store.now c.answer_all.new.store v (places_of batch) (held batch) c.args.sessions.now c.answer_all.new.sessions k [] (listed c.answer_all.new.tools.notes) in
    let Held : List Note → Type 0 =
    λ h. Tells rules c.args.store.now c.answer_all.new.store v (places_of batch) (held batch) c.args.sessions.now c.answer_all.new.sessions c.clear.new.self.is_kept h (listed c.answer_all.new.tools.notes) in
    subst Kept c.clear.ensures.kept (subst Held c.clear.ensures.none tells)
