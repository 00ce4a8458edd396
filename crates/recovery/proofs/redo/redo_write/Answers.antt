use Rattle.std.proofs.Common.{subst, ◌∙◌, sym, ap}
use Rattle.histories.specs.Mapped.{mapped}
use Rattle.histories.specs.View.{MayFollow}
use Rattle.decoded.specs.Shown.{plans_held}
use Rattle.holdings.specs.Known.{IsKnown}
use Rattle.records.specs.WriteOf.{write_of}
use Rattle.records.specs.declared.stored_write.StoredWrite.{StoredWrite}
use Rattle.recovery.specs.Known.{written_key}
use Rattle.recovery.specs.Written.{Write}
use Rattle.recovery.proofs.Histories.{on_ok_to, recorded_delete, taken_as}
use Rattle.recovery.specs.Faults.{PutsOtherPlans}
use Rattle.recovery.proofs.redo.redo_write.Goals as goal

pub returns-in-Put-clause-taken : goal.returns-in-Put-clause-taken
returns-in-Put-clause-taken c = λ base held shows known.
    let Known : StoredWrite → Type 0 = λ w. IsKnown c.args.core.now base (written_key (write_of w)) in
    on_ok_to c.redo_put.result _ _ (λ taken. (taken.0, taken.1, taken_as _ _ _ _ _ (ap write_of (sym c.in-Put.is)) taken.2))
    (c.redo_put.ensures.taken base held shows (subst Known c.in-Put.is known))

pub returns-in-Put-clause-damaged : goal.returns-in-Put-clause-damaged
returns-in-Put-clause-damaged c = λ base held shows known is_damaged w has is may.
    let Known : StoredWrite → Type 0 = λ w. IsKnown c.args.core.now base (written_key (write_of w)) in
    c.redo_put.ensures.damaged base held shows (subst Known c.in-Put.is known) is_damaged w has (is ∙ ap write_of c.in-Put.is) may

pub returns-in-Delete-clause-taken : goal.returns-in-Delete-clause-taken
returns-in-Delete-clause-taken c = λ base held shows known.
    let Known : StoredWrite → Type 0 = λ w. IsKnown c.args.core.now base (written_key (write_of w)) in
    on_ok_to c.redo_delete.result _ _ (λ taken. (taken.0, taken.1, taken_as _ _ _ _ _ (ap write_of (sym c.in-Delete.is)) taken.2))
    (c.redo_delete.ensures.taken base held shows (subst Known c.in-Delete.is known))

pub returns-in-Delete-clause-damaged : goal.returns-in-Delete-clause-damaged
returns-in-Delete-clause-damaged c = λ base held shows known is_damaged w has is may.
    let Known : StoredWrite → Type 0 = λ w. IsKnown c.args.core.now base (written_key (write_of w)) in
    let May : Write → Type 0 = λ x. MayFollow c.args.core.now.rules (mapped plans_held held) x in
    c.redo_delete.ensures.damaged base held shows (subst Known c.in-Delete.is known) is_damaged (subst May (recorded_delete w c.in-Delete.key (is ∙ ap write_of c.in-Delete.is)) may)

pub returns-in-Put-clause-plans : goal.returns-in-Put-clause-plans
returns-in-Put-clause-plans c = λ told.
    let Other : StoredWrite → Type 0 = λ w. PutsOtherPlans (write_of w) in
    subst Other (sym c.in-Put.is) (c.redo_put.ensures.plans told)

pub returns-in-Put-clause-told : goal.returns-in-Put-clause-told
returns-in-Put-clause-told c = λ other.
    let Other : StoredWrite → Type 0 = λ w. PutsOtherPlans (write_of w) in
    c.redo_put.ensures.told (subst Other c.in-Put.is other)

pub returns-in-Delete-clause-plans : goal.returns-in-Delete-clause-plans
returns-in-Delete-clause-plans c = λ told. absurd (c.redo_delete.ensures.plans told)

pub returns-in-Delete-clause-told : goal.returns-in-Delete-clause-told
returns-in-Delete-clause-told c = λ other.
    let Other : StoredWrite → Type 0 = λ w. PutsOtherPlans (write_of w) in
    absurd (subst Other c.in-Delete.is other)
