use Rattle.std.proofs.Common.{rules, ◌≡◌, ◌∙◌, ap, ⊎_elim, Err, [], ◌∷◌}
use Rattle.chunks.specs.Whole.{cuts_of}
use Rattle.snapshots.specs.ObjectCacheFaults.{of_shelf_fault}
use Rattle.snapshots.specs.declared.object_cache_fault.ObjectCacheFault.TheVariants as ObjectCacheFault
use Rattle.snapshots.proofs.BaseFaults.{damage_is, memory_is}
use Rattle.snapshots.proofs.HandedOn.{heard_cells, told_cells, no_cell_refused}
use Rattle.snapshots.proofs.object_cache.cells_with.Goals as goal

pub returns-in_err-told-clause-damaged : goal.returns-in_err-told-clause-damaged
returns-in_err-told-clause-damaged g c entries objects wholes alike of is =
    let told : of_shelf_fault c.in_err-told.field-0.0 ≡ ObjectCacheFault.Damaged = search rules in
    ⊎_elim
    (λ page. c.tell_whole.ensures.damaged _ wholes.shelves (c.in_err-told.was ∙ ap (λ fault. Err fault) page))
    (λ entry. no_cell_refused (cuts_of c.args.shelf.now) (1 ∷ []) entries objects wholes.can alike of _
    (c.tell_whole.ensures.refused _ wholes.shelves (c.in_err-told.was ∙ ap (λ fault. Err fault) entry)))
    (damage_is c.in_err-told.field-0.0 told)

pub returns-clause-found : goal.returns-clause-found
returns-clause-found g c entries objects wholes alike of =
    told_cells (cuts_of c.args.shelf.now) (1 ∷ []) entries objects wholes.can alike of _ c.in_ok-told.told c.new.ensures.items (c.in_ok-told.ensures.told _ wholes.shelves)

pub returns-in_err-told-clause-memory : goal.returns-in_err-told-clause-memory
returns-in_err-told-clause-memory g c is =
    let told : of_shelf_fault c.in_err-told.field-0.0 ≡ ObjectCacheFault.Memory = search rules in
    c.tell_whole.ensures.unfailed (c.in_err-told.was ∙ ap (λ fault. Err fault) (memory_is c.in_err-told.field-0.0 told))

pub returns-clause-steady : goal.returns-clause-steady
returns-clause-steady g c = c.in_ok-told.ensures.steady

pub returns-clause-memory : goal.returns-clause-memory
returns-clause-memory g c is = c.in_ok-told.ensures.steady

pub returns-clause-are : goal.returns-clause-are
returns-clause-are g c entries shelves = heard_cells (cuts_of c.args.shelf.now) _ _ c.in_ok-told.told c.new.ensures.items (c.in_ok-told.ensures.told entries shelves)
