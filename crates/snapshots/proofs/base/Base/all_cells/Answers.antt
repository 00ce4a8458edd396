use Rattle.objects.specs.declared.fault.LookupFault.TheVariants as LookupFault
use Rattle.snapshots.specs.BaseFaults.{of_cache_fault}
use Rattle.snapshots.proofs.BaseFaults.{memory_below}
use Rattle.std.specs.Prelude.{◌≡◌, List, not}
use Rattle.std.specs.List.{filter}
use Rattle.std.proofs.Common.{rules, arith, refl, sym, ap, ◌∙◌, Err}
use Rattle.handing.specs.Cells.{cells_in, stored_cells}
use Rattle.snapshots.proofs.HandedOn.{cells_in-filter, cells_lie}
use Rattle.snapshots.proofs.Lookups.{held_still, goes}
use Rattle.snapshots.proofs.base.Base.all_cells.Goals as goal

pub returns-in-Ok : goal.returns-in-Ok
returns-in-Ok g c =
    let made = g.M.FromDocument.made in
    let held = g.M.FromDocument.held in
    let making = c.args.self.now.making in
    let lying = ap cells_in c.cells_lying.ensures ∙ cells_in-filter (held making) c.in-Ok.cells.items in
    record {
      listed = λ objects holds.
          lying ∙ ap (filter (λ c. not (held making c.0.resource))) (c.in-Ok.ensures.found holds.lies.all holds.lies.caches) ∙ cells_lie (made making) (held making) holds.lies.all
          ∙ ap stored_cells (sym holds.lies.are);
      are = λ entries has. record { all = cells_in c.in-Ok.cells.items; cut_are = c.in-Ok.ensures.are entries has; below = lying };
      kept = λ objects. held_still g.M.FromDocument.made g.M.FromDocument.held c.args.self.now _ c.all_cells.new.device c.all_cells.new.self objects refl refl refl refl c.all_cells.ensures.kept;
      goes = goes c.args.self.now _ c.all_cells.new.device c.all_cells.new.self refl refl refl refl refl c.all_cells.ensures.root c.all_cells.ensures.kept c.all_cells.ensures.ran;
      counts = search rules;
      steady = c.in-Ok.ensures.steady;
      device = grind arith;
      memory = λ told. c.in-Ok.ensures.steady;
      damaged = grind arith;
    }

pub returns-in-Err-clause-kept : goal.returns-in-Err-clause-kept
returns-in-Err-clause-kept g c objects holds = let undamaged = c.told.ensures.whole (λ damaged. c.in-Err.ensures.damaged holds.lies.all holds.lies.caches (λ i. Err (damaged i))) in search (rules, held_still)

pub returns-in-Err-clause-goes : goal.returns-in-Err-clause-goes
returns-in-Err-clause-goes g c = search (rules, goes)

pub returns-in-Err-clause-memory : goal.returns-in-Err-clause-memory
returns-in-Err-clause-memory g c is =
    let told : of_cache_fault c.in-Err.fault ≡ LookupFault.Memory = search rules in
    let below = memory_below c.in-Err.fault told in
    ap (λ (d : g.row.D.Denot). g.D.Device.disk.failures d) c.told.ensures.device ∙ c.in-Err.ensures.memory (λ i. Err (below i))
