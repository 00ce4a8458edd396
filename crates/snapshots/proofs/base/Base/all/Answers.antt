use Rattle.objects.specs.declared.fault.LookupFault.TheVariants as LookupFault
use Rattle.snapshots.specs.BaseFaults.{of_cache_fault}
use Rattle.snapshots.proofs.BaseFaults.{memory_below}
use Rattle.std.specs.Prelude.{◌≡◌, List, map}
use Rattle.std.proofs.Common.{rules, arith, refl, sym, ap, ◌∙◌, Err}
use Rattle.names.specs.Key.{Key}
use Rattle.histories.specs.declared.stored.Stored.{Stored}
use Rattle.std.proofs.lemmas.Result.{IfOk-from_err}
use Rattle.snapshots.specs.Whole.{whole}
use Rattle.snapshots.specs.Base.{not_held, HoldsBase}
use Rattle.snapshots.proofs.Lookups.{held_still, goes}
use Rattle.snapshots.proofs.base.Base.all.Goals as goal

pub returns-in_ok-all_of-in-Ok : goal.returns-in_ok-all_of-in-Ok
returns-in_ok-all_of-in-Ok g c =
    let made = g.M.FromDocument.made in
    let held = g.M.FromDocument.held in
    let making = c.args.self.now.making in
    let listed : (objects : List (Key × Stored g.row.P.Denot)) → HoldsBase made held c.args.self.now objects → c.in_ok-all_of-in-Ok.field-0.items ≡ objects =
    λ objects holds.
    c.in_ok-all_of-in-Ok.ensures ∙ ap (map (whole (made making))) (c.lying-objects.ensures ∙ ap (not_held (held making)) (c.in-Ok.ensures.found holds.lies.all holds.lies.caches))
    ∙ sym holds.lies.are
    in
    record {
      listed = listed;
      are = λ entries has. (_, c.in-Ok.ensures.are entries has);
      kept = λ objects. held_still g.M.FromDocument.made g.M.FromDocument.held c.args.self.now _ c.list_all.new.device c.list_all.new.self objects refl refl refl refl c.list_all.ensures.kept;
      goes = goes c.args.self.now _ c.list_all.new.device c.list_all.new.self refl refl refl refl refl c.list_all.ensures.root c.list_all.ensures.kept c.list_all.ensures.ran;
      counts = search rules;
      steady = c.in-Ok.ensures.steady;
      device = grind arith;
      memory = λ told. c.in-Ok.ensures.steady;
      damaged = grind arith;
    }

pub returns-in_err-all_of-in-Ok : goal.returns-in_err-all_of-in-Ok
returns-in_err-all_of-in-Ok g c =
    record {
      listed = search rules;
      are = λ entries has. IfOk-from_err c.from_residual.result _ c.from_residual.ensures.0;
      kept = λ objects. held_still g.M.FromDocument.made g.M.FromDocument.held c.args.self.now _ c.list_all.new.device c.list_all.new.self objects refl refl refl refl c.list_all.ensures.kept;
      goes = goes c.args.self.now _ c.list_all.new.device c.list_all.new.self refl refl refl refl refl c.list_all.ensures.root c.list_all.ensures.kept c.list_all.ensures.ran;
      counts = search rules;
      steady = IfOk-from_err c.from_residual.result _ c.from_residual.ensures.0;
      device = grind arith;
      memory = λ told. c.in-Ok.ensures.steady;
      damaged = grind arith;
    }

pub returns-in-Err-clause-kept : goal.returns-in-Err-clause-kept
returns-in-Err-clause-kept g c objects holds = let undamaged = c.told.ensures.whole (λ damaged. c.in-Err.ensures.damaged holds.lies.all holds.lies.caches (λ i. Err (damaged i))) in search (rules, held_still)

pub returns-in-Err-clause-goes : goal.returns-in-Err-clause-goes
returns-in-Err-clause-goes g c = search (rules, goes)

pub returns-in-Err-clause-memory : goal.returns-in-Err-clause-memory
returns-in-Err-clause-memory g c is =
    let told : of_cache_fault c.in-Err.fault ≡ LookupFault.Memory = search rules in
    let below = memory_below c.in-Err.fault told in
    ap (λ (d : g.row.D.Denot). g.D.Device.disk.failures d) c.told.ensures.device ∙ c.in-Err.ensures.memory (λ i. Err (below i))
