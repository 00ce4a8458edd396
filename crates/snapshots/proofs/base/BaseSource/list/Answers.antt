use Rattle.objects.specs.declared.fault.LookupFault.TheVariants as LookupFault
use Rattle.snapshots.specs.BaseFaults.{of_cache_fault}
use Rattle.snapshots.proofs.BaseFaults.{memory_below}
use Rattle.std.specs.Prelude.{◌≡◌, true, false, List, map}
use Rattle.std.proofs.lemmas.Result.{IfOk-from_err}
use Rattle.std.proofs.Common.{rules, arith, refl, sym, ap, ◌∙◌, Err, option_map}
use Rattle.std.specs.List.{filter}
use Rattle.names.specs.Key.{Key}
use Rattle.objects.specs.Objects.{is_of}
use Rattle.histories.specs.declared.stored.Stored.{Stored}
use Rattle.snapshots.specs.Base.{HoldsBase}
use Rattle.snapshots.specs.Whole.{whole}
use Rattle.snapshots.proofs.Objects.{listed_lying, none_listed}
use Rattle.snapshots.proofs.Lookups.{held_still, goes}
use Rattle.snapshots.proofs.base.BaseSource.list.Goals as goal

pub returns-then-is_held-clause-listed : goal.returns-then-is_held-clause-listed
returns-then-is_held-clause-listed g c objects holds =
    let making = c.args.self.now.making in
    let namespace = option_map (λ text. text.now) c.args.namespace in
    let hidden : g.M.FromDocument.held making c.args.resource ≡ true = sym c.is_held.ensures ∙ c.if-is_held.true in
    c.new.ensures.items
    ∙ sym (ap (filter (λ o. is_of c.args.resource namespace o.0)) holds.lies.are
    ∙ none_listed (g.M.FromDocument.made making) (g.M.FromDocument.held making) c.args.resource namespace holds.lies.all hidden)

pub returns-in_ok-all_of-in-Ok : goal.returns-in_ok-all_of-in-Ok
returns-in_ok-all_of-in-Ok g c =
    let making = c.args.self.now.making in
    let namespace = option_map (λ text. text.now) c.args.namespace in
    let shown : g.M.FromDocument.held making c.args.resource ≡ false = sym c.is_held.ensures ∙ c.if-is_held.false in
    let listed : (objects : List (Key × Stored g.row.P.Denot)) → HoldsBase g.M.FromDocument.made g.M.FromDocument.held c.args.self.now objects
    → c.in_ok-all_of-in-Ok.field-0.items ≡ filter (λ o. is_of c.args.resource namespace o.0) objects =
    λ objects holds.
    c.in_ok-all_of-in-Ok.ensures ∙ ap (map (whole (g.M.FromDocument.made making))) (c.in-Ok.ensures.found holds.lies.all holds.lies.caches)
    ∙ listed_lying (g.M.FromDocument.made making) (g.M.FromDocument.held making) c.args.resource namespace holds.lies.all shown
    ∙ ap (filter (λ o. is_of c.args.resource namespace o.0)) (sym holds.lies.are)
    in
    record {
      listed = listed;
      kept = λ objects. held_still g.M.FromDocument.made g.M.FromDocument.held c.args.self.now _ c.list.new.device c.list.new.self objects refl refl refl refl c.list.ensures.kept;
      goes = goes c.args.self.now _ c.list.new.device c.list.new.self refl refl refl refl refl c.list.ensures.root c.list.ensures.kept c.list.ensures.ran;
      counts = search rules;
      steady = c.in-Ok.ensures.steady;
      device = grind arith;
      memory = λ told. c.in-Ok.ensures.steady;
      damaged = grind arith;
    }

pub returns-in_err-all_of-in-Ok : goal.returns-in_err-all_of-in-Ok
returns-in_err-all_of-in-Ok g c =
    record {
      listed = search rules;
      kept = λ objects. held_still g.M.FromDocument.made g.M.FromDocument.held c.args.self.now _ c.list.new.device c.list.new.self objects refl refl refl refl c.list.ensures.kept;
      goes = goes c.args.self.now _ c.list.new.device c.list.new.self refl refl refl refl refl c.list.ensures.root c.list.ensures.kept c.list.ensures.ran;
      counts = search rules;
      steady = IfOk-from_err c.from_residual.result _ c.from_residual.ensures.0;
      device = grind arith;
      memory = λ told. c.in-Ok.ensures.steady;
      damaged = grind arith;
    }

pub returns-in-Err-clause-kept : goal.returns-in-Err-clause-kept
returns-in-Err-clause-kept g c objects holds = let undamaged = c.told.ensures.whole (λ damaged. c.in-Err.ensures.damaged holds.lies.all holds.lies.caches (λ i. Err (damaged i))) in search (rules, held_still)

pub returns-in-Err-clause-goes : goal.returns-in-Err-clause-goes
returns-in-Err-clause-goes g c = search (rules, goes)

pub returns-in-Err-clause-memory : goal.returns-in-Err-clause-memory
returns-in-Err-clause-memory g c is =
    let told : of_cache_fault c.in-Err.fault ≡ LookupFault.Memory = search rules in
    let below = memory_below c.in-Err.fault told in
    ap (λ (d : g.row.D.Denot). g.D.Device.disk.failures d) c.told.ensures.device ∙ c.in-Err.ensures.memory (λ i. Err (below i))

pub returns-then-is_held-clause-steady : goal.returns-then-is_held-clause-steady
returns-then-is_held-clause-steady g c = refl

pub returns-then-is_held-clause-memory : goal.returns-then-is_held-clause-memory
returns-then-is_held-clause-memory g c is = refl
