use Rattle.objects.specs.declared.fault.LookupFault.TheVariants as LookupFault
use Rattle.snapshots.specs.BaseFaults.{of_cache_fault}
use Rattle.snapshots.proofs.BaseFaults.{memory_below}
use Rattle.std.specs.Prelude.{◌≡◌, true, false}
use Rattle.std.proofs.Common.{rules, refl, sym, ap, ◌∙◌, Err, option_map}
use Rattle.objects.specs.Objects.{value_at}
use Rattle.holdings.specs.Sources.{found_in}
use Rattle.snapshots.specs.Whole.{found_of}
use Rattle.snapshots.proofs.Objects.{found_lying, none_lies}
use Rattle.snapshots.proofs.Lookups.{held_still, goes}
use Rattle.snapshots.proofs.base.BaseSource.find.Goals as goal

pub returns-then-is_held-clause-found : goal.returns-then-is_held-clause-found
returns-then-is_held-clause-found g c objects holds =
    let making = c.args.self.now.making in
    let key = c.args.key.now in
    let hidden : g.M.FromDocument.held making key.resource ≡ true =
    ap (g.M.FromDocument.held making) (sym c.resource.ensures.value) ∙ sym c.is_held.ensures ∙ c.if-is_held.true
    in
    ap (option_map found_in)
    (sym (ap (value_at key) holds.lies.are ∙ none_lies (g.M.FromDocument.made making) (g.M.FromDocument.held making) key holds.lies.all hidden))

pub returns-in-Ok-clause-found : goal.returns-in-Ok-clause-found
returns-in-Ok-clause-found g c objects holds =
    let making = c.args.self.now.making in
    let key = c.args.key.now in
    let shown : g.M.FromDocument.held making key.resource ≡ false =
    ap (g.M.FromDocument.held making) (sym c.resource.ensures.value) ∙ sym c.is_held.ensures ∙ c.if-is_held.false
    in
    c.found.ensures ∙ ap (option_map found_of) (c.in-Ok.ensures.found holds.lies.all holds.lies.caches)
    ∙ found_lying (g.M.FromDocument.made making) (g.M.FromDocument.held making) key holds.lies.all shown
    ∙ ap (λ os. option_map found_in (value_at key os)) (sym holds.lies.are)

pub returns-in-Ok-clause-kept : goal.returns-in-Ok-clause-kept
returns-in-Ok-clause-kept g c =
    λ objects. held_still g.M.FromDocument.made g.M.FromDocument.held c.args.self.now _ c.find.new.device c.find.new.self objects refl refl refl refl c.find.ensures.kept

pub returns-in-Ok-clause-goes : goal.returns-in-Ok-clause-goes
returns-in-Ok-clause-goes g c =
    goes c.args.self.now _ c.find.new.device c.find.new.self refl refl refl refl refl c.find.ensures.root c.find.ensures.kept c.find.ensures.ran

pub returns-in-Err-clause-kept : goal.returns-in-Err-clause-kept
returns-in-Err-clause-kept g c objects holds =
    let undamaged = c.told.ensures.whole (λ damaged. c.in-Err.ensures.damaged holds.lies.all holds.lies.caches (λ i. Err (damaged i))) in search (rules, held_still)

pub returns-in-Err-clause-goes : goal.returns-in-Err-clause-goes
returns-in-Err-clause-goes g c = search (rules, goes)

pub returns-in-Err-clause-memory : goal.returns-in-Err-clause-memory
returns-in-Err-clause-memory g c is =
    let told : of_cache_fault c.in-Err.fault ≡ LookupFault.Memory = search rules in
    let below = memory_below c.in-Err.fault told in
    ap (λ (d : g.row.D.Denot). g.D.Device.disk.failures d) c.told.ensures.device ∙ c.in-Err.ensures.memory (λ i. Err (below i))

pub returns-then-is_held-clause-steady : goal.returns-then-is_held-clause-steady
returns-then-is_held-clause-steady g c = refl

pub returns-then-is_held-clause-memory : goal.returns-then-is_held-clause-memory
returns-then-is_held-clause-memory g c is = refl

pub returns-in-Ok-clause-steady : goal.returns-in-Ok-clause-steady
returns-in-Ok-clause-steady g c = c.in-Ok.ensures.steady

pub returns-in-Ok-clause-memory : goal.returns-in-Ok-clause-memory
returns-in-Ok-clause-memory g c is = c.in-Ok.ensures.steady
