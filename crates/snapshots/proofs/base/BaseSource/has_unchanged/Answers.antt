use Rattle.std.specs.Prelude.{◌≡◌, true, false}
use Rattle.std.specs.List.{list_any}
use Rattle.std.proofs.Common.{rules, sym, ap, ◌∙◌, Err}
use Rattle.holdings.specs.Sources.{is_unchanged}
use Rattle.snapshots.proofs.Lookups.{held_still}
use Rattle.snapshots.proofs.Unchanged.{any_lying, none_lying}
use Rattle.snapshots.proofs.base.BaseSource.has_unchanged.Goals as goal

pub returns-then-is_held-clause-unchanged : goal.returns-then-is_held-clause-unchanged
returns-then-is_held-clause-unchanged g c objects holds =
    let making = c.args.self.now.making in
    let changes = c.args.changes.now.made in
    let hidden : g.M.FromDocument.held making c.args.resource ≡ true = sym c.is_held.ensures ∙ c.if-is_held.true in
    none_lying (g.M.FromDocument.made making) (g.M.FromDocument.held making) c.args.resource c.args.namespace.now changes holds.lies.all hidden
    ∙ ap (list_any (λ o. is_unchanged c.args.resource c.args.namespace.now changes o.0)) (sym holds.lies.are)

pub returns-in-Ok-clause-unchanged : goal.returns-in-Ok-clause-unchanged
returns-in-Ok-clause-unchanged g c objects holds =
    let making = c.args.self.now.making in
    let changes = c.args.changes.now.made in
    let shown : g.M.FromDocument.held making c.args.resource ≡ false = sym c.is_held.ensures ∙ c.if-is_held.false in
    c.in-Ok.ensures.found holds.lies.all holds.lies.caches
    ∙ any_lying (g.M.FromDocument.made making) (g.M.FromDocument.held making) c.args.resource c.args.namespace.now changes holds.lies.all shown
    ∙ ap (list_any (λ o. is_unchanged c.args.resource c.args.namespace.now changes o.0)) (sym holds.lies.are)

pub returns-in-Err-clause-kept : goal.returns-in-Err-clause-kept
returns-in-Err-clause-kept g c objects holds = let undamaged = c.told.ensures.whole (λ damaged. c.in-Err.ensures.damaged holds.lies.all holds.lies.caches (λ i. Err (damaged i))) in search (rules, held_still)
