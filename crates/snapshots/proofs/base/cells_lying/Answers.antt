use Rattle.std.proofs.Common.{rules, not}
use Rattle.std.proofs.lemmas.Fn.{filter_same}
use Rattle.snapshots.proofs.base.cells_lying.Goals as goal

-- the closure asks of each cell whether its object's resource is held
pub returns : goal.returns
returns g c = filter_same _ (λ o. not (g.M.FromDocument.held c.args.making.now o.0.resource)) _ (λ x b after called. (search rules, search rules)) _ _ c.retain.ensures.filtered
