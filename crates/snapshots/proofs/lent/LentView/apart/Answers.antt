use Rattle.std.proofs.Common.{rules, not}
use Rattle.std.proofs.lemmas.Fn.{filter_same}
use Rattle.snapshots.proofs.lent.LentView.apart.Goals as goal

-- the closure asks of each object whether its resource lies below
pub returns : goal.returns
returns g c =
    let lies = g.B.Below.lies c.args.below.now in
    let apart = filter_same _ (λ o. not (lies o.0.resource)) _ (λ x b after called. (search rules, search rules)) _ _ c.retain.ensures.filtered in
    search rules
