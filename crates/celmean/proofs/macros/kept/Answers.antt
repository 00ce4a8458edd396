use Rattle.std.proofs.Common.{◌∙◌, ◌++◌, ◌≤◌, List, min, length, sym, ap, arith, append-nil}
use Rattle.celmean.specs.Seen.{values_seen}
use Rattle.celmean.specs.Value.{Value}
use Rattle.celmean.proofs.Kept.{kept-end}
use Rattle.celmean.proofs.macros.kept.Goals as goal

pub returns : goal.returns
returns c =
    let items = c.args.items.now in
    let outcomes = c.args.outcomes.now in
    let kept = values_seen c.loop-at.kept.items in
    let over : min (length items.items) (length outcomes.items) ≤ c.loop-at.at = omega (arith, items.ok.0, outcomes.ok.0) in
    sym (c.loop-at.invariant ∙ (ap (λ (vs : List Value). kept ++ vs) (kept-end c.loop-at.at items.items outcomes.items over) ∙ append-nil kept))
