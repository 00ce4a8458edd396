use Rattle.std.proofs.Common.{◌≡◌, ◌∙◌, ap}
use Rattle.std.specs.Ordering.{is_lt}
use Rattle.names.specs.Key.{key_cmp}
use Rattle.snapshots.proofs.Held.{Kept}
use Rattle.snapshots.proofs.restoring.is_after.Goals as goal

pub returns : goal.returns
returns c =
    let before : c.key.result.now ≡ c.args.before.now.0 = c.key.ensures ∙ ap (λ (x : Kept). x.0) c.before-2.view_is in
    let after : c.key-2.result.now ≡ c.args.object.now.0 = c.key-2.ensures ∙ ap (λ (x : Kept). x.0) c.object.view_is in
    c.lt.ensures ∙ (λ i. is_lt (key_cmp (before i) (after i)))
