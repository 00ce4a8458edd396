use Rattle.std.proofs.Common.{◌≡◌, ◌∙◌, ap, subst}
use Rattle.names.specs.Key.{Key}
use Rattle.histories.specs.declared.stored.Stored.{Stored}
use Rattle.decoded.specs.Decoded.{Decoded}
use Rattle.snapshots.specs.Restoring.{HasTaken}
use Rattle.snapshots.proofs.Held.{Kept}
use Rattle.snapshots.proofs.restoring.restore.Goals as goal

pub returns-clause-held : goal.returns-clause-held
returns-clause-held g c =
    let s : Stored Decoded = c.in_ok-stored.stored in
    let key : c.key.result.now ≡ c.args.object.now.0 = c.key.ensures ∙ ap (λ (x : Kept). x.0) c.object.view_is in (
      s,
      c.in_ok-stored.ensures.stored,
      subst (λ (k : Key). HasTaken (g.B.Below.lies c.args.below.now) c.args.core.now c.hold.new.core (k, s)) key c.in_ok-hold.ensures.taken,
    )
