use Rattle.std.proofs.Common.{◌∙◌, ◌*ℤ◌}
use Rattle.std.proofs.lemmas.Int.{to_z-of_z}
use Rattle.celmean.specs.Arithmetic.{signed}
use Rattle.celmean.proofs.Checked.{signed_some}
use Rattle.celmean.proofs.arithmetic.signed_product.Goals as goal
use mir.Syntax.{w64}

pub returns-in-Some : goal.returns-in-Some
returns-in-Some c =
    let left = to_z-of_z w64 c.args.left c.ranges.left in
    let right = to_z-of_z w64 c.args.right c.ranges.right in
    signed_some c.in-Some.number _ c.in-Some.ensures.0 c.in-Some.ensures.1 ∙ (λ i. signed (left i *ℤ right i))
