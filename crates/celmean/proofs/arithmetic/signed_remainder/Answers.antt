use Rattle.std.proofs.Common.{◌∙◌, ap}
use Rattle.std.proofs.lemmas.Int.{to_z-of_z, rem_is}
use Rattle.celmean.proofs.Checked.{remainder_some}
use Rattle.celmean.proofs.arithmetic.signed_remainder.Goals as goal
use mir.Syntax.{w64}
use mir.Val.{of_z, to_z}

pub returns-in-Some : goal.returns-in-Some
returns-in-Some c =
    let left = to_z-of_z w64 c.args.left c.ranges.left in
    let right = to_z-of_z w64 c.args.right c.ranges.right in
    let found = rw (left, right) at c.in-Some.ensures.0 in
    let given = ap (λ n. to_z w64 (of_z w64 n)) c.in-Some.ensures.1 ∙ rem_is w64 c.args.left c.args.right c.ranges.left c.ranges.right in
    remainder_some c.args.left c.args.right _ found given
