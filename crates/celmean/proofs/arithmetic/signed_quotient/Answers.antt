use Rattle.std.proofs.lemmas.Int.{to_z-of_z}
use Rattle.celmean.proofs.Checked.{quotient_some}
use Rattle.celmean.proofs.arithmetic.signed_quotient.Goals as goal
use mir.Syntax.{w64}

pub returns-in-Some : goal.returns-in-Some
returns-in-Some c =
    let left = to_z-of_z w64 c.args.left c.ranges.left in
    let right = to_z-of_z w64 c.args.right c.ranges.right in
    let found = rw (left, right) at c.in-Some.ensures in
    quotient_some c.args.left c.args.right c.in-Some.number found.0 found.1
