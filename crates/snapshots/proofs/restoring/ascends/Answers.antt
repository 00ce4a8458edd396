use Rattle.std.proofs.Common.{arith, ◌≡◌, true, ◌+◌, ℕ, List, drop}
use Rattle.snapshots.proofs.Held.{Kept, at_index}
use Rattle.snapshots.proofs.Sorted.{goes_on}
use Rattle.snapshots.proofs.restoring.ascends.Goals as goal

pub loop-object-preserved : goal.loop-object-preserved
loop-object-preserved c =
    let rest : List Kept = c.in-Some.rest.now in
    let i : ℕ = c.loop-object.object-index in
    let o : Kept = c.object-item.result in
    let yes : c.is_after.result ≡ true = cc in
    goes_on c.loop-object.before.now o (drop i rest) (drop (i + 1) rest) c.args.objects.now c.is_after.result (at_index rest i o (omega arith) c.object-item.is)
    c.loop-object.invariant c.is_after.ensures yes
