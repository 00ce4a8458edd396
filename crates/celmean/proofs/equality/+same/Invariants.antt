use Rattle.std.proofs.Common.{◌≡◌, drop}
use Rattle.celmean.specs.Value.{sequence, mapping}
use Rattle.celmean.specs.Equality.{all_same, entries_same}
use Rattle.celmean.specs.Seen.{values_seen, entries_seen}
use Rattle.celmean.proofs.equality.+same.Given as goal

abbrev pub invariant-all_same-loop-at : goal.invariant-all_same-loop-at
invariant-all_same-loop-at l =
    all_same (sequence (values_seen (drop l.at l.left.items))) (sequence (values_seen (drop l.at l.right.items)))
    ≡ all_same (sequence (values_seen l.left.items)) (sequence (values_seen l.right.items))

abbrev pub invariant-entries_same-loop-at : goal.invariant-entries_same-loop-at
invariant-entries_same-loop-at l =
    entries_same (mapping (entries_seen (drop l.at l.left.items))) (mapping (entries_seen (drop l.at l.right.items)))
    ≡ entries_same (mapping (entries_seen l.left.items)) (mapping (entries_seen l.right.items))
