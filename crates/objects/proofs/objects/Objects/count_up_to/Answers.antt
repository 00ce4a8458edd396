use Rattle.std.proofs.Common.{rules, leb}
use Rattle.std.proofs.lemmas.List.Sorted.{IsPartitionPoint-from_clause, IsPartitionedBy-leb}
use Rattle.names.specs.Resource.{row}
use Rattle.objects.proofs.Ranges.{number_of, numbers_rise, IsUpTo-from_tests}
use Rattle.objects.proofs.objects.Objects.count_up_to.Goals as goal

-- the closure tests the number of an entry's resource, and the slice has the entries
pub returns-clause-place : goal.returns-clause-place
returns-clause-place g c =
    let number = (row c.args.resource).number in
    let parted = IsPartitionedBy-leb (λ entry. number_of entry.0) _ number (numbers_rise _ (rw c.deref.ensures.value c.self.invariant)) in
    let point = IsPartitionPoint-from_clause (λ entry. leb (number_of entry.0) number) _ _ c.partition_point.ensures.partitioned parted (λ a r q called. search rules) in
    rw (← c.self.view_is, ← c.deref.ensures.value) (IsUpTo-from_tests c.deref.result.now c.args.resource _ point)
