use Rattle.std.proofs.Common.{rules, ltb}
use Rattle.std.proofs.lemmas.List.Sorted.{IsPartitionPoint-from_clause, IsPartitionedBy-ltb}
use Rattle.names.specs.Resource.{row}
use Rattle.objects.proofs.Ranges.{number_of, numbers_rise, IsBefore-from_tests}
use Rattle.objects.proofs.objects.Objects.count_before.Goals as goal

-- the closure tests the number of an entry's resource, and the slice has the entries
pub returns-clause-place : goal.returns-clause-place
returns-clause-place g c =
    let number = (row c.args.resource).number in
    let parted = IsPartitionedBy-ltb (λ entry. number_of entry.0) _ number (numbers_rise _ (rw c.deref.ensures.value c.self.invariant)) in
    let point = IsPartitionPoint-from_clause (λ entry. ltb (number_of entry.0) number) _ _ c.partition_point.ensures.partitioned parted (λ a r q called. search rules) in
    rw (← c.self.view_is, ← c.deref.ensures.value) (IsBefore-from_tests c.deref.result.now c.args.resource _ point)
