use Rattle.std.proofs.Common.{rules}
use Rattle.std.proofs.lemmas.List.Sorted.{IsPartitionPoint-from_clause}
use Rattle.std.specs.Ordering.{is_lt}
use Rattle.holdings.specs.Ranges.{place_of}
use Rattle.holdings.proofs.Ranging.{parted_before}
use Rattle.holdings.proofs.range.count_before.Goals as goal

-- the closure tests the place of a change
pub returns-clause-place : goal.returns-clause-place
returns-clause-place g c =
    let resource = c.args.resource in
    let namespace = c.args.namespace.now in
    IsPartitionPoint-from_clause (λ change. is_lt (place_of resource namespace change.0)) _ _ c.partition_point.ensures.partitioned
    (parted_before resource namespace c.args.changes.now c.requires) (λ a r q called. search rules)
