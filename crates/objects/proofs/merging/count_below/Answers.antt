use Rattle.std.proofs.Common.{rules}
use Rattle.std.proofs.lemmas.List.Sorted.{IsPartitionPoint-from_clause}
use Rattle.std.specs.Ordering.{is_lt}
use Rattle.names.specs.Key.{key_cmp}
use Rattle.objects.proofs.Walking.{parted_below, split_at}
use Rattle.objects.proofs.merging.count_below.Goals as goal

pub returns-clause-split : goal.returns-clause-split
returns-clause-split g c sorted =
    let key = c.args.key.now in
    let point = IsPartitionPoint-from_clause (λ change. is_lt (key_cmp change.now.0 key)) _ _ c.partition_point.ensures.partitioned (parted_below key c.args.changes.now sorted) (λ a r q called. search rules) in
    split_at key c.args.changes.now c.partition_point.result c.partition_point.ensures.bound point
