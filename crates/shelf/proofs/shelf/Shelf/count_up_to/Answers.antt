use Rattle.std.proofs.Common.{rules}
use Rattle.shelf.specs.Places.{is_at_or_below}
use Rattle.shelf.proofs.Places.{parted_at, split_found}
use Rattle.shelf.proofs.shelf.Shelf.count_up_to.Goals as goal

-- the closure tests the first key of a page
pub returns-clause-split : goal.returns-clause-split
returns-clause-split c pages index =
    split_found (is_at_or_below c.args.key.now) c.deref.result.now c.args.self.now.first_keys.items c.partition_point.result c.deref.ensures.value
    (parted_at c.args.self.now.first_keys.items pages index c.args.key.now) c.partition_point.ensures.partitioned (λ a r q called. search rules)
