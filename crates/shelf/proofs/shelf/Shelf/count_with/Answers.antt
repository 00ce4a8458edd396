use Rattle.std.proofs.Common.{rules}
use Rattle.shelf.specs.Places.{may_begin}
use Rattle.shelf.proofs.Places.{parted_with, split_found}
use Rattle.shelf.proofs.shelf.Shelf.count_with.Goals as goal

-- the closure tests the first key of a page
pub returns-clause-split : goal.returns-clause-split
returns-clause-split c pages index =
    split_found (may_begin c.args.prefix.now) c.deref.result.now c.args.self.now.first_keys.items c.partition_point.result c.deref.ensures.value
    (parted_with c.args.self.now.first_keys.items pages index c.args.prefix.now) c.partition_point.ensures.partitioned (λ a r q called. search rules)
