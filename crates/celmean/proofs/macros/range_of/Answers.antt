use Rattle.std.proofs.Common.{Some, ap}
use Rattle.celmean.specs.Seen.{values_seen}
use Rattle.celmean.proofs.Lists.{items-sequence}
use Rattle.celmean.proofs.Inside.{value_of-List}
use Rattle.celmean.proofs.macros.range_of.Goals as goal

pub returns-in_ok-copy_items-in-List : goal.returns-in_ok-copy_items-in-List
returns-in_ok-copy_items-in-List c =
    rw (c.in-Gives.is, c.in-List.is, value_of-List c.in-List.items, items-sequence (values_seen c.in-List.items.value.items), ← c.deref.ensures) (ap Some c.in_ok-copy_items-in-List.ensures)
