use Rattle.std.proofs.Common.{refl}
use Rattle.celmean.specs.Seen.{values_seen}
use Rattle.celmean.proofs.Lists.{items-sequence}
use Rattle.celmean.proofs.Inside.{value_of-List}
use Rattle.celmean.proofs.macros.list_items.Goals as goal

pub returns-in-List : goal.returns-in-List
returns-in-List c =
    rw (c.in-Gives.is, c.in-List.is, value_of-List c.in-List.items, items-sequence (values_seen c.in-List.items.value.items), ← c.deref.ensures) refl
