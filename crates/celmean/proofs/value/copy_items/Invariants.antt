use Rattle.std.proofs.Common.{◌≡◌, take}
use Rattle.celmean.specs.Seen.{values_seen}
use Rattle.celmean.proofs.value.copy_items.Given as goal

abbrev pub invariant-loop-item : goal.invariant-loop-item
invariant-loop-item l = values_seen l.copies.items ≡ values_seen (take l.item-index l.items.items)
