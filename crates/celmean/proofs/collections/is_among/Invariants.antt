use Rattle.std.proofs.Common.{◌≡◌, drop}
use Rattle.celmean.specs.Collections.{is_among}
use Rattle.celmean.specs.Seen.{value_of, values_seen}
use Rattle.celmean.proofs.collections.is_among.Given as goal

abbrev pub invariant-loop-item : goal.invariant-loop-item
invariant-loop-item l = is_among (value_of l.value) (values_seen (drop l.item-index l.items.items)) ≡ is_among (value_of l.value) (values_seen l.items.items)
