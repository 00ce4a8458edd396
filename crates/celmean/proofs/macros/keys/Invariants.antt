use Rattle.std.proofs.Common.{◌≡◌, map, take}
use Rattle.celmean.specs.Seen.{values_seen, entries_seen}
use Rattle.celmean.proofs.macros.keys.Given as goal

abbrev pub invariant-loop-key : goal.invariant-loop-key
invariant-loop-key l = values_seen l.keys.items ≡ map (λ e. e.0) (entries_seen (take l.key-index l.entries.items))
