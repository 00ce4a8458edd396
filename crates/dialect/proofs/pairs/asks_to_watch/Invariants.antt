use Rattle.std.proofs.Common.{◌≡◌, drop}
use Rattle.dialect.specs.Pairs.{asks_to_watch}
use Rattle.dialect.proofs.pairs.asks_to_watch.Given as goal

-- what is left decides
abbrev pub invariant-loop-pair : goal.invariant-loop-pair
invariant-loop-pair l = asks_to_watch (drop l.pair-index l.pairs) ≡ asks_to_watch l.pairs
