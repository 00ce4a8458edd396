use Rattle.std.proofs.Common.{◌≡◌, ◌∷◌, ℕ, List, true, take, Contains}
use Rattle.names.specs.Key.{Key, key_bytes}
use Rattle.paged.specs.Chosen.{has_key}
use Rattle.paged.proofs.chosen.Chosen.add.Given as goal

-- those so far are there, and so is what was there before
abbrev pub invariant-loop-key : goal.invariant-loop-key
invariant-loop-key l = record {
  added : (k : Key) → Contains (take l.key-index l.keys) k → has_key l.self.keys (1 ∷ key_bytes k) ≡ true;
  stays : (key : List ℕ) → has_key l.fn.self.keys key ≡ true → has_key l.self.keys key ≡ true;
}
