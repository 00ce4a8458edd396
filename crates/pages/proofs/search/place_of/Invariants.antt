use Rattle.std.proofs.Common.{◌≡◌, ◌<◌, ◌≤◌, ◌-◌, ℕ}
use Rattle.std.specs.declared.cmp.Ordering.TheVariants.{Less, Greater}
use Rattle.pages.specs.Page.{count, key_at, bytes_cmp}
use Rattle.pages.proofs.search.place_of.Given as goal

abbrev pub invariant-halves : goal.invariant-halves
invariant-halves l = record {
  bounded : l.high ≤ count l.bytes;
  lower : (k : ℕ) → k < l.low → bytes_cmp (key_at k l.bytes) l.key ≡ Less;
  higher : (k : ℕ) → l.high ≤ k → k < count l.bytes → bytes_cmp (key_at k l.bytes) l.key ≡ Greater;
}

abbrev pub decreases-halves : goal.decreases-halves
decreases-halves l = l.high - l.low
