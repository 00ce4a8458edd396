use Rattle.std.proofs.Common.{◌≡◌, drop}
use Rattle.celtree.specs.Nesting.{all_within, pairs_within}
use Rattle.celtree.specs.View.{views, pair_views}
use Rattle.celread.proofs.limits.+nests.Given as goal

abbrev pub invariant-all_within-loop-item : goal.invariant-all_within-loop-item
invariant-all_within-loop-item l = all_within (views (drop l.item-index l.items.items)) l.depth ≡ all_within (views l.items.items) l.depth

abbrev pub invariant-pairs_within-loop-key : goal.invariant-pairs_within-loop-key
invariant-pairs_within-loop-key l = pairs_within (pair_views (drop l.key-index l.entries.items)) l.depth ≡ pairs_within (pair_views l.entries.items) l.depth
