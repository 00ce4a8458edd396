use Rattle.celread.proofs.Nests.{next_item, next_entry}
use Rattle.celread.proofs.limits.+nests.Goals as goal

pub all_within-returns-then-not-nests_within : goal.all_within-returns-then-not-nests_within
all_within-returns-then-not-nests_within t c =
    rw (← c.if-not-nests_within.ensures) at
    (next_item _ _ _ _ _ _ c.deref-item-items.ensures.value c.loop-item-test.true c.item-item.is c.loop-item.invariant)

pub all_within-loop-item-preserved : goal.all_within-loop-item-preserved
all_within-loop-item-preserved t c =
    rw (← c.if-not-nests_within.ensures) at
    (next_item _ _ _ _ _ _ c.deref-item-items.ensures.value c.loop-item-test.true c.item-item.is c.loop-item.invariant)

pub pairs_within-returns-then-not-nests_within : goal.pairs_within-returns-then-not-nests_within
pairs_within-returns-then-not-nests_within t c =
    rw (← c.if-not-nests_within.ensures) at
    (next_entry _ _ _ _ _ _ c.deref-key-items.ensures.value c.loop-key-test.true c.loop-key-item.is c.loop-key.invariant)

pub pairs_within-returns-then-not-nests_within-2 : goal.pairs_within-returns-then-not-nests_within-2
pairs_within-returns-then-not-nests_within-2 t c =
    rw (← c.if-not-nests_within.ensures, ← c.if-not-nests_within-2.ensures) at
    (next_entry _ _ _ _ _ _ c.deref-key-items.ensures.value c.loop-key-test.true c.loop-key-item.is c.loop-key.invariant)

pub pairs_within-loop-key-preserved : goal.pairs_within-loop-key-preserved
pairs_within-loop-key-preserved t c =
    rw (← c.if-not-nests_within.ensures, ← c.if-not-nests_within-2.ensures) at
    (next_entry _ _ _ _ _ _ c.deref-key-items.ensures.value c.loop-key-test.true c.loop-key-item.is c.loop-key.invariant)
