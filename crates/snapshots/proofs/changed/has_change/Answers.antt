use Rattle.std.proofs.Common.{◌≡◌, ◌∷◌}
use Rattle.names.specs.Key.{key_bytes}
use Rattle.names.proofs.KeyBytes.{first_and_rest}
use Rattle.snapshots.proofs.Unchanged.{key_read, whole_read, change_found, change_missing}
use Rattle.snapshots.proofs.changed.has_change.Goals as goal

pub returns-in-Ok-clause-changed : goal.returns-in-Ok-clause-changed
returns-in-Ok-clause-changed g c = λ has key chunk is same.
    let whole : c.in-Some.whole.now ≡ 1 ∷ key_bytes key = whole_read c.whole_key.result c.in-Some.whole (1 ∷ key_bytes key) c.in-Some.is (c.whole_key.ensures.of (1 ∷ key_bytes key) chunk same) in
    change_found c.args.changes.now.made c.in-Ok.key key c.get.result c.is_some.result
    (key_read c.in-Some.whole.now c.in-Some-split_first._mark.now c.in-Some-split_first.parts.now c.in-Ok.key key
    (first_and_rest c.in-Some.whole.now c.split_first.result c.in-Some-split_first._mark c.in-Some-split_first.parts c.in-Some-split_first.is c.split_first.ensures.cases)
    c.in-Ok.ensures.value c.in-Ok.ensures.key is whole)
    c.get.ensures c.is_some.ensures has

pub returns-in-Ok-clause-unchanged : goal.returns-in-Ok-clause-unchanged
returns-in-Ok-clause-unchanged g c = λ lacks key chunk is same.
    let whole : c.in-Some.whole.now ≡ 1 ∷ key_bytes key = whole_read c.whole_key.result c.in-Some.whole (1 ∷ key_bytes key) c.in-Some.is (c.whole_key.ensures.of (1 ∷ key_bytes key) chunk same) in
    change_missing c.args.changes.now.made c.in-Ok.key key c.get.result c.is_some.result
    (key_read c.in-Some.whole.now c.in-Some-split_first._mark.now c.in-Some-split_first.parts.now c.in-Ok.key key
    (first_and_rest c.in-Some.whole.now c.split_first.result c.in-Some-split_first._mark c.in-Some-split_first.parts c.in-Some-split_first.is c.split_first.ensures.cases)
    c.in-Ok.ensures.value c.in-Ok.ensures.key is whole)
    c.get.ensures c.is_some.ensures lacks
