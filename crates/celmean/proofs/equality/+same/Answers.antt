use Rattle.std.proofs.Common.{◌≡◌, ◌∙◌, ◌+◌, ◌<◌, ◌&&◌, ℕ, List, length, get_or, drop, refl, sym, arith, add-one}
use Rattle.std.proofs.Math.Seq.{drop-cons}
use Rattle.std.proofs.lemmas.List.{length-map}
use Rattle.celmean.specs.Value.{sequence, mapping}
use Rattle.celmean.specs.Equality.{same, all_same, entries_same}
use Rattle.celmean.specs.Seen.{value_of, values_seen, entry_seen, entries_seen}
use Rattle.celmean.specs.declared.value.Value.{Value}
use Rattle.celmean.proofs.Inside.{value_of-Map}
use Rattle.celmean.proofs.Lists.{all_same-lengths, entries_same-lengths}
use Rattle.celmean.proofs.equality.+same.Goals as goal

pub all_same-returns-then-len : goal.all_same-returns-then-len
all_same-returns-then-len t c =
    let left = c.args.left.now in
    let right = c.args.right.now in
    sym (all_same-lengths (values_seen left.items) (values_seen right.items)
    (λ e. omega (arith, length-map left.items value_of, length-map right.items value_of, left.ok.0, right.ok.0)))

pub entries_same-returns-then-len : goal.entries_same-returns-then-len
entries_same-returns-then-len t c =
    let left = c.args.left.now in
    let right = c.args.right.now in
    sym (entries_same-lengths (entries_seen left.items) (entries_seen right.items)
    (λ e. omega (arith, length-map left.items entry_seen, length-map right.items entry_seen, left.ok.0, right.ok.0)))

pub same-returns-in-Map-right : goal.same-returns-in-Map-right
same-returns-in-Map-right t c =
    rw (c.in-Map.is, c.in-Map-right.is, value_of-Map c.in-Map.first, value_of-Map c.in-Map-right.second, ← c.deref-in-Map-right.ensures, ← c.deref-in-Map-right-2.ensures)
    c.entries_same.ensures

-- the items from a place on
all_same-drop : (vs ws : List Value) (i : ℕ) (v w : Value) → i < length vs → i < length ws → v ≡ get_or vs i v → w ≡ get_or ws i w
    → all_same (sequence (values_seen (drop i vs))) (sequence (values_seen (drop i ws)))
    ≡ same (value_of v) (value_of w) && all_same (sequence (values_seen (drop (i + 1) vs))) (sequence (values_seen (drop (i + 1) ws)))
all_same-drop vs ws i v w h k e f = rw (add-one, drop-cons vs i v, drop-cons ws i w, ← e, ← f) refl

pub all_same-returns-then-not-same : goal.all_same-returns-then-not-same
all_same-returns-then-not-same t c =
    let left = c.args.left.now in
    let right = c.args.right.now in
    let here = all_same-drop left.items right.items c.loop-at.at c.index.result.now c.index-in-loop-at.result.now (omega (arith, left.ok.0)) (omega (arith, right.ok.0)) c.index.ensures c.index-in-loop-at.ensures in
    sym (rw (sym c.if-not-same.ensures) at here) ∙ c.loop-at.invariant

pub all_same-loop-at-preserved : goal.all_same-loop-at-preserved
all_same-loop-at-preserved t c =
    let left = c.args.left.now in
    let right = c.args.right.now in
    let here = all_same-drop left.items right.items c.loop-at.at c.index.result.now c.index-in-loop-at.result.now (omega (arith, left.ok.0)) (omega (arith, right.ok.0)) c.index.ensures c.index-in-loop-at.ensures in
    sym (rw (sym c.if-not-same.ensures) at here) ∙ c.loop-at.invariant

-- the entries from a place on
entries_same-drop : (es fs : List (Value × Value)) (i : ℕ) (e f : Value × Value) → i < length es → i < length fs → e ≡ get_or es i e → f ≡ get_or fs i f
    → entries_same (mapping (entries_seen (drop i es))) (mapping (entries_seen (drop i fs)))
    ≡ (same (value_of e.0) (value_of f.0) && same (value_of e.1) (value_of f.1)) && entries_same (mapping (entries_seen (drop (i + 1) es))) (mapping (entries_seen (drop (i + 1) fs)))
entries_same-drop es fs i e f h k p q = rw (add-one, drop-cons es i e, drop-cons fs i f, ← p, ← q) refl

pub entries_same-returns-then-not-same : goal.entries_same-returns-then-not-same
entries_same-returns-then-not-same t c =
    let left = c.args.left.now in
    let right = c.args.right.now in
    let here = entries_same-drop left.items right.items c.loop-at.at c.index.result.now c.index-in-loop-at.result.now (omega (arith, left.ok.0)) (omega (arith, right.ok.0)) c.index.ensures c.index-in-loop-at.ensures in
    sym (rw (sym c.if-not-same.ensures) at here) ∙ c.loop-at.invariant

pub entries_same-returns-then-not-same-2 : goal.entries_same-returns-then-not-same-2
entries_same-returns-then-not-same-2 t c =
    let left = c.args.left.now in
    let right = c.args.right.now in
    let here = entries_same-drop left.items right.items c.loop-at.at c.index.result.now c.index-in-loop-at.result.now (omega (arith, left.ok.0)) (omega (arith, right.ok.0)) c.index.ensures c.index-in-loop-at.ensures in
    sym (rw (sym c.if-not-same.ensures, sym c.if-not-same-2.ensures) at here) ∙ c.loop-at.invariant

pub entries_same-loop-at-preserved : goal.entries_same-loop-at-preserved
entries_same-loop-at-preserved t c =
    let left = c.args.left.now in
    let right = c.args.right.now in
    let here = entries_same-drop left.items right.items c.loop-at.at c.index.result.now c.index-in-loop-at.result.now (omega (arith, left.ok.0)) (omega (arith, right.ok.0)) c.index.ensures c.index-in-loop-at.ensures in
    sym (rw (sym c.if-not-same.ensures, sym c.if-not-same-2.ensures) at here) ∙ c.loop-at.invariant
