use Rattle.std.proofs.Common.{◌≡◌, ◌∙◌, ◌<◌, get_or, length, sym, arith}
use Rattle.celmean.specs.Seen.{value_of}
use Rattle.celmean.proofs.Places.{key_here, key_past}
use Rattle.celmean.proofs.collections.place_of.Goals as goal

pub returns-then-key_before-clause-place : goal.returns-then-key_before-clause-place
returns-then-key_before-clause-place c = λ v.
    let l = c.loop-found in
    let all = c.args.entries.now.items in
    let within : l.found-index < length all = omega arith in
    let item : c.loop-found-item.result ≡ get_or all l.found-index c.loop-found-item.result = rw c.deref-found-items.ensures.value at c.loop-found-item.is in
    rw l.invariant.counted (l.invariant.onward v ∙ key_here (value_of c.args.key.now) v l.found-index all c.loop-found-item.result within item (sym c.key_before.ensures ∙ c.if-key_before.true))

pub loop-found-preserved : goal.loop-found-preserved
loop-found-preserved c =
    let l = c.loop-found in
    let all = c.args.entries.now.items in
    let within : l.found-index < length all = omega arith in
    let item : c.loop-found-item.result ≡ get_or all l.found-index c.loop-found-item.result = rw c.deref-found-items.ensures.value at c.loop-found-item.is in
    record {
      counted = omega arith;
      within = omega arith;
      onward = λ v. l.invariant.onward v ∙ key_past (value_of c.args.key.now) v l.found-index all c.loop-found-item.result within item (sym c.key_before.ensures ∙ c.if-key_before.false);
    }
