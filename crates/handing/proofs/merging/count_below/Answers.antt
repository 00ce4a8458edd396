use Rattle.std.proofs.Common.{rules, arith, ◌≡◌, ap, sym, ◌∙◌}
use Rattle.std.specs.declared.cmp.Ordering.TheVariants.{Less}
use Rattle.std.specs.Ordering.{is_lt}
use Rattle.std.proofs.lemmas.Bool.{true≢false}
use Rattle.names.specs.Key.{Key, key_cmp}
use Rattle.records.proofs.Ascending.{less_from}
use Rattle.handing.proofs.HandedOn.{one_more_below, split_here, split_end}
use Rattle.handing.proofs.merging.count_below.Goals as goal

pub loop-at-preserved : goal.loop-at-preserved
loop-at-preserved g c =
    let change = c.index-changes-at.result in
    let order : c.cmp.result ≡ key_cmp change.0 c.args.key.now = c.cmp.ensures.value ∙ ap (λ (k : Key). key_cmp k c.args.key.now) c.key.ensures in
    let less : key_cmp change.0 c.args.key.now ≡ Less = sym order ∙ less_from c.cmp.result (sym c.is_lt.ensures ∙ c.if-not-is_lt.false) in
    one_more_below c.args.key.now c.args.changes.now c.loop-at.at change (omega arith) c.index-changes-at.is less c.loop-at.invariant

pub returns-then-not-is_lt-clause-split : goal.returns-then-not-is_lt-clause-split
returns-then-not-is_lt-clause-split g c sorted =
    let change = c.index-changes-at.result in
    let order : c.cmp.result ≡ key_cmp change.0 c.args.key.now = c.cmp.ensures.value ∙ ap (λ (k : Key). key_cmp k c.args.key.now) c.key.ensures in
    split_here c.args.key.now c.args.changes.now c.loop-at.at change (omega arith) c.index-changes-at.is
    (λ less. true≢false (sym (ap is_lt (order ∙ less)) ∙ sym c.is_lt.ensures ∙ c.if-not-is_lt.true)) c.loop-at.invariant sorted

pub returns-clause-split : goal.returns-clause-split
returns-clause-split g c sorted = split_end c.args.key.now c.args.changes.now c.loop-at.at (omega arith) c.loop-at.invariant
