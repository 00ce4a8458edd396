use Rattle.std.proofs.Common.{◌∙◌, ◌≡◌, sym, subst, true, true≢false}
use Rattle.std.specs.Str.{bytes_eq}
use Rattle.std.proofs.lemmas.List.{take_all}
use Rattle.std.proofs.lemmas.Slice.Eq.{bytes_eq-Decides}
use Rattle.damage.specs.Entries.{AreWithout}
use Rattle.damage.proofs.Finding.{without_more}
use Rattle.damage.proofs.entry_search.are_without.Goals as goal

pub each-preserved : goal.each-preserved
each-preserved c =
    without_more c.args.key.now c.args.entries.now c.each.entry-index c.entry-item.result c.each-test.true c.entry-item.is
    (λ is.
    let equal : bytes_eq c.key.result.now c.as_slice.result.now ≡ true =
    (bytes_eq-Decides c.key.result.now c.as_slice.result.now).1 (c.key.ensures ∙ is ∙ sym c.in_ok-own.ensures ∙ sym c.as_slice.ensures.value) in
    true≢false (sym equal ∙ sym c.eq.ensures ∙ c.if-eq.false))
    c.each.invariant

pub returns : goal.returns
returns c _ = subst (AreWithout c.args.key.now) (take_all c.each.entry-index c.args.entries.now c.each-test.false) c.each.invariant
