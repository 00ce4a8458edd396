use Rattle.std.proofs.Common.{arith, refl, not, ap, ◌∙◌, length}
use Rattle.std.proofs.lemmas.List.Filters.{length-filter_both}
use Rattle.histories.specs.View.{View}
use Rattle.decoded.specs.Decoded.{Decoded}
use Rattle.snapshots.specs.Keeping.{held_entries}
use Rattle.snapshots.proofs.renewing.kept_of.Goals as goal

pub overflow_sub-count_below : goal.overflow_sub-count_below
overflow_sub-count_below g c =
    let lies = g.B.Below.lies c.args.below.now in
    omega (
      arith,
      c.len-count.ensures,
      c.len.ensures,
      ap (λ (v : View Decoded). length v.objects) c.view.view_is,
      ap (λ (v : View Decoded). length v.objects) c.kept.view_is,
      ap (λ (v : View Decoded). length v.objects) c.apart-kept.ensures,
      length-filter_both (λ o. lies o.0.resource) (λ o. not (lies o.0.resource)) (λ o. refl) c.args.view.objects,
    )

pub returns-clause-entries : goal.returns-clause-entries
returns-clause-entries g c = c.in_ok-entries.ensures ∙ c.in_ok-pairs.ensures ∙ ap held_entries c.apart-kept.ensures

pub returns-clause-count : goal.returns-clause-count
returns-clause-count g c =
    let lies = g.B.Below.lies c.args.below.now in
    omega (
      arith,
      c.len-count.ensures,
      c.len.ensures,
      ap (λ (v : View Decoded). length v.objects) c.view.view_is,
      ap (λ (v : View Decoded). length v.objects) c.kept.view_is,
      ap (λ (v : View Decoded). length v.objects) c.apart-kept.ensures,
      length-filter_both (λ o. lies o.0.resource) (λ o. not (lies o.0.resource)) (λ o. refl) c.args.view.objects,
    )
