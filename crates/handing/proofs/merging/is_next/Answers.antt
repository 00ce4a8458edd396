use Rattle.std.proofs.Common.{◌∙◌, sym, ap}
use Rattle.std.specs.Ordering.{eq_by_cmp}
use Rattle.names.specs.Key.{key_cmp}
use Rattle.objects.proofs.Taking.{same_key, key_same}
use Rattle.handing.proofs.HandedOn.{next_is}
use Rattle.handing.proofs.merging.is_next.Goals as goal

pub returns-in-Some : goal.returns-in-Some
returns-in-Some g c =
    let key = c.args.key.now in
    let first = c.in-Some.change.now in
    let both = next_is key c.args.changes.now first c.in-Some.ensures.value in (
      (λ is. both.0 (same_key first.0 key (ap (λ k. eq_by_cmp key_cmp k key) (sym c.key.ensures) ∙ sym c.eq.ensures ∙ is))),
      (λ next. c.eq.ensures ∙ ap (λ k. eq_by_cmp key_cmp k key) c.key.ensures ∙ key_same first.0 key (both.1 next)),
    )
