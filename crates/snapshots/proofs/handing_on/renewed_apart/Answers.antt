use Rattle.std.proofs.Common.{arith, refl, not, ◌≡◌, ◌∙◌, sym, ap, length, ◌∷◌, true}
use Rattle.std.proofs.lemmas.Result.{IfOk-weaker}
use Rattle.std.proofs.lemmas.List.Filters.{length-filter_both}
use Rattle.names.specs.Key.{Key, key_bytes}
use Rattle.holdings.specs.Holdings.{Shows}
use Rattle.holdings.specs.Known.{IsKnown}
use Rattle.histories.specs.View.{View}
use Rattle.decoded.specs.Decoded.{Decoded}
use Rattle.snapshots.specs.Keeping.{held_entries}
use Rattle.snapshots.specs.LyingBelow.{base_of}
use Rattle.snapshots.proofs.LyingApart.{is_apart, apart_is_chosen, all_apart}
use Rattle.snapshots.proofs.handing_on.renewed_apart.Goals as goal

pub returns-clause-shows : goal.returns-clause-shows
returns-clause-shows g c held is apart many =
    let lies = g.B.Below.lies c.args.below.now in
    let kept = c.deref.ensures.value ∙ c.in_ok-entries.ensures ∙ c.in_ok-pairs.ensures ∙ ap held_entries apart ∙ apart_is_chosen lies held in
    let revision = ap (λ (v : View Decoded). v.revision) (c.apart.view_is ∙ apart) in
    let count : c.saturating_sub-count_below.result ≡ length (base_of lies held) =
    omega (
      arith,
      c.saturating_sub-count_below.ensures,
      c.len.ensures,
      many,
      ap (λ (v : View Decoded). length v.objects) (c.apart.view_is ∙ apart),
      length-filter_both (λ o. lies o.0.resource) (λ o. not (lies o.0.resource)) (λ o. refl) held.objects,
    )
    in
    IfOk-weaker c.restored.result
    (λ core. Shows core (base_of lies held) held × ((k : Key) → is_apart lies (1 ∷ key_bytes k) ≡ true → IsKnown core (base_of lies held) k))
    (λ core. Shows core (base_of lies held) held) (λ core both. both.0)
    (c.restored.ensures.shows held (is_apart lies) is (all_apart lies held) kept (sym revision) (sym count))

pub returns-clause-damaged : goal.returns-clause-damaged
returns-clause-damaged g c damaged held is apart many =
    let lies = g.B.Below.lies c.args.below.now in
    let kept = c.deref.ensures.value ∙ c.in_ok-entries.ensures ∙ c.in_ok-pairs.ensures ∙ ap held_entries apart ∙ apart_is_chosen lies held in
    let revision = ap (λ (v : View Decoded). v.revision) (c.apart.view_is ∙ apart) in
    let count : c.saturating_sub-count_below.result ≡ length (base_of lies held) =
    omega (
      arith,
      c.saturating_sub-count_below.ensures,
      c.len.ensures,
      many,
      ap (λ (v : View Decoded). length v.objects) (c.apart.view_is ∙ apart),
      length-filter_both (λ o. lies o.0.resource) (λ o. not (lies o.0.resource)) (λ o. refl) held.objects,
    )
    in
    c.restored.ensures.damaged damaged held (is_apart lies) is (all_apart lies held) kept (sym revision) (sym count)
