use Rattle.std.proofs.Common.{rules, ◌≡◌, ◌≤◌, length, ap, ◌∙◌}
use Rattle.objects.specs.Objects.{Objects}
use Rattle.objects.proofs.Ranges.{places_rise, between_places}
use Rattle.objects.proofs.objects.Objects.entries_of.Goals as goal

pub slice_bounds-result-count : goal.slice_bounds-result-count
slice_bounds-result-count g c = places_rise _ _ _ _ c.count_before.ensures.bound c.count_before.ensures.place c.count_up_to.ensures.place

pub slice_bounds-result-start : goal.slice_bounds-result-start
slice_bounds-result-start g c =
    let same : c.deref.result.now ≡ c.args.self.now.entries = c.deref.ensures.value ∙ ap (λ (o : Objects g.row.T.Denot). o.entries) c.self.view_is in
    let bound : c.count_up_to.result ≤ length c.deref.result.now = rw same c.count_up_to.ensures.bound in
    let rise : c.count_before.result ≤ c.count_up_to.result = places_rise _ _ _ _ c.count_before.ensures.bound c.count_before.ensures.place c.count_up_to.ensures.place in
    search rules

pub returns : goal.returns
returns g c =
    let same : c.deref.result.now ≡ c.args.self.now.entries = c.deref.ensures.value ∙ ap (λ (o : Objects g.row.T.Denot). o.entries) c.self.view_is in
    rw same (between_places _ c.args.resource _ _ c.count_before.ensures.bound c.count_before.ensures.place c.count_up_to.ensures.place)
