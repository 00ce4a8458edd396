use Rattle.std.proofs.Common.{rules, ◌≤◌, length}
use Rattle.holdings.proofs.Ranging.{starts_first, in_range}
use Rattle.holdings.proofs.range.changes_in.Goals as goal

pub slice_bounds-result-count : goal.slice_bounds-result-count
slice_bounds-result-count g c =
    starts_first c.args.resource c.args.namespace.now c.args.changes.now c.count_before.result c.count_up_to.result c.count_before.ensures.bound c.count_before.ensures.place c.count_up_to.ensures.place

pub slice_bounds-result-start : goal.slice_bounds-result-start
slice_bounds-result-start g c =
    let bound : c.count_up_to.result ≤ length c.args.changes.now = c.count_up_to.ensures.bound in
    let rise : c.count_before.result ≤ c.count_up_to.result =
    starts_first c.args.resource c.args.namespace.now c.args.changes.now c.count_before.result c.count_up_to.result c.count_before.ensures.bound c.count_before.ensures.place c.count_up_to.ensures.place
    in
    search rules

pub returns : goal.returns
returns g c =
    in_range c.args.resource c.args.namespace.now c.args.changes.now c.count_before.result c.count_up_to.result c.count_before.ensures.bound c.count_before.ensures.place c.count_up_to.ensures.place
