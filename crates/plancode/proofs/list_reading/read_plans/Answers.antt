use Rattle.std.proofs.Common.{rules, ◌≡◌, length}
use Rattle.plancode.proofs.Lists.{same_count, is_listed, is_list}
use Rattle.plancode.proofs.list_reading.read_plans.Goals as goal

pub returns-then-count-places-clause-damaged : goal.returns-then-count-places-clause-damaged
returns-then-count-places-clause-damaged c is_damaged plans list same =
    let counts : c.in-Some.count ≡ length c.args.places.now =
    (same_count c.args.places.now plans c.args.bytes.now c.in-Some.rest.now c.in-Some.count list (search rules) c.in-Some.ensures.parts same).0 in
    c.if-count-places.true counts

pub returns-else-count-places-clause-found : goal.returns-else-count-places-clause-found
returns-else-count-places-clause-found c =
    let counts : c.in-Some.count ≡ length c.args.places.now = search rules in
    is_listed (λ v. v.items) c.read_each.result c.args.places.now c.args.bytes.now c.in-Some.rest.now c.in-Some.count counts c.in-Some.ensures.parts c.read_each.ensures.found c.read_each.ensures.fits

pub returns-else-count-places-clause-fits : goal.returns-else-count-places-clause-fits
returns-else-count-places-clause-fits c =
    let counts : c.in-Some.count ≡ length c.args.places.now = search rules in
    is_list (λ v. v.items) c.read_each.result c.args.places.now c.in-Some.count counts (search rules) c.read_each.ensures.fits
