use Rattle.apicore.specs.Attempts.{objects_of}
use Rattle.apicore.proofs.Finding.{sees_shown, have_trees}
use Rattle.apicore.proofs.judging.verdict_of.Goals as goal

pub returns-clause-verdict : goal.returns-clause-verdict
returns-clause-verdict g c = λ held v over.
    let sees = sees_shown c.args.core.now.rules.format held v over.plans over.seen in
    c.admit.ensures.verdict (objects_of v)
    (record { base = over.base; below = over.below; free = over.free; held = held; shows = over.shows; are = sees.0; ascends = sees.1 })
    (have_trees c.args.core.now.rules.format v over.seen)

pub returns-clause-damaged : goal.returns-clause-damaged
returns-clause-damaged g c = λ part told held v over.
    let sees = sees_shown c.args.core.now.rules.format held v over.plans over.seen in
    c.admit.ensures.damaged part told (objects_of v)
    (record { base = over.base; below = over.below; free = over.free; held = held; shows = over.shows; are = sees.0; ascends = sees.1 })
