use Rattle.routes.proofs.routes.collection_request_within.Goals as goal

pub returns : goal.returns
returns c =
    let seen = c.target.view_is in
    let named = rw (← seen) at c.collection_namespace-namespace.ensures in
    rw (← seen) (rw named at c.collection_request.ensures)
