use Rattle.histories.specs.View.{view}
use Rattle.durable.proofs.Answering.{settled_serves}
use Rattle.gated.proofs.Leaving.{until_from}
use Rattle.gated.proofs.program.serve_store.Goals as goal

pub returns-in-OneByOne-clause-served : goal.returns-in-OneByOne-clause-served
returns-in-OneByOne-clause-served g c rules h settled =
    c.serve_one_by_one.ensures.served rules (view rules h) (λ working. settled_serves rules c.args.store.now h settled)

pub returns-in-OneByOne-clause-stopped : goal.returns-in-OneByOne-clause-stopped
returns-in-OneByOne-clause-stopped g c rules h settled =
    until_from _ _ c.serve_one_by_one.result (c.serve_one_by_one.ensures.stopped rules (view rules h) (λ working. settled_serves rules c.args.store.now h settled))
