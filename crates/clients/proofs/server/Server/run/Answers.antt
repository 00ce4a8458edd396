use Rattle.histories.specs.View.{view}
use Rattle.clients.proofs.Runs.{store_run}
use Rattle.clients.proofs.server.Server.run.Goals as goal

pub returns-clause-served : goal.returns-clause-served
returns-clause-served g c none rules v shows =
    store_run _ _ _ _ _ _ rules c.args.store.now c.run.new.store v _ _ c.run.result (c.run.ensures.served none rules v shows)

pub returns-clause-settled : goal.returns-clause-settled
returns-clause-settled g c rules h settled =
    store_run _ _ _ _ _ _ rules c.args.store.now c.run.new.store (view rules h) _ _ c.run.result (c.run.ensures.settled rules h settled)
