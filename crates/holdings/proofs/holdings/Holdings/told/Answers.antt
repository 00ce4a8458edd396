use Rattle.requests.specs.Collection.{collection_of}
use Rattle.holdings.proofs.Telling.{shows_told, shows_refused}
use Rattle.holdings.proofs.holdings.Holdings.told.Goals as goal

pub returns-in-Ok : goal.returns-in-Ok
returns-in-Ok g c = λ base v shows.
    shows_told c.args.self.now base v (collection_of c.args.collection.now) c.args.revision c.in-Ok.events c.told.result shows c.in-Ok.ensures.served c.in-Ok.ensures.events
    c.told.ensures

pub returns-in-Err : goal.returns-in-Err
returns-in-Err g c = λ base v shows.
    shows_refused c.args.self.now base v (collection_of c.args.collection.now) c.args.revision c.in-Err.refusal c.status.result shows c.in-Err.ensures.refused c.status.ensures
