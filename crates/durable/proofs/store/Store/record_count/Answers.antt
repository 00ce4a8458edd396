use Rattle.std.proofs.Common.{◌∙◌}
use Rattle.durable.proofs.Keeping.{counted_is}
use Rattle.paged.specs.Paged.{root_of}
use Rattle.durable.proofs.store.Store.record_count.Goals as goal

pub returns-clause-counted : goal.returns-clause-counted
returns-clause-counted g c = λ serving keeps payloads holds.
    let store = c.args.self.now in
    c.record_count.ensures
    ∙ counted_is g.D.Device.disk store.device (root_of store.paged) store.log (store.ready serving keeps) payloads holds
