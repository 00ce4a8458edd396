use Rattle.std.proofs.Common.{◌≡◌, Err, subst}
use Rattle.api.specs.declared.fault.ServeFault.{ServeFault}
use Rattle.gated.proofs.Served.{ended_some, read_some, wrote_some}
use Rattle.durable.specs.Settled.{device_of}
use Rattle.gated.proofs.Leaving.{stopped_up_to}
use Rattle.gated.proofs.listening.serve_one.Goals as goal

pub returns-then-not-matches-clause-served : goal.returns-then-not-matches-clause-served
returns-then-not-matches-clause-served g c rules v shows = ended_some rules c.args.store.now c.serve-ended.new.store v _ _ (c.in-Ok.ensures.ended rules v shows)

pub returns-else-not-matches-clause-served : goal.returns-else-not-matches-clause-served
returns-else-not-matches-clause-served g c rules v shows = ended_some rules c.args.store.now c.serve-ended.new.store v _ _ (c.in-Ok.ensures.ended rules v shows)

pub returns-in-Read-clause-served : goal.returns-in-Read-clause-served
returns-in-Read-clause-served g c rules v shows =
    let Told : ServeFault → Type 0 = λ fault. c.serve-ended.result ≡ Err fault in
    read_some rules c.args.store.now c.serve-ended.new.store v (c.serve-ended.ensures.read rules v shows (subst Told c.in-Read.is c.in-Err.is))

pub returns-in-Write-clause-served : goal.returns-in-Write-clause-served
returns-in-Write-clause-served g c rules v shows =
    let Told : ServeFault → Type 0 = λ fault. c.serve-ended.result ≡ Err fault in
    wrote_some rules c.args.store.now c.serve-ended.new.store v (c.serve-ended.ensures.write rules v shows (subst Told c.in-Write.is c.in-Err.is))

pub returns-in_default-fault-clause-stopped : goal.returns-in_default-fault-clause-stopped
returns-in_default-fault-clause-stopped g c rules v shows =
    stopped_up_to rules c.args.store.now c.serve-ended.new.store v _ _ (g.met.D.Device.only_now (device_of c.args.store.now)) shows c.serve-ended.result (c.serve-ended.ensures.read rules v shows)
    (c.serve-ended.ensures.write rules v shows) (c.serve-ended.ensures.device rules v shows) (c.serve-ended.ensures.memory rules v shows)
    (c.serve-ended.ensures.never_damaged rules v shows) c.in-Err.fault c.in-Err.is
