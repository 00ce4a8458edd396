use Rattle.std.proofs.Common.{rules, inr, subst, ◌≡◌}
use Rattle.httpmsg.specs.Flow.{TookSome}
use Rattle.clients.specs.Compacting.{compacted_line}
use Rattle.api.proofs.Folds.{took_some_of}
use Rattle.clients.proofs.compacting.tell_compacted.Goals as goal

pub returns-in-Ok-clause-told : goal.returns-in-Ok-clause-told
returns-in-Ok-clause-told g c = λ told is.
    let same : c.as_bytes.result.now ≡ compacted_line told = search rules in
    inr (subst (λ bytes. TookSome g.L.Output.took c.args.log.now c.write_all.new.output bytes) same
    (took_some_of g.L.Output.took c.args.log.now c.write_all.new.output c.as_bytes.result.now c.write_all.result c.write_all.ensures.writes))
