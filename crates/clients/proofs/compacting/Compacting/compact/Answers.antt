use Rattle.std.proofs.Common.{ap, [], Err}
use Rattle.durable.proofs.Findings.{leaves-idle}
use Rattle.clients.proofs.compacting.Compacting.compact.Goals as goal

pub returns-then-not-is_due-clause-moments : goal.returns-then-not-is_due-clause-moments
returns-then-not-is_due-clause-moments g c rules h settled =
    leaves-idle rules c.args.store.now h [] (λ content since. g.met.D.Device.only_now _ content settled.keeps since) settled

pub returns-in-Err-Damaged-clause-left : goal.returns-in-Err-Damaged-clause-left
returns-in-Err-Damaged-clause-left g c rules h settled = absurd (c.in-Err-Damaged.ensures.damaged c.in-Err-Damaged.damage (ap Err c.in-Err-Damaged.field-0-is) rules h settled)
