use Rattle.std.proofs.Common.{rules, ap, length}
use Rattle.std.proofs.lemmas.Grind.{common_steps}
use Rattle.device.specs.Step.{Holds}
use Rattle.device.proofs.Steps.{torn_idle, torn_holds}
use Rattle.diskmodels.specs.declared.memory_file.Change.TheVariants.{Written}
use Rattle.diskmodels.proofs.Changing.{ran_idle, ran_either}
use Rattle.diskmodels.proofs.memory_file.MemoryFileRawFile.write_at.Goals as goal

pub returns-then-bytes-start-clause-ran : goal.returns-then-bytes-start-clause-ran
returns-then-bytes-start-clause-ran c =
    ran_idle _ _ _ (λ x. torn_idle _ _ x) (ap (λ v. v.items) c.fail.ensures.current) (ap (λ v. v.items) c.fail.ensures.synced) (ap (λ v. v.items) c.fail.ensures.unsynced)
    c.fail.ensures.later

pub returns-in-Err-clause-ran : goal.returns-in-Err-clause-ran
returns-in-Err-clause-ran c =
    ran_idle _ _ _ (λ x. torn_idle _ _ x) (ap (λ v. v.items) c.fail-in-Err.ensures.current) (ap (λ v. v.items) c.fail-in-Err.ensures.synced)
    (ap (λ v. v.items) c.fail-in-Err.ensures.unsynced) c.fail-in-Err.ensures.later

pub returns-in-Ok-clause-ran : goal.returns-in-Ok-clause-ran
returns-in-Ok-clause-ran c =
    let old = c.args.self.now in
    let is : Holds old.current.items c.args.offset c.args.bytes.now c.in-Ok.next.items = search (rules, common_steps) in
    ran_either _ old c.becomes.new.self (Written c.args.offset (length c.args.bytes.now)) c.in-Ok.next.items c.becomes.result c.becomes.ensures.synced
    c.becomes.ensures.ok c.becomes.ensures.err (torn_holds c.args.offset c.args.bytes.now old.current.items c.in-Ok.next.items (c.requires.inside tt) is)
