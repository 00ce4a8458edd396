use Rattle.std.proofs.Common.{refl, ap}
use Rattle.diskmodels.proofs.Changing.{ran_idle}
use Rattle.diskmodels.proofs.memory_file.MemoryFileRawFile.sync.Goals as goal

pub returns-in-Err-clause-ran : goal.returns-in-Err-clause-ran
returns-in-Err-clause-ran c =
    ran_idle _ _ _ (λ x. refl) (ap (λ v. v.items) c.fail.ensures.current) (ap (λ v. v.items) c.fail.ensures.synced) (ap (λ v. v.items) c.fail.ensures.unsynced)
    c.fail.ensures.later
