use Rattle.std.proofs.Common.{refl, arith}
use Rattle.diskmodels.proofs.Changing.{ran_idle}
use Rattle.diskmodels.proofs.memory_file.MemoryFileRawFile.size.Goals as goal

pub returns-clause-ran : goal.returns-clause-ran
returns-clause-ran c = ran_idle _ _ _ (λ x. refl) refl refl refl (omega arith)
