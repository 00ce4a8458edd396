use Rattle.roots.proofs.Counting.{one_counts}
use Rattle.roots.proofs.root.Root.log_sector.Goals as goal

pub returns-clause-one_root : goal.returns-clause-one_root
returns-clause-one_root c = one_counts
