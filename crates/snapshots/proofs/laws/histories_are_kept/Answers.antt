use Rattle.snapshots.proofs.Histories as proof
use Rattle.snapshots.proofs.laws.histories_are_kept.Goals as goal

pub returns : goal.returns
returns c = proof.histories_are_kept
