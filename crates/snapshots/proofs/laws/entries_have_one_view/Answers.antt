use Rattle.snapshots.proofs.Kept as proof
use Rattle.snapshots.proofs.laws.entries_have_one_view.Goals as goal

pub returns : goal.returns
returns c = proof.entries_have_one_view
