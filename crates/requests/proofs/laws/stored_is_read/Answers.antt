use Rattle.requests.proofs.Recovery.{IsManifestOf-stored}
use Rattle.requests.proofs.laws.stored_is_read.Goals as goal

pub returns : goal.returns
returns c = λ k d form. IsManifestOf-stored k d form
