use Rattle.decoded.proofs.Staying.{no_namespaces}
use Rattle.decoded.proofs.laws.no_namespaces.Goals as goal

pub returns : goal.returns
returns c = no_namespaces
