use Rattle.policy.specs.Bindings.{binding_of}
use Rattle.verdict.proofs.Ascending.{names_ascend}
use Rattle.verdict.specs.Objects.{Object}
use Rattle.verdict.proofs.laws.bindings_ascend.Goals as goal

pub returns : goal.returns
returns c = names_ascend (λ (o : Object). binding_of o.document.json)
