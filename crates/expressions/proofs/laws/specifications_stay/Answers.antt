use Rattle.expressions.proofs.Staying.{stands_still}
use Rattle.expressions.proofs.laws.specifications_stay.Goals as goal

pub returns : goal.returns
returns c = stands_still c.types_stay.ensures
