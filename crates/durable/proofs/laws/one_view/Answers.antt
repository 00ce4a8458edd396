use Rattle.durable.proofs.Reading.{one_view}
use Rattle.durable.proofs.laws.one_view.Goals as goal

pub returns : goal.returns
returns c = one_view
