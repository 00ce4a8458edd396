use Rattle.durable.proofs.Reading.{redone_is_shown}
use Rattle.durable.proofs.laws.redone_is_shown.Goals as goal

pub returns : goal.returns
returns c = redone_is_shown
