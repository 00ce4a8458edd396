use Rattle.names.proofs.Formats.{numbers_small}
use Rattle.names.proofs.format.numbers_are_small.Goals as goal

pub returns : goal.returns
returns c = numbers_small
