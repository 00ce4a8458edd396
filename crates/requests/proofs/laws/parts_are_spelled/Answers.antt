use Rattle.requests.proofs.Spelling.{parts_are_spelled}
use Rattle.requests.proofs.laws.parts_are_spelled.Goals as goal

pub returns : goal.returns
returns c = λ part r. parts_are_spelled part r
