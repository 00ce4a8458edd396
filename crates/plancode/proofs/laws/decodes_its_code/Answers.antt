use Rattle.plancode.proofs.Codes.{decoded_again}
use Rattle.plancode.proofs.laws.decodes_its_code.Goals as goal

pub returns : goal.returns
returns c = decoded_again
