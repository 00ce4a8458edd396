use Rattle.plancode.proofs.Codes as codes
use Rattle.plancode.proofs.laws.one_spelling.Goals as goal

pub returns : goal.returns
returns c = codes.one_spelling
