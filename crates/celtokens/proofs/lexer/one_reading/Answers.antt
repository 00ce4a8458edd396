use Rattle.celtokens.proofs.Lexed.{one_sequence}
use Rattle.celtokens.proofs.lexer.one_reading.Goals as goal

pub returns : goal.returns
returns c = one_sequence
