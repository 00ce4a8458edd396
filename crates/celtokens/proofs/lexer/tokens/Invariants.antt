use Rattle.std.proofs.Common.{length}
use Rattle.celtokens.specs.Seen.{terminals}
use Rattle.celtokens.proofs.Lexed.{Lexed}
use Rattle.celtokens.proofs.lexer.tokens.Given as goal

abbrev pub invariant-lexemes : goal.invariant-lexemes
invariant-lexemes l = Lexed l.chars (terminals l.tokens.items) l.rest

abbrev pub decreases-lexemes : goal.decreases-lexemes
decreases-lexemes l = length l.rest
