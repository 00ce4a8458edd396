use Rattle.std.proofs.Common.{sym}
use Rattle.celtokens.proofs.Lexemes.{blank_longest}
use Rattle.celtokens.proofs.lexeme.lexeme.Goals as goal

pub returns-in-Blank : goal.returns-in-Blank
returns-in-Blank c = blank_longest c.args.chars.now c.in-Some.first.now c.in-Some.rest.now c.in-Some.ensures.cases.0 (sym c.in-Blank.ensures)
