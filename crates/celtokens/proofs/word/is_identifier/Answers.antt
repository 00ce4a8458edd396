use Rattle.std.proofs.Common.{rules, tests}
use Rattle.celtokens.proofs.Identifiers.{lexed_text}
use Rattle.celtokens.proofs.word.is_identifier.Goals as goal

pub returns-then-is_word-clause-lexed : goal.returns-then-is_word-clause-lexed
returns-then-is_word-clause-lexed c = lexed_text c.args.text.now _ c.utf8.text (search (rules, tests))

pub returns-else-is_word-clause-lexed : goal.returns-else-is_word-clause-lexed
returns-else-is_word-clause-lexed c = lexed_text c.args.text.now _ c.utf8.text (search (rules, tests))
