use Rattle.std.proofs.Common.{inl, inr, rules}
use Rattle.celtokens.specs.Seen.{terminals}
use Rattle.celtokens.proofs.ahead.suffix_at.Goals as goal

pub returns-in-None : goal.returns-in-None
returns-in-None c = (terminals c.in-Some.beyond.now, inr (search rules, c.in-None.ensures.value))

pub returns-in-Sign-OpenParenthesis : goal.returns-in-Sign-OpenParenthesis
returns-in-Sign-OpenParenthesis c = (terminals c.in-Some.beyond.now, inl (search rules))
