use Rattle.std.proofs.Common.{rules}
use Rattle.httparse.specs.Grammar.{trim_ows}
use Rattle.httpmsg.proofs.head.trim.Goals as goal

pub returns : goal.returns
unfolding trim_ows
returns c = search rules
