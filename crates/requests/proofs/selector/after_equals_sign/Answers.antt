use Rattle.std.proofs.Common.{lit<}
use Rattle.std.proofs.lemmas.Str.Pattern.{strip_prefix_char}
use Rattle.requests.proofs.Selecting.{after_is}
use Rattle.requests.proofs.selector.after_equals_sign.Goals as goal

pub returns : goal.returns
returns c = after_is 61 c.args.text.now c.strip_prefix.result (strip_prefix_char 61 c.args.text.now c.strip_prefix.result c.strip_prefix.ensures.cases (lit< tt))
