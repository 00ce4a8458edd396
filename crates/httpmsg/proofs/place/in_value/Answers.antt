use Rattle.std.proofs.Common.{sym, ◌∙◌}
use Rattle.httpmsg.proofs.Places.{value_more}
use Rattle.httpmsg.proofs.place.in_value.Goals as goal

pub returns-in_default : goal.returns-in_default
returns-in_default c =
    λ text follows. value_more c.args.byte text (sym c.is_header_value_token.ensures ∙ c.if-is_header_value_token.true) follows
