use Rattle.std.proofs.Common.{sym, ◌∙◌}
use Rattle.httpmsg.proofs.Places.{empty_line_cr, empty_line_lf, method_first}
use Rattle.httpmsg.proofs.place.before_request.Goals as goal

pub returns-in-13 : goal.returns-in-13
returns-in-13 c = λ text follows. rw c.in-13.is (empty_line_cr text follows)

pub returns-in-10 : goal.returns-in-10
returns-in-10 c = λ text follows. rw c.in-10.is (empty_line_lf text follows)

pub returns-in_default : goal.returns-in_default
returns-in_default c =
    λ text follows. method_first c.args.byte text (sym c.is_method_token.ensures ∙ c.if-is_method_token.true) follows
