use Rattle.std.proofs.Common.{sym, ◌∙◌}
use Rattle.httpmsg.proofs.Places.{last_line, field_first}
use Rattle.httpmsg.proofs.place.before_line.Goals as goal

pub returns-then-byte-eq13 : goal.returns-then-byte-eq13
returns-then-byte-eq13 c = λ text follows. rw c.if-byte-eq13.true (last_line text follows)

pub returns-then-is_header_name_token : goal.returns-then-is_header_name_token
returns-then-is_header_name_token c =
    λ text follows. field_first c.args.byte text (sym c.is_header_name_token.ensures ∙ c.if-is_header_name_token.true) follows
