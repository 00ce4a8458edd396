use Rattle.std.proofs.Common.{sym, ◌∙◌}
use Rattle.httpmsg.specs.Place.{IsTokenByte, IsValue}
use Rattle.httpmsg.proofs.Places.{word_more, word_stop}
use Rattle.httpmsg.proofs.place.in_name.Goals as goal

pub returns-then-byte-eq58 : goal.returns-then-byte-eq58
returns-then-byte-eq58 c = λ text follows. rw c.if-byte-eq58.true (word_stop IsTokenByte 58 IsValue text follows)

pub returns-then-is_header_name_token : goal.returns-then-is_header_name_token
returns-then-is_header_name_token c = λ text follows.
    word_more IsTokenByte 58 IsValue c.args.byte text (sym c.is_header_name_token.ensures ∙ c.if-is_header_name_token.true) follows
