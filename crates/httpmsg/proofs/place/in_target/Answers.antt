use Rattle.std.proofs.Common.{sym, ◌∙◌}
use Rattle.httpmsg.specs.Place.{IsTargetByte, IsVersion}
use Rattle.httpmsg.proofs.Places.{word_more, word_stop}
use Rattle.httpmsg.proofs.place.in_target.Goals as goal

pub returns-then-byte-eq32 : goal.returns-then-byte-eq32
returns-then-byte-eq32 c = λ text follows. rw c.if-byte-eq32.true (word_stop IsTargetByte 32 (IsVersion 0) text follows)

pub returns-then-byte-lt128 : goal.returns-then-byte-lt128
returns-then-byte-lt128 c = λ text follows.
    word_more IsTargetByte 32 (IsVersion 0) c.args.byte text (sym c.is_uri_token.ensures ∙ c.if-is_uri_token.true, c.if-byte-lt128.true) follows
