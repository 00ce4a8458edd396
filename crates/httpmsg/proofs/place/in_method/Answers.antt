use Rattle.std.proofs.Common.{sym, ◌∙◌}
use Rattle.httpmsg.specs.Place.{IsTokenByte, IsTargetByte, IsTarget, IsAfter}
use Rattle.httpmsg.proofs.Places.{word_more, word_stop}
use Rattle.httpmsg.proofs.place.in_method.Goals as goal

pub returns-then-byte-eq32 : goal.returns-then-byte-eq32
returns-then-byte-eq32 c = λ text follows. rw c.if-byte-eq32.true (word_stop IsTokenByte 32 (IsAfter IsTargetByte IsTarget) text follows)

pub returns-then-is_method_token : goal.returns-then-is_method_token
returns-then-is_method_token c = λ text follows.
    word_more IsTokenByte 32 (IsAfter IsTargetByte IsTarget) c.args.byte text (sym c.is_method_token.ensures ∙ c.if-is_method_token.true) follows
