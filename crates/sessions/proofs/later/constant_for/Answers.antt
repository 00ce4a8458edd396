use Rattle.std.proofs.Common.{◌∙◌, sym}
use Rattle.sessions.proofs.Asking.{if_some, constant_is}
use Rattle.sessions.proofs.later.constant_for.Goals as goal

pub returns : goal.returns
returns c = record {
  some = if_some c.constant_in.result _ _ (λ t is. constant_is c.args.format c.args.message.now t.now (sym is ∙ c.in_ok-reading.ensures.reading)) (c.constant_in.ensures.some c.args.message.now);
}
