use Rattle.std.proofs.Common.{◌∙◌, ap}
use Rattle.std.proofs.lemmas.Result.{IfOk-weaker}
use Rattle.gated.specs.Opening.{seconds_shown}
use Rattle.gated.proofs.opening.seconds_text.Goals as goal

pub returns : goal.returns
returns c = IfOk-weaker c.format.result _ _ (λ text is. is ∙ ap seconds_shown c.as_nanos-nanoseconds.ensures) c.format.ensures.ok
