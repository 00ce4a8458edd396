use Rattle.std.proofs.Common.{ap, ◌∙◌}
use Rattle.std.proofs.lemmas.Result.{IfOk-weaker}
use Rattle.clap.specs.Words.{App, app_of, with_subcommand}
use Rattle.gated.proofs.command.with_create.Goals as goal

pub returns : goal.returns
returns c =
    IfOk-weaker c.subcommand.result _ _ (λ r h. h.shape c.in_ok-subcommand.ensures.local
    ∙ ap (λ (a : App). with_subcommand (app_of c.args.command) a.top) c.in_ok-subcommand.ensures.app) c.subcommand.ensures
