use Rattle.std.proofs.Common.{rules, ◌∙◌, ap}
use Rattle.std.proofs.lemmas.Result.{IfOk-from_err}
use Rattle.apicore.proofs.Looking.{looked_as}
use Rattle.apicore.proofs.Deciding.{get_prepared}
use Rattle.apicore.proofs.reading.get.Goals as goal

pub returns-clause-step : goal.returns-clause-step
returns-clause-step g c =
    get_prepared _ c.args.core.now c.args.key.now _ (λ held v over. ap (λ p. p.reply) c.replying.ensures ∙ c.in_ok-shown.ensures.reply held v over) (ap (λ p. p.write) c.replying.ensures)

pub returns-in_err-shown-clause-looked : goal.returns-in_err-shown-clause-looked
returns-in_err-shown-clause-looked g c =
    looked_as g.S.Source.holds g.S.Source.goes_to g.S.Source.failures g.S.Source.unfailed c.args.core.now c.args.source.now c.shown.new.source c.shown.result _ (λ fault told. search rules)
    (IfOk-from_err c.from_residual.result _ c.from_residual.ensures.0) c.shown.ensures.looked
