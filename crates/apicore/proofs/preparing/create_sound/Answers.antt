use Rattle.std.proofs.Common.{◌∙◌, sym, ap, is_some, option_map}
use Rattle.requests.specs.Request.{create}
use Rattle.expressions.specs.Specification.{sound}
use Rattle.apicore.specs.Conditions.{known}
use Rattle.apicore.proofs.Looking.{looked_not}
use Rattle.apicore.proofs.Own.{create_limited}
use Rattle.apicore.proofs.Deciding.{refused_own, if_ok, create_judged}
use Rattle.apicore.proofs.preparing.create_sound.Goals as goal

pub returns-in-Some-clause-step : goal.returns-in-Some-clause-step
returns-in-Some-clause-step g c = λ trees same held v over inside none.
    refused_own c.args.core.now.rules held v (create c.args.placed.now.manifest.now) (sound trees) c.refused.result _
    (create_limited c.args.core.now.rules held c.args.placed.now.manifest.now v over.plans inside.placed trees c.in-Some.refusal (ap is_some none)
    (sym (ap (option_map known) c.in-Some.is) ∙ c.create_limit.ensures.shown over.base held over.shows)) c.refused.ensures.step

pub returns-in-None-clause-step : goal.returns-in-None-clause-step
returns-in-None-clause-step g c = λ trees same held v over inside none.
    if_ok c.judged_put.result _ _
    (λ p judged. create_judged c.args.core.now.rules held c.args.placed.now.manifest.now v over.plans p trees _ inside (ap is_some none)
    (sym (ap (option_map known) c.in-None.is) ∙ c.create_limit.ensures.shown over.base held over.shows) judged)
    (c.judged_put.ensures.judged held v trees over (sym (ap is_some none)) same)

pub returns-in-Some-clause-looked : goal.returns-in-Some-clause-looked
returns-in-Some-clause-looked g c =
    looked_not g.S.Source.holds g.S.Source.goes_to g.S.Source.failures g.S.Source.unfailed c.args.core.now c.args.source.now c.refused.result (g.met.S.Source.stays c.args.source.now) (g.met.S.Source.unfailed_itself c.args.source.now) c.refused.ensures.memory
