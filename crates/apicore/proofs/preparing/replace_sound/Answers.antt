use Rattle.std.proofs.Common.{◌∙◌, sym, ap, false, option_map}
use Rattle.requests.specs.Request.{replace}
use Rattle.expressions.specs.Specification.{sound}
use Rattle.apicore.specs.Conditions.{known}
use Rattle.apicore.proofs.Looking.{looked_not}
use Rattle.apicore.proofs.Found.{replace_found}
use Rattle.apicore.proofs.Own.{replace_limited}
use Rattle.apicore.proofs.Deciding.{refused_own}
use Rattle.apicore.proofs.preparing.replace_sound.Goals as goal

pub returns-in-Some-clause-step : goal.returns-in-Some-clause-step
returns-in-Some-clause-step g c = λ trees same held v over inside found.
    let m = c.args.replacement.now.placed.now.manifest.now in
    refused_own c.args.core.now.rules held v (replace m) (sound trees) c.refused.result _
    (replace_limited c.args.core.now.rules held m v over.plans inside.placed trees c.in-Some.refusal (replace_found held m.key c.args.replacement.now.found.now found m.version false c.requires.conflicts)
    (sym (ap (option_map known) c.in-Some.is) ∙ c.replace_limit.ensures.shown over.base held over.shows)) c.refused.ensures.step

pub returns-in-None-clause-step : goal.returns-in-None-clause-step
returns-in-None-clause-step g c = λ trees same held v over inside found.
    c.replace_there.ensures.step trees same held v over inside found (sym (c.replace_limit.ensures.shown over.base held over.shows) ∙ ap (option_map known) c.in-None.is)

pub returns-in-Some-clause-looked : goal.returns-in-Some-clause-looked
returns-in-Some-clause-looked g c =
    looked_not g.S.Source.holds g.S.Source.goes_to g.S.Source.failures g.S.Source.unfailed c.args.core.now c.args.source.now c.refused.result (g.met.S.Source.stays c.args.source.now) (g.met.S.Source.unfailed_itself c.args.source.now) c.refused.ensures.memory
