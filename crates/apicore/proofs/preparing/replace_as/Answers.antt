use Rattle.std.proofs.Common.{◌∙◌, sym, ap, false, IfOk, string_bytes}
use Rattle.requests.specs.Codes.{document_in}
use Rattle.requests.specs.Request.{replace}
use Rattle.expressions.specs.Specification.{specification_seen, bad_spec, bad_expression}
use Rattle.apicore.proofs.Looking.{looked_not}
use Rattle.apicore.proofs.Found.{replace_found}
use Rattle.apicore.proofs.Own.{replace_bad_spec, replace_bad_expression}
use Rattle.apicore.proofs.Read.{sound_found, bad_spec_found, bad_expression_found}
use Rattle.apicore.specs.Prepared.{IsStepOf}
use Rattle.apicore.proofs.Deciding.{refused_own}
use Rattle.apicore.proofs.preparing.replace_as.Goals as goal

pub returns-in-Sound-clause-step : goal.returns-in-Sound-clause-step
returns-in-Sound-clause-step g c = λ s is held v over inside found.
    sound_found (λ x. IfOk c.replace_sound.result (IsStepOf c.args.core.now.rules held v (record { request = replace c.args.replacement.now.placed.now.manifest.now; specification = x }))) (document_in c.args.replacement.now.placed.now.manifest.now.body) c.in-Sound.plans.items s (sym (ap specification_seen c.in-Sound.is) ∙ is)
    (λ trees same. c.replace_sound.ensures.step trees same held v over inside found)

pub returns-in-BadSpec-clause-step : goal.returns-in-BadSpec-clause-step
returns-in-BadSpec-clause-step g c = λ s is held v over inside found.
    let m = c.args.replacement.now.placed.now.manifest.now in
    bad_spec_found (λ x. IfOk c.refused.result (IsStepOf c.args.core.now.rules held v (record { request = replace m; specification = x }))) (document_in m.body) s (sym (ap specification_seen c.in-BadSpec.is) ∙ is)
    (refused_own c.args.core.now.rules held v (replace m) bad_spec c.refused.result _
    (replace_bad_spec c.args.core.now.rules held m v over.plans inside.placed (replace_found held m.key c.args.replacement.now.found.now found m.version false c.requires.conflicts)) c.refused.ensures.step)

pub returns-in-BadExpression-clause-step : goal.returns-in-BadExpression-clause-step
returns-in-BadExpression-clause-step g c = λ s is held v over inside found.
    let m = c.args.replacement.now.placed.now.manifest.now in
    let text = string_bytes c.in-BadExpression.text in
    bad_expression_found (λ x. IfOk c.bad_expression.result (IsStepOf c.args.core.now.rules held v (record { request = replace m; specification = x }))) (document_in m.body) text s (sym (ap specification_seen c.in-BadExpression.is) ∙ is)
    (refused_own c.args.core.now.rules held v (replace m) (bad_expression text) c.bad_expression.result _
    (replace_bad_expression c.args.core.now.rules held m v over.plans inside.placed text (replace_found held m.key c.args.replacement.now.found.now found m.version false c.requires.conflicts))
    (rw c.as_str.ensures.value at c.bad_expression.ensures.step))

pub returns-in-BadSpec-clause-looked : goal.returns-in-BadSpec-clause-looked
returns-in-BadSpec-clause-looked g c =
    looked_not g.S.Source.holds g.S.Source.goes_to g.S.Source.failures g.S.Source.unfailed c.args.core.now c.args.source.now c.refused.result (g.met.S.Source.stays c.args.source.now) (g.met.S.Source.unfailed_itself c.args.source.now) c.refused.ensures.memory

pub returns-in-BadExpression-clause-looked : goal.returns-in-BadExpression-clause-looked
returns-in-BadExpression-clause-looked g c =
    looked_not g.S.Source.holds g.S.Source.goes_to g.S.Source.failures g.S.Source.unfailed c.args.core.now c.args.source.now c.bad_expression.result (g.met.S.Source.stays c.args.source.now) (g.met.S.Source.unfailed_itself c.args.source.now) c.bad_expression.ensures.memory
