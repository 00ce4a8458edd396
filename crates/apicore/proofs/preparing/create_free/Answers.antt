use Rattle.std.proofs.Common.{◌∙◌, sym, ap, is_some, IfOk, string_bytes}
use Rattle.requests.specs.Codes.{document_in}
use Rattle.requests.specs.Request.{create}
use Rattle.expressions.specs.Specification.{specification_seen, bad_spec, bad_expression}
use Rattle.apicore.proofs.Looking.{looked_not}
use Rattle.apicore.proofs.Own.{create_bad_spec, create_bad_expression}
use Rattle.apicore.proofs.Read.{sound_found, bad_spec_found, bad_expression_found}
use Rattle.apicore.specs.Prepared.{IsStepOf}
use Rattle.apicore.proofs.Deciding.{refused_own}
use Rattle.apicore.proofs.preparing.create_free.Goals as goal

pub returns-in-Sound-clause-step : goal.returns-in-Sound-clause-step
returns-in-Sound-clause-step g c = λ s is held v over inside none.
    sound_found (λ x. IfOk c.create_sound.result (IsStepOf c.args.core.now.rules held v (record { request = create c.args.placed.now.manifest.now; specification = x }))) (document_in c.args.placed.now.manifest.now.body) c.in-Sound.plans.items s (sym (ap specification_seen c.in-Sound.is) ∙ is)
    (λ trees same. c.create_sound.ensures.step trees same held v over inside none)

pub returns-in-BadSpec-clause-step : goal.returns-in-BadSpec-clause-step
returns-in-BadSpec-clause-step g c = λ s is held v over inside none.
    bad_spec_found (λ x. IfOk c.refused.result (IsStepOf c.args.core.now.rules held v (record { request = create c.args.placed.now.manifest.now; specification = x }))) (document_in c.args.placed.now.manifest.now.body) s (sym (ap specification_seen c.in-BadSpec.is) ∙ is)
    (refused_own c.args.core.now.rules held v (create c.args.placed.now.manifest.now) bad_spec c.refused.result _
    (create_bad_spec c.args.core.now.rules held c.args.placed.now.manifest.now v over.plans inside.placed (ap is_some none)) c.refused.ensures.step)

pub returns-in-BadExpression-clause-step : goal.returns-in-BadExpression-clause-step
returns-in-BadExpression-clause-step g c = λ s is held v over inside none.
    let text = string_bytes c.in-BadExpression.text in
    bad_expression_found (λ x. IfOk c.bad_expression.result (IsStepOf c.args.core.now.rules held v (record { request = create c.args.placed.now.manifest.now; specification = x }))) (document_in c.args.placed.now.manifest.now.body) text s (sym (ap specification_seen c.in-BadExpression.is) ∙ is)
    (refused_own c.args.core.now.rules held v (create c.args.placed.now.manifest.now) (bad_expression text) c.bad_expression.result _
    (create_bad_expression c.args.core.now.rules held c.args.placed.now.manifest.now v over.plans inside.placed text (ap is_some none))
    (rw c.as_str.ensures.value at c.bad_expression.ensures.step))

pub returns-in-BadSpec-clause-looked : goal.returns-in-BadSpec-clause-looked
returns-in-BadSpec-clause-looked g c =
    looked_not g.S.Source.holds g.S.Source.goes_to g.S.Source.failures g.S.Source.unfailed c.args.core.now c.args.source.now c.refused.result (g.met.S.Source.stays c.args.source.now) (g.met.S.Source.unfailed_itself c.args.source.now) c.refused.ensures.memory

pub returns-in-BadExpression-clause-looked : goal.returns-in-BadExpression-clause-looked
returns-in-BadExpression-clause-looked g c =
    looked_not g.S.Source.holds g.S.Source.goes_to g.S.Source.failures g.S.Source.unfailed c.args.core.now c.args.source.now c.bad_expression.result (g.met.S.Source.stays c.args.source.now) (g.met.S.Source.unfailed_itself c.args.source.now) c.bad_expression.ensures.memory
