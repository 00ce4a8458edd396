use Rattle.std.proofs.Common.{◌∙◌, sym, option_map, string_bytes}
use Rattle.requests.specs.Request.{delete}
use Rattle.expressions.specs.Specification.{bad_spec}
use Rattle.decoded.proofs.Over.{over_kept}
use Rattle.apicore.proofs.Looking.{looked_on, looked_after}
use Rattle.apicore.proofs.Own.{delete_missing}
use Rattle.apicore.proofs.Deciding.{refused_own, prepared_of}
use Rattle.apicore.proofs.preparing.prepare_delete.Goals as goal

pub returns-in-Some-clause-step : goal.returns-in-Some-clause-step
returns-in-Some-clause-step g c =
    prepared_of _ c.args.core.now (delete c.args.key.now (option_map string_bytes c.args.version.now)) bad_spec tt c.delete_found.result
    (λ held v over.
    let found = sym (c.in_ok-found.ensures.found over.base held over.below over.shows) ∙ c.in-Some.is in
    c.delete_found.ensures.step held v (over_kept _ _ c.args.core.now held v c.in_ok-found.ensures.kept over) found bad_spec)

pub returns-in-None-clause-step : goal.returns-in-None-clause-step
returns-in-None-clause-step g c =
    let asked = option_map string_bytes c.args.version.now in
    prepared_of _ c.args.core.now (delete c.args.key.now asked) bad_spec tt c.refused.result
    (λ held v over.
    let none = sym (c.in_ok-found.ensures.found over.base held over.below over.shows) ∙ c.in-None.is in
    refused_own c.args.core.now.rules held v (delete c.args.key.now asked) bad_spec c.refused.result _
    (delete_missing c.args.core.now.rules held c.args.key.now asked v over.plans bad_spec none) c.refused.ensures.step)

pub returns-in-Some-clause-looked : goal.returns-in-Some-clause-looked
returns-in-Some-clause-looked g c =
    looked_on g.S.Source.holds g.S.Source.goes_to g.S.Source.failures g.S.Source.unfailed c.args.core.now c.args.source.now c.find.new.source c.delete_found.new.source c.delete_found.result
    c.in_ok-found.ensures.kept c.in_ok-found.ensures.counts
    (g.met.S.Source.unfailed_on c.args.source.now c.find.new.source c.delete_found.new.source c.in_ok-found.ensures.steady)
    (g.met.S.Source.goes_on c.args.source.now c.find.new.source c.delete_found.new.source c.in_ok-found.ensures.goes c.delete_found.ensures.looked.goes) c.delete_found.ensures.looked

pub returns-in-None-clause-looked : goal.returns-in-None-clause-looked
returns-in-None-clause-looked g c =
    looked_after g.S.Source.holds g.S.Source.goes_to g.S.Source.failures g.S.Source.unfailed c.args.core.now c.args.source.now c.find.new.source c.refused.result
    c.in_ok-found.ensures.kept c.in_ok-found.ensures.goes c.in_ok-found.ensures.counts c.in_ok-found.ensures.steady c.refused.ensures.memory
