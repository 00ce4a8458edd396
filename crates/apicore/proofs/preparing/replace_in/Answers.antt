use Rattle.std.proofs.Common.{◌∙◌, sym}
use Rattle.std.proofs.lemmas.Result.{IfOk-from_err}
use Rattle.requests.specs.Request.{replace}
use Rattle.decoded.proofs.Over.{over_kept}
use Rattle.apicore.proofs.Looking.{looked_on, looked_after}
use Rattle.apicore.proofs.Own.{replace_missing}
use Rattle.apicore.proofs.Deciding.{refused_own}
use Rattle.apicore.proofs.Faults.{same_fault}
use Rattle.apicore.proofs.preparing.replace_in.Goals as goal

pub returns-in-Some-clause-step : goal.returns-in-Some-clause-step
returns-in-Some-clause-step g c = λ s is held v over inside.
    let found = sym (rw c.key.ensures at c.in_ok-found.ensures.found over.base held over.below over.shows) ∙ c.in-Some.is in
    c.replace_of.ensures.step s is held v (over_kept _ _ c.args.core.now held v c.in_ok-found.ensures.kept over) inside found

pub returns-in-None-clause-step : goal.returns-in-None-clause-step
returns-in-None-clause-step g c = λ s is held v over inside.
    let none = sym (rw c.key.ensures at c.in_ok-found.ensures.found over.base held over.below over.shows) ∙ c.in-None.is in
    refused_own c.args.core.now.rules held v (replace c.args.placed.now.manifest.now) s c.refused.result _
    (replace_missing c.args.core.now.rules held c.args.placed.now.manifest.now v over.plans inside.placed s none) c.refused.ensures.step

pub returns-in_err-found-clause-step : goal.returns-in_err-found-clause-step
returns-in_err-found-clause-step g c = λ s is held v over inside. IfOk-from_err c.from_residual.result _ c.from_residual.ensures.0

pub returns-in-Some-clause-looked : goal.returns-in-Some-clause-looked
returns-in-Some-clause-looked g c =
    looked_on g.S.Source.holds g.S.Source.goes_to g.S.Source.failures g.S.Source.unfailed c.args.core.now c.args.source.now c.find.new.source c.replace_of.new.source c.replace_of.result
    c.in_ok-found.ensures.kept c.in_ok-found.ensures.counts
    (g.met.S.Source.unfailed_on c.args.source.now c.find.new.source c.replace_of.new.source c.in_ok-found.ensures.steady)
    (g.met.S.Source.goes_on c.args.source.now c.find.new.source c.replace_of.new.source c.in_ok-found.ensures.goes c.replace_of.ensures.looked.goes) c.replace_of.ensures.looked

pub returns-in-None-clause-looked : goal.returns-in-None-clause-looked
returns-in-None-clause-looked g c =
    looked_after g.S.Source.holds g.S.Source.goes_to g.S.Source.failures g.S.Source.unfailed c.args.core.now c.args.source.now c.find.new.source c.refused.result
    c.in_ok-found.ensures.kept c.in_ok-found.ensures.goes c.in_ok-found.ensures.counts c.in_ok-found.ensures.steady c.refused.ensures.memory

pub returns-in_err-found-clause-looked : goal.returns-in_err-found-clause-looked
returns-in_err-found-clause-looked g c =
    let look = c.find.ensures in
    record {
      kept = look.kept;
      goes = look.goes;
      counts = look.counts;
      steady = IfOk-from_err c.from_residual.result _ c.from_residual.ensures.0;
      device = λ told. look.device (same_fault c.from_residual.ensures.1 c.in_err-found.was told);
      memory = λ told. look.memory (same_fault c.from_residual.ensures.1 c.in_err-found.was told);
      damaged = λ part told held v over.
          g.met.S.Source.holds_nothing c.find.new.source over.base (look.kept over.base over.below)
          (look.damaged part (same_fault c.from_residual.ensures.1 c.in_err-found.was told));
    }

pub returns-in_err-found-clause-ready : goal.returns-in_err-found-clause-ready
returns-in_err-found-clause-ready g c = IfOk-from_err c.from_residual.result _ c.from_residual.ensures.0

pub returns-in-Some-clause-same : goal.returns-in-Some-clause-same
returns-in-Some-clause-same g c = c.replace_of.ensures.same

pub returns-in-Some-clause-ready : goal.returns-in-Some-clause-ready
returns-in-Some-clause-ready g c = c.replace_of.ensures.ready
