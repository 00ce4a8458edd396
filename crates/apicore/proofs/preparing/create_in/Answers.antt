use Rattle.std.proofs.Common.{◌∙◌, sym}
use Rattle.std.proofs.lemmas.Result.{IfOk-from_err}
use Rattle.requests.specs.Request.{create}
use Rattle.decoded.proofs.Over.{over_kept}
use Rattle.apicore.proofs.Looking.{looked_on, looked_after}
use Rattle.apicore.proofs.Found.{there_found, none_found}
use Rattle.apicore.proofs.Own.{create_there}
use Rattle.apicore.proofs.Deciding.{refused_own}
use Rattle.apicore.proofs.Faults.{same_fault}
use Rattle.apicore.proofs.preparing.create_in.Goals as goal

pub returns-in-Some-clause-step : goal.returns-in-Some-clause-step
returns-in-Some-clause-step g c = λ s is held v over inside.
    let found = sym (rw c.key.ensures at c.in_ok-find.ensures.found over.base held over.below over.shows) ∙ c.in-Some.is in
    refused_own c.args.core.now.rules held v (create c.args.placed.now.manifest.now) s c.refused.result _
    (create_there c.args.core.now.rules held c.args.placed.now.manifest.now v over.plans inside.placed s (there_found _ _ found)) c.refused.ensures.step

pub returns-in-None-clause-step : goal.returns-in-None-clause-step
returns-in-None-clause-step g c = λ s is held v over inside.
    let none = sym (rw c.key.ensures at c.in_ok-find.ensures.found over.base held over.below over.shows) ∙ c.in-None.is in
    c.create_free.ensures.step s is held v (over_kept _ _ c.args.core.now held v c.in_ok-find.ensures.kept over) inside (none_found _ none)

pub returns-in_err-find-clause-step : goal.returns-in_err-find-clause-step
returns-in_err-find-clause-step g c = λ s is held v over inside. IfOk-from_err c.from_residual.result _ c.from_residual.ensures.0

pub returns-in-None-clause-looked : goal.returns-in-None-clause-looked
returns-in-None-clause-looked g c =
    looked_on g.S.Source.holds g.S.Source.goes_to g.S.Source.failures g.S.Source.unfailed c.args.core.now c.args.source.now c.find.new.source c.create_free.new.source c.create_free.result
    c.in_ok-find.ensures.kept c.in_ok-find.ensures.counts
    (g.met.S.Source.unfailed_on c.args.source.now c.find.new.source c.create_free.new.source c.in_ok-find.ensures.steady)
    (g.met.S.Source.goes_on c.args.source.now c.find.new.source c.create_free.new.source c.in_ok-find.ensures.goes c.create_free.ensures.looked.goes) c.create_free.ensures.looked

pub returns-in-Some-clause-looked : goal.returns-in-Some-clause-looked
returns-in-Some-clause-looked g c =
    looked_after g.S.Source.holds g.S.Source.goes_to g.S.Source.failures g.S.Source.unfailed c.args.core.now c.args.source.now c.find.new.source c.refused.result
    c.in_ok-find.ensures.kept c.in_ok-find.ensures.goes c.in_ok-find.ensures.counts c.in_ok-find.ensures.steady c.refused.ensures.memory

pub returns-in_err-find-clause-looked : goal.returns-in_err-find-clause-looked
returns-in_err-find-clause-looked g c =
    let look = c.find.ensures in
    record {
      kept = look.kept;
      goes = look.goes;
      counts = look.counts;
      steady = IfOk-from_err c.from_residual.result _ c.from_residual.ensures.0;
      device = λ told. look.device (same_fault c.from_residual.ensures.1 c.in_err-find.was told);
      memory = λ told. look.memory (same_fault c.from_residual.ensures.1 c.in_err-find.was told);
      damaged = λ part told held v over.
          g.met.S.Source.holds_nothing c.find.new.source over.base (look.kept over.base over.below)
          (look.damaged part (same_fault c.from_residual.ensures.1 c.in_err-find.was told));
    }

pub returns-in_err-find-clause-ready : goal.returns-in_err-find-clause-ready
returns-in_err-find-clause-ready g c = IfOk-from_err c.from_residual.result _ c.from_residual.ensures.0

pub returns-in-None-clause-same : goal.returns-in-None-clause-same
returns-in-None-clause-same g c = c.create_free.ensures.same

pub returns-in-None-clause-ready : goal.returns-in-None-clause-ready
returns-in-None-clause-ready g c = c.create_free.ensures.ready
