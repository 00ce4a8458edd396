use Rattle.std.proofs.Common.{◌∙◌, sym}
use Rattle.std.proofs.lemmas.Result.{IfOk-from_err}
use Rattle.requests.specs.Request.{replace}
use Rattle.requests.specs.declared.refusal.Refusal.TheVariants as refusal
use Rattle.apicore.specs.Conditions.{known}
use Rattle.apicore.proofs.Looking.{looked_not}
use Rattle.apicore.proofs.Own.{replace_conflicting}
use Rattle.apicore.proofs.Deciding.{refused_own, refused_ready, as_it_was}
use Rattle.apicore.proofs.Faults.{only_memory}
use Rattle.apicore.proofs.preparing.replace_of.Goals as goal

pub returns-in_err-update_conflicts : goal.returns-in_err-update_conflicts
returns-in_err-update_conflicts g c =
    let core = c.args.core.now in
    let source = c.args.source.now in
    let handed = c.from_residual in
    record {
      same = as_it_was core;
      step = λ s is held v over inside found. IfOk-from_err handed.result _ handed.ensures.0;
      ready = IfOk-from_err handed.result _ handed.ensures.0;
      looked = looked_not g.S.Source.holds g.S.Source.goes_to g.S.Source.failures g.S.Source.unfailed core source handed.result (g.met.S.Source.stays source) (g.met.S.Source.unfailed_itself source) (only_memory handed.result handed.ensures.1);
    }

pub returns-then-branch : goal.returns-then-branch
returns-then-branch g c =
    let core = c.args.core.now in
    let source = c.args.source.now in
    record {
      same = as_it_was core;
      step = λ s is held v over inside found.
          refused_own core.rules held v (replace c.args.replacement.now.placed.now.manifest.now) s c.refused.result _
          (replace_conflicting core.rules held c.args.replacement.now.placed.now.manifest.now v over.plans inside.placed c.args.replacement.now.found.now found s (sym c.in_ok-update_conflicts.ensures ∙ c.if-branch.true)) c.refused.ensures.step;
      ready = refused_ready core (known refusal.VersionNotCurrent) c.refused.result c.refused.ensures.step;
      looked = looked_not g.S.Source.holds g.S.Source.goes_to g.S.Source.failures g.S.Source.unfailed core source c.refused.result (g.met.S.Source.stays source) (g.met.S.Source.unfailed_itself source) c.refused.ensures.memory;
    }

pub returns : goal.returns
returns g c =
    let rest = c.replace_as.ensures in
    record { same = rest.same; step = rest.step; ready = rest.ready; looked = rest.looked }
