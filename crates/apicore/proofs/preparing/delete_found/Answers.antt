use Rattle.std.proofs.Common.{◌∙◌, sym, refl, true, false, option_map, string_bytes}
use Rattle.std.proofs.lemmas.Result.{IfOk-from_err}
use Rattle.histories.specs.View.{is_exhausted}
use Rattle.requests.specs.Request.{delete}
use Rattle.requests.specs.declared.refusal.Refusal.TheVariants as refusal
use Rattle.apicore.specs.Conditions.{known}
use Rattle.apicore.specs.Namespaces.{is_in_use}
use Rattle.apicore.proofs.Looking.{looked_not, looked_after, looked_as, looked_on}
use Rattle.decoded.proofs.Over.{over_kept}
use Rattle.apicore.proofs.Found.{delete_found}
use Rattle.apicore.proofs.Own.{deleted}
use Rattle.apicore.proofs.Deciding.{refused_own, refused_ready, as_it_was}
use Rattle.apicore.proofs.Faults.{only_memory, same_fault}
use Rattle.apicore.proofs.preparing.delete_found.Goals as goal

pub returns-in_err-deletion_conflicts : goal.returns-in_err-deletion_conflicts
returns-in_err-deletion_conflicts g c =
    let core = c.args.core.now in
    let source = c.args.source.now in
    let handed = c.from_residual in
    record {
      same = as_it_was core;
      step = λ held v over found s. IfOk-from_err handed.result _ handed.ensures.0;
      ready = IfOk-from_err handed.result _ handed.ensures.0;
      looked = looked_not g.S.Source.holds g.S.Source.goes_to g.S.Source.failures g.S.Source.unfailed core source handed.result (g.met.S.Source.stays source) (g.met.S.Source.unfailed_itself source) (only_memory handed.result handed.ensures.1);
    }

pub returns-then-branch : goal.returns-then-branch
returns-then-branch g c =
    let core = c.args.core.now in
    let source = c.args.source.now in
    let key = c.args.asked.now.key.now in
    let asked = option_map string_bytes c.args.asked.now.version.now in
    record {
      same = as_it_was core;
      step = λ held v over found s.
          refused_own core.rules held v (delete key asked) s c.refused.result _
          (deleted core.rules held key asked v over.plans
          (delete_found held key c.args.found found core.rules asked true (is_in_use held key) (is_exhausted core.rules held) (sym c.in_ok-deletion_conflicts.ensures ∙ c.if-branch.true) refl refl) s)
          c.refused.ensures.step;
      ready = refused_ready core (known refusal.VersionNotCurrent) c.refused.result c.refused.ensures.step;
      looked = looked_not g.S.Source.holds g.S.Source.goes_to g.S.Source.failures g.S.Source.unfailed core source c.refused.result (g.met.S.Source.stays source) (g.met.S.Source.unfailed_itself source) c.refused.ensures.memory;
    }

pub returns-in_err-is_in_use : goal.returns-in_err-is_in_use
returns-in_err-is_in_use g c =
    let core = c.args.core.now in
    let handed = c.from_residual-in_err-is_in_use in
    record {
      same = as_it_was core;
      step = λ held v over found s. IfOk-from_err handed.result _ handed.ensures.0;
      ready = IfOk-from_err handed.result _ handed.ensures.0;
      looked =
          looked_as g.S.Source.holds g.S.Source.goes_to g.S.Source.failures g.S.Source.unfailed core c.args.source.now c.is_in_use.new.source c.is_in_use.result handed.result
          (λ fault told. same_fault handed.ensures.1 c.in_err-is_in_use.was told) (IfOk-from_err handed.result _ handed.ensures.0) c.is_in_use.ensures.looked;
    }

pub returns-then-is_in_use : goal.returns-then-is_in_use
returns-then-is_in_use g c =
    let core = c.args.core.now in
    let key = c.args.asked.now.key.now in
    let asked = option_map string_bytes c.args.asked.now.version.now in
    let refused = c.refused-then-is_in_use in
    let looked = c.in_ok-is_in_use.ensures.looked in
    record {
      same = as_it_was core;
      step = λ held v over found s.
          refused_own core.rules held v (delete key asked) s refused.result _
          (deleted core.rules held key asked v over.plans
          (delete_found held key c.args.found found core.rules asked false true (is_exhausted core.rules held) (sym c.in_ok-deletion_conflicts.ensures ∙ c.if-branch.false)
          (sym (c.in_ok-is_in_use.ensures.used held v over) ∙ c.if-is_in_use.true) refl) s)
          refused.ensures.step;
      ready = refused_ready core (known refusal.NamespaceNotEmpty) refused.result refused.ensures.step;
      looked = looked_after g.S.Source.holds g.S.Source.goes_to g.S.Source.failures g.S.Source.unfailed core c.args.source.now c.is_in_use.new.source refused.result looked.kept looked.goes looked.counts looked.steady refused.ensures.memory;
    }

pub returns-then-is_exhausted : goal.returns-then-is_exhausted
returns-then-is_exhausted g c =
    let core = c.args.core.now in
    let key = c.args.asked.now.key.now in
    let asked = option_map string_bytes c.args.asked.now.version.now in
    let refused = c.refused-then-is_exhausted in
    let looked = c.in_ok-is_in_use.ensures.looked in
    record {
      same = as_it_was core;
      step = λ held v over found s.
          refused_own core.rules held v (delete key asked) s refused.result _
          (deleted core.rules held key asked v over.plans
          (delete_found held key c.args.found found core.rules asked false false true (sym c.in_ok-deletion_conflicts.ensures ∙ c.if-branch.false)
          (sym (c.in_ok-is_in_use.ensures.used held v over) ∙ c.if-is_in_use.false)
          (sym (c.is_exhausted.ensures.shown over.base held over.shows) ∙ c.if-is_exhausted.true)) s)
          refused.ensures.step;
      ready = refused_ready core (known refusal.RevisionExhausted) refused.result refused.ensures.step;
      looked = looked_after g.S.Source.holds g.S.Source.goes_to g.S.Source.failures g.S.Source.unfailed core c.args.source.now c.is_in_use.new.source refused.result looked.kept looked.goes looked.counts looked.steady refused.ensures.memory;
    }

pub returns : goal.returns
returns g c =
    let core = c.args.core.now in
    let rest = c.delete_there.ensures in
    let looked = c.in_ok-is_in_use.ensures.looked in
    record {
      same = rest.same;
      step = λ held v over found s.
          rest.step held v (over_kept _ _ core held v looked.kept over) found (sym (c.in_ok-is_in_use.ensures.used held v over) ∙ c.if-is_in_use.false) s;
      ready = rest.ready;
      looked =
          looked_on g.S.Source.holds g.S.Source.goes_to g.S.Source.failures g.S.Source.unfailed core c.args.source.now c.is_in_use.new.source c.delete_there.new.source c.delete_there.result
          looked.kept looked.counts
          (g.met.S.Source.unfailed_on c.args.source.now c.is_in_use.new.source c.delete_there.new.source looked.steady)
          (g.met.S.Source.goes_on c.args.source.now c.is_in_use.new.source c.delete_there.new.source looked.goes rest.looked.goes) rest.looked;
    }
