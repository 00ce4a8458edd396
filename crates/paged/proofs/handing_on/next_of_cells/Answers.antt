use Rattle.std.proofs.Common.{◌∙◌, ap}
use Rattle.std.proofs.lemmas.Result.{IfOk-from_err}
use Rattle.names.specs.declared.format.Rules.{Rules}
use Rattle.objects.specs.declared.fault.LookupFault.TheVariants as LookupFault
use Rattle.checkpoint.proofs.Faults.{no_fault}
use Rattle.chunks.specs.Chunks.{cut}
use Rattle.snapshots.specs.Keeping.{held_entries}
use Rattle.apicore.proofs.Faults.{same_fault}
use Rattle.paged.proofs.Going.{no_want}
use Rattle.paged.proofs.Owning.{lie_without_plans}
use Rattle.paged.proofs.handing_on.next_of_cells.Goals as goal

pub returns-in_err-apart : goal.returns-in_err-apart
returns-in_err-apart c =
    let handed = c.from_residual in
    record {
      entries = λ base held cells all shows. IfOk-from_err handed.result _ handed.ensures.0;
      rules = IfOk-from_err handed.result _ handed.ensures.0;
      held = λ base held all shows is. IfOk-from_err handed.result _ handed.ensures.0;
      damaged = λ part told base held all shows is. no_want handed.result handed.ensures.1 (LookupFault.Damaged part) (λ is. cc) told;
      device = λ told. no_want handed.result handed.ensures.1 LookupFault.Device (λ is. cc) told;
    }

pub returns-in_err-entries : goal.returns-in_err-entries
returns-in_err-entries c =
    let handed = c.from_residual-in_err-entries in
    record {
      entries = λ base held cells all shows. IfOk-from_err handed.result _ handed.ensures.0;
      rules = IfOk-from_err handed.result _ handed.ensures.0;
      held = λ base held all shows is. IfOk-from_err handed.result _ handed.ensures.0;
      damaged = λ part told base held all shows is. no_want handed.result handed.ensures.1 (LookupFault.Damaged part) (λ is. cc) told;
      device = λ told. no_want handed.result handed.ensures.1 LookupFault.Device (λ is. cc) told;
    }

pub returns-in_err-core : goal.returns-in_err-core
returns-in_err-core c =
    let handed = c.from_residual-in_err-core in
    let was = c.in_err-core.was in
    record {
      entries = λ base held cells all shows. IfOk-from_err handed.result _ handed.ensures.0;
      rules = IfOk-from_err handed.result _ handed.ensures.0;
      held = λ base held all shows is. IfOk-from_err handed.result _ handed.ensures.0;
      damaged = λ part told base held all shows is.
          c.renewed_over.ensures.damaged part (same_fault handed.ensures.1 was told) base held shows (c.in_ok-apart.ensures base held all shows) is;
      device = λ told. c.renewed_over.ensures.device (same_fault handed.ensures.1 was told);
    }

pub returns : goal.returns
returns c = record {
  entries = λ base held cells all shows.
      c.in_ok-entries.ensures base held lie_without_plans cells shows (c.in_ok-apart.ensures base held all shows)
      ∙ ap (λ (r : Rules). cut r.format (held_entries held)) c.rules-format.ensures;
  rules = c.in_ok-core.ensures.rules;
  held = λ base held all shows is. c.in_ok-core.ensures.held base held shows (c.in_ok-apart.ensures base held all shows) is;
  damaged = λ part told. absurd (no_fault told);
  device = λ told. no_fault told;
}
