use Rattle.std.proofs.Common.{refl, ◌≡◌}
use Rattle.std.proofs.lemmas.Result.{IfOk-from_err}
use Rattle.device.specs.Step.{Same}
use Rattle.device.proofs.Runs.{not_yet}
use Rattle.checkpoint.specs.declared.scanning.ScanFault.TheVariants as ScanFault
use Rattle.checkpoint.proofs.Faults.{err_is, was_err, no_fault}
use Rattle.checkpoint.proofs.scanning.scan.Goals as goal

pub returns-in_err-buffer-clause-told : goal.returns-in_err-buffer-clause-told
returns-in_err-buffer-clause-told g c keeps = IfOk-from_err c.from_residual.result _ c.from_residual.ensures.0

pub returns-in_err-buffer-clause-index : goal.returns-in_err-buffer-clause-index
returns-in_err-buffer-clause-index g c keeps = IfOk-from_err c.from_residual.result _ c.from_residual.ensures.0

pub returns-in_err-buffer-clause-whole : goal.returns-in_err-buffer-clause-whole
returns-in_err-buffer-clause-whole g c keeps = IfOk-from_err c.from_residual.result _ c.from_residual.ensures.0

pub returns-in_err-buffer-clause-page : goal.returns-in_err-buffer-clause-page
returns-in_err-buffer-clause-page g c keeps told holds =
    let is : ScanFault.Page ≡ ScanFault.Memory = err_is c.from_residual.result _ ScanFault.Page c.from_residual.ensures.1 told in
    absurd cc

pub returns-in_err-buffer-clause-entry : goal.returns-in_err-buffer-clause-entry
returns-in_err-buffer-clause-entry g c keeps told =
    let is : ScanFault.Entry ≡ ScanFault.Memory = err_is c.from_residual.result _ ScanFault.Entry c.from_residual.ensures.1 told in
    absurd cc

pub returns-in_err-buffer-clause-refused : goal.returns-in_err-buffer-clause-refused
returns-in_err-buffer-clause-refused g c keeps told =
    let is : ScanFault.Entry ≡ ScanFault.Memory = err_is c.from_residual.result _ ScanFault.Entry c.from_residual.ensures.1 told in
    absurd cc

pub returns-in_err-buffer-clause-cause : goal.returns-in_err-buffer-clause-cause
returns-in_err-buffer-clause-cause g c told =
    let is : ScanFault.Device ≡ ScanFault.Memory = err_is c.from_residual.result _ ScanFault.Device c.from_residual.ensures.1 told in
    absurd cc

pub returns-in_err-buffer-clause-no_pages : goal.returns-in_err-buffer-clause-no_pages
returns-in_err-buffer-clause-no_pages g c none = absurd (c.if-root-eq0.false none)

pub returns-in_err-take_pages-clause-told : goal.returns-in_err-take_pages-clause-told
returns-in_err-take_pages-clause-told g c keeps = IfOk-from_err c.from_residual-in_err-take_pages.result _ c.from_residual-in_err-take_pages.ensures.0

pub returns-in_err-take_pages-clause-index : goal.returns-in_err-take_pages-clause-index
returns-in_err-take_pages-clause-index g c keeps = IfOk-from_err c.from_residual-in_err-take_pages.result _ c.from_residual-in_err-take_pages.ensures.0

pub returns-in_err-take_pages-clause-whole : goal.returns-in_err-take_pages-clause-whole
returns-in_err-take_pages-clause-whole g c keeps = IfOk-from_err c.from_residual-in_err-take_pages.result _ c.from_residual-in_err-take_pages.ensures.0

pub returns-in_err-take_pages-clause-page : goal.returns-in_err-take_pages-clause-page
returns-in_err-take_pages-clause-page g c keeps told holds =
    c.take_pages.ensures.page keeps (was_err c.in_err-take_pages.was
    (err_is c.from_residual-in_err-take_pages.result _ ScanFault.Page c.from_residual-in_err-take_pages.ensures.1 told)) holds

pub returns-in_err-take_pages-clause-entry : goal.returns-in_err-take_pages-clause-entry
returns-in_err-take_pages-clause-entry g c keeps told =
    absurd (c.take_pages.ensures.refusal (was_err c.in_err-take_pages.was
    (err_is c.from_residual-in_err-take_pages.result _ ScanFault.Entry c.from_residual-in_err-take_pages.ensures.1 told)))

pub returns-in_err-take_pages-clause-refused : goal.returns-in_err-take_pages-clause-refused
returns-in_err-take_pages-clause-refused g c keeps told =
    absurd (c.take_pages.ensures.refusal (was_err c.in_err-take_pages.was
    (err_is c.from_residual-in_err-take_pages.result _ ScanFault.Entry c.from_residual-in_err-take_pages.ensures.1 told)))

pub returns-in_err-take_pages-clause-cause : goal.returns-in_err-take_pages-clause-cause
returns-in_err-take_pages-clause-cause g c told =
    c.take_pages.ensures.cause (was_err c.in_err-take_pages.was
    (err_is c.from_residual-in_err-take_pages.result _ ScanFault.Device c.from_residual-in_err-take_pages.ensures.1 told))

pub returns-in_err-take_pages-clause-no_pages : goal.returns-in_err-take_pages-clause-no_pages
returns-in_err-take_pages-clause-no_pages g c none = absurd (c.if-root-eq0.false none)

pub returns-then-root-eq0-clause-ran : goal.returns-then-root-eq0-clause-ran
returns-then-root-eq0-clause-ran g c =
    not_yet g.D.Device.disk c.args.device.now Same (λ x j. x) (λ keeps x since. g.met.D.Device.only_now c.args.device.now x keeps since)

pub returns-in_err-buffer-clause-ran : goal.returns-in_err-buffer-clause-ran
returns-in_err-buffer-clause-ran g c =
    not_yet g.D.Device.disk c.args.device.now Same (λ x j. x) (λ keeps x since. g.met.D.Device.only_now c.args.device.now x keeps since)

pub returns-in_err-take_pages-clause-ran : goal.returns-in_err-take_pages-clause-ran
returns-in_err-take_pages-clause-ran g c = c.take_pages.ensures.ran

pub returns-then-branch-clause-ran : goal.returns-then-branch-clause-ran
returns-then-branch-clause-ran g c = c.take_pages.ensures.ran

pub returns-clause-ran : goal.returns-clause-ran
returns-clause-ran g c = c.take_pages.ensures.ran

pub returns-then-root-eq0-clause-page : goal.returns-then-root-eq0-clause-page
returns-then-root-eq0-clause-page g c keeps told holds = no_fault told

pub returns-clause-page : goal.returns-clause-page
returns-clause-page g c keeps told holds = no_fault told

pub returns-then-root-eq0-clause-entry : goal.returns-then-root-eq0-clause-entry
returns-then-root-eq0-clause-entry g c keeps told = absurd (no_fault told)

pub returns-clause-entry : goal.returns-clause-entry
returns-clause-entry g c keeps told = absurd (no_fault told)

pub returns-then-root-eq0-clause-refused : goal.returns-then-root-eq0-clause-refused
returns-then-root-eq0-clause-refused g c keeps told = absurd (no_fault told)

pub returns-clause-refused : goal.returns-clause-refused
returns-clause-refused g c keeps told = absurd (no_fault told)

pub returns-then-root-eq0-clause-cause : goal.returns-then-root-eq0-clause-cause
returns-then-root-eq0-clause-cause g c told = absurd (no_fault told)

pub returns-clause-cause : goal.returns-clause-cause
returns-clause-cause g c told = absurd (no_fault told)

pub returns-clause-no_pages : goal.returns-clause-no_pages
returns-clause-no_pages g c none = absurd (c.if-root-eq0.false none)

pub returns-then-branch-clause-no_pages : goal.returns-then-branch-clause-no_pages
returns-then-branch-clause-no_pages g c none = absurd (c.if-root-eq0.false none)

pub returns-clause-whole : goal.returns-clause-whole
returns-clause-whole g c keeps = c.in_ok-take_pages.ensures.whole keeps

pub returns-then-branch-clause-entry : goal.returns-then-branch-clause-entry
returns-then-branch-clause-entry g c keeps told = c.in_ok-take_pages.ensures.whole keeps

pub returns-in_err-buffer-clause-steady : goal.returns-in_err-buffer-clause-steady
returns-in_err-buffer-clause-steady g c = IfOk-from_err c.from_residual.result _ c.from_residual.ensures.0

pub returns-in_err-take_pages-clause-steady : goal.returns-in_err-take_pages-clause-steady
returns-in_err-take_pages-clause-steady g c = IfOk-from_err c.from_residual-in_err-take_pages.result _ c.from_residual-in_err-take_pages.ensures.0

pub returns-clause-steady : goal.returns-clause-steady
returns-clause-steady g c = c.in_ok-take_pages.ensures.steady

pub returns-then-root-eq0-clause-unfailed : goal.returns-then-root-eq0-clause-unfailed
returns-then-root-eq0-clause-unfailed g c told = refl

pub returns-in_err-buffer-clause-unfailed : goal.returns-in_err-buffer-clause-unfailed
returns-in_err-buffer-clause-unfailed g c told = refl

pub returns-in_err-take_pages-clause-unfailed : goal.returns-in_err-take_pages-clause-unfailed
returns-in_err-take_pages-clause-unfailed g c told =
    c.take_pages.ensures.unfailed (was_err c.in_err-take_pages.was
    (err_is c.from_residual-in_err-take_pages.result _ ScanFault.Memory c.from_residual-in_err-take_pages.ensures.1 told))

pub returns-then-branch-clause-unfailed : goal.returns-then-branch-clause-unfailed
returns-then-branch-clause-unfailed g c told = c.in_ok-take_pages.ensures.steady

pub returns-clause-unfailed : goal.returns-clause-unfailed
returns-clause-unfailed g c told = c.in_ok-take_pages.ensures.steady
