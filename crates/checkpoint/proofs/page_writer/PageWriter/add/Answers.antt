use Rattle.std.proofs.Common.{rules, arith, refl, ◌≡◌, ◌∙◌, sym, ap, subst, ◌⊎◌, ◌+◌, ◌*◌, ◌<◌, ◌++◌, ◌∷◌, [], List, ℕ, IsTrue}
use Rattle.std.proofs.lemmas.Result.{IfOk-from_err}
use Rattle.std.specs.Prelude.{IsErrOf, OnErr}
use Rattle.std.specs.FinMap.{is_sorted}
use Rattle.device.specs.Step.{Torn}
use Rattle.device.proofs.Runs.{not_yet}
use Rattle.device.proofs.Steps.{torn_idle}
use Rattle.pages.specs.Page.{Entry, bytes_cmp, room_of}
use Rattle.checkpoint.specs.PageWriter.{IsFilled}
use Rattle.checkpoint.specs.declared.writing.WriteFault.TheVariants as WriteFault
use Rattle.checkpoint.proofs.Faults.{no_fault, same_error}
use Rattle.checkpoint.proofs.Paging.{laid_left, laid_ascends, laid_some, laid_next}
use Rattle.checkpoint.proofs.page_writer.PageWriter.add.Goals as goal

pub returns-in-Ok-clause-laid : goal.returns-in-Ok-clause-laid
returns-in-Ok-clause-laid g c keeps first rest all sorted laid =
    let disk = g.D.Device.disk in
    let old = c.args.self.now in
    let before : List ℕ = disk.content c.args.device.now in
    let after : List ℕ = disk.content c.end_page.new.device in
    let entry : Entry = (c.args.key.now, c.args.cell.now) in
    let full : 32768 < room_of (old.page ++ entry ∷ []) = search rules in
    let same : c.push.new.self ≡ old.page = search rules in
    let some = laid_some old first entry rest all before laid full in
    let ascends = laid_ascends old first (entry ∷ rest) all before sorted laid in
    let begun : c.push-2.new.self ≡ entry ∷ [] = c.in-Ok.ensures.pushed ∙ ap (λ (es : List Entry). es ++ entry ∷ []) c.in_ok-end_page.ensures.page in
    let Sorted : List Entry → Type 0 = λ es. IsTrue (is_sorted bytes_cmp es) in
    laid_next old _ first entry rest all before after laid full begun c.in_ok-end_page.ensures.left (λ pages filled.
    let Filled : List Entry → Type 0 = λ es. IsFilled c.end_page.new.self first (pages ++ es ∷ []) after in
    let ended = subst Filled same
    (c.in_ok-end_page.ensures.filled keeps first pages (λ empty. some (sym same ∙ empty)) (subst Sorted (sym same) ascends)
    (record { written = filled.written; there = filled.there; place = filled.place; are = filled.are }))
    in
    record { written = ended.written; there = ended.there; place = ended.place; are = ended.are })

pub returns-in_err-end_page-clause-laid : goal.returns-in_err-end_page-clause-laid
returns-in_err-end_page-clause-laid g c keeps first rest all sorted laid = IfOk-from_err c.from_residual.result _ c.from_residual.ensures.0

pub returns-in_err-end_page-clause-goes_on : goal.returns-in_err-end_page-clause-goes_on
returns-in_err-end_page-clause-goes_on g c = IfOk-from_err c.from_residual.result _ c.from_residual.ensures.0

pub returns-in_err-end_page-clause-inside : goal.returns-in_err-end_page-clause-inside
returns-in_err-end_page-clause-inside g c keeps = IfOk-from_err c.from_residual.result _ c.from_residual.ensures.0

pub returns-in_err-end_page-clause-damaged : goal.returns-in_err-end_page-clause-damaged
returns-in_err-end_page-clause-damaged g c keeps first rest all laid told =
    let passed = same_error c.from_residual.result c.end_page.result c.from_residual.ensures.1 c.in_err-end_page.was in
    let left = laid_left c.args.self.now first ((c.args.key.now, c.args.cell.now) ∷ rest) all (g.D.Device.disk.content c.args.device.now) laid in
    omega (arith, left, c.end_page.ensures.damaged (sym passed ∙ told))

pub returns-in_err-end_page-clause-refusal : goal.returns-in_err-end_page-clause-refusal
returns-in_err-end_page-clause-refusal g c =
    let passed = same_error c.from_residual.result c.end_page.result c.from_residual.ensures.1 c.in_err-end_page.was in
    subst (λ r. OnErr r (IsErrOf r WriteFault.Device ⊎ IsErrOf r WriteFault.Damaged)) (sym passed) c.end_page.ensures.refusal

pub returns-in_err-end_page-clause-cause : goal.returns-in_err-end_page-clause-cause
returns-in_err-end_page-clause-cause g c told =
    let passed = same_error c.from_residual.result c.end_page.result c.from_residual.ensures.1 c.in_err-end_page.was in
    c.end_page.ensures.cause (sym passed ∙ told)

pub returns-in_err-end_page-clause-ran : goal.returns-in_err-end_page-clause-ran
returns-in_err-end_page-clause-ran g c = c.end_page.ensures.ran

pub returns-in-Ok-clause-ran : goal.returns-in-Ok-clause-ran
returns-in-Ok-clause-ran g c = c.end_page.ensures.ran

pub returns-in-Err-clause-ran : goal.returns-in-Err-clause-ran
returns-in-Err-clause-ran g c = c.end_page.ensures.ran

pub returns-in-Ok-clause-damaged : goal.returns-in-Ok-clause-damaged
returns-in-Ok-clause-damaged g c keeps first rest all laid told = no_fault told

pub returns-in-Ok-clause-goes_on : goal.returns-in-Ok-clause-goes_on
returns-in-Ok-clause-goes_on g c = record { at = c.in_ok-end_page.ensures.goes_on.at; end = c.in_ok-end_page.ensures.goes_on.end }

pub returns-in-Ok-clause-inside : goal.returns-in-Ok-clause-inside
returns-in-Ok-clause-inside g c keeps = c.in_ok-end_page.ensures.inside keeps

pub returns-in-Ok-clause-cause : goal.returns-in-Ok-clause-cause
returns-in-Ok-clause-cause g c told = absurd (no_fault told)

pub returns-then-is_ok-clause-damaged : goal.returns-then-is_ok-clause-damaged
returns-then-is_ok-clause-damaged g c keeps first rest all laid told = no_fault told

pub returns-then-is_ok-clause-goes_on : goal.returns-then-is_ok-clause-goes_on
returns-then-is_ok-clause-goes_on g c = record { at = omega arith; end = refl }

pub returns-then-is_ok-clause-inside : goal.returns-then-is_ok-clause-inside
returns-then-is_ok-clause-inside g c keeps = c.requires.inside keeps

pub returns-then-is_ok-clause-cause : goal.returns-then-is_ok-clause-cause
returns-then-is_ok-clause-cause g c told = absurd (no_fault told)

pub returns-then-is_ok-clause-ran : goal.returns-then-is_ok-clause-ran
returns-then-is_ok-clause-ran g c =
    let writer = c.args.self.now in
    not_yet g.D.Device.disk c.args.device.now (Torn (512 * writer.at) (32768 * (writer.filled + writer.left)))
    (λ x. torn_idle (512 * writer.at) (32768 * (writer.filled + writer.left)) x) (λ keeps x since. g.met.D.Device.only_now c.args.device.now x keeps since)

pub returns-in_err-end_page-clause-steady : goal.returns-in_err-end_page-clause-steady
returns-in_err-end_page-clause-steady g c = IfOk-from_err c.from_residual.result _ c.from_residual.ensures.0

pub returns-in-Ok-clause-steady : goal.returns-in-Ok-clause-steady
returns-in-Ok-clause-steady g c = c.in_ok-end_page.ensures.steady

pub returns-then-is_ok-clause-steady : goal.returns-then-is_ok-clause-steady
returns-then-is_ok-clause-steady g c = refl
