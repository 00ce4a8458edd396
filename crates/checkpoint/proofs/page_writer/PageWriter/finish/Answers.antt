use Rattle.std.proofs.Common.{arith, refl, ◌≡◌, ◌∙◌, ap, length, ◌+◌, ◌*◌, ◌++◌, ◌∷◌, [], List, ℕ, subst}
use Rattle.pages.specs.Page.{Entry}
use Rattle.checkpoint.specs.PageWriter.{IsFilled, IsLaid}
use Rattle.std.proofs.lemmas.List.{length-append}
use Rattle.checkpoint.specs.Filling.{pages_of}
use Rattle.checkpoint.specs.declared.page_writer.PageWriter as writing
use Rattle.checkpoint.specs.declared.writing.WriteFault.TheVariants as WriteFault
use Rattle.checkpoint.proofs.Faults.{err_is, was_err}
use Rattle.checkpoint.proofs.Buffering.{torn_then, filled_all}
use Rattle.checkpoint.proofs.Paging.{laid_ascends, laid_last_some}
use Rattle.checkpoint.proofs.page_writer.PageWriter.finish.Goals as goal

pub returns-in_err-flush-clause-ran : goal.returns-in_err-flush-clause-ran
returns-in_err-flush-clause-ran g c =
    torn_then g.D.Device.disk c.args.device.now c.end_page.new.device c.flush.new.device (512 * c.args.self.now.at)
    (32768 * (c.args.self.now.filled + c.args.self.now.left)) (512 * c.end_page.new.self.at) (32768 * c.end_page.new.self.filled)
    (omega (arith, c.in_ok-end_page.ensures.goes_on.at)) (omega (arith, c.in_ok-end_page.ensures.goes_on.end))
    c.end_page.ensures.ran c.flush.ensures.ran

pub returns-clause-ran : goal.returns-clause-ran
returns-clause-ran g c =
    torn_then g.D.Device.disk c.args.device.now c.end_page.new.device c.flush.new.device (512 * c.args.self.now.at)
    (32768 * (c.args.self.now.filled + c.args.self.now.left)) (512 * c.end_page.new.self.at) (32768 * c.end_page.new.self.filled)
    (omega (arith, c.in_ok-end_page.ensures.goes_on.at)) (omega (arith, c.in_ok-end_page.ensures.goes_on.end))
    c.end_page.ensures.ran c.flush.ensures.ran

pub returns-clause-pages : goal.returns-clause-pages
returns-clause-pages g c keeps first all sorted laid =
    let disk = g.D.Device.disk in
    let old = c.args.self.now in
    let content : List ℕ = disk.content c.args.device.now in
    let kept = c.end_page.ensures.ran.kept keeps in
    let Filled : List (List Entry) → Type 0 = λ ps. IsFilled c.flush.new.self first ps (disk.content c.flush.new.device) in
    let ended = c.in_ok-end_page.ensures.filled keeps first laid.pages (laid_last_some old first all content laid)
    (laid_ascends old first [] all content sorted laid) laid.filled
    in
    filled_all c.flush.new.self first all (disk.content c.flush.new.device)
    (subst Filled laid.are (c.in_ok-flush.ensures.filled kept first (laid.pages ++ old.page ∷ []) ended)) c.in_ok-flush.ensures.empty

-- the last page is still to be filled
one_left : (writer : writing.PageWriter) (first : ℕ) (all : List Entry) (content : List ℕ) → IsLaid writer first [] all content → writer.left ≡ 1
one_left writer first all content laid =
    let size : length (laid.pages ++ writer.page ∷ []) ≡ length (pages_of all) = ap length laid.are in
    omega (arith, size, laid.count, length-append laid.pages (writer.page ∷ []))

pub returns-in_err-end_page-clause-damaged : goal.returns-in_err-end_page-clause-damaged
returns-in_err-end_page-clause-damaged g c keeps first all laid told =
    let damaged = err_is c.from_residual.result _ WriteFault.Damaged c.from_residual.ensures.1 told in
    let none = c.end_page.ensures.damaged (was_err c.in_err-end_page.was damaged) in
    let left = one_left c.args.self.now first all (g.D.Device.disk.content c.args.device.now) laid in
    omega (arith, none, left)

pub returns-in_err-flush-clause-damaged : goal.returns-in_err-flush-clause-damaged
returns-in_err-flush-clause-damaged g c keeps first all laid told =
    let handed = c.from_residual-in_err-flush in
    let device : WriteFault.Damaged ≡ WriteFault.Device = err_is handed.result _ WriteFault.Damaged handed.ensures.1 told in
    cc

pub returns-clause-steady : goal.returns-clause-steady
returns-clause-steady g c = c.in_ok-flush.ensures.cause.well refl ∙ c.in_ok-end_page.ensures.steady
