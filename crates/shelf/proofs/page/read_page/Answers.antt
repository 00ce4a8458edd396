use Rattle.std.proofs.Common.{arith, refl, ◌≡◌, ◌∙◌, sym, ap, subst, List, ℕ, length}
use Rattle.std.proofs.lemmas.Result.{IfOk-from_err}
use Rattle.device.specs.Step.{Same}
use Rattle.device.proofs.Runs.{not_yet}
use Rattle.pages.specs.Page.{entries_in, IsSound}
use Rattle.checkpoint.proofs.Taking.{unsound}
use Rattle.shelf.specs.declared.fault.ShelfFault.TheVariants as ShelfFault
use Rattle.checkpoint.proofs.Faults.{err_is, no_fault}
use Rattle.shelf.proofs.Cached.{page_read}
use Rattle.shelf.proofs.page.read_page.Goals as goal

pub returns-in_err-check-clause-damaged : goal.returns-in_err-check-clause-damaged
returns-in_err-check-clause-damaged g c keeps is sound =
    let content : List ℕ = g.D.Device.disk.content c.args.device.now in
    let size : length c.in_ok-bytes.bytes.items ≡ 32768 = c.in_ok-bytes.ensures in
    let len : c.in_ok-bytes.bytes.len ≡ 32768 = omega (arith, size, c.in_ok-bytes.bytes.ok.0) in
    let read = page_read c.args.first_sector c.in_ok-bytes.bytes.len content c.in_ok-bytes.bytes.items c.deref_mut.result.now c.read.new.buffer size len
    c.deref_mut.ensures.value (c.in_ok-read.ensures.bytes keeps) (c.requires.inside keeps)
    in
    unsound _ c.in_err-check.field-0.0 ((c.in_err-check.ensures.damage c.in_err-check.field-0.0).0 refl) (subst (λ (bytes : List ℕ). IsSound bytes) (sym read) sound)

pub returns-clause-page : goal.returns-clause-page
returns-clause-page g c keeps =
    let content : List ℕ = g.D.Device.disk.content c.args.device.now in
    let size : length c.in_ok-bytes.bytes.items ≡ 32768 = c.in_ok-bytes.ensures in
    let len : c.in_ok-bytes.bytes.len ≡ 32768 = omega (arith, size, c.in_ok-bytes.bytes.ok.0) in
    let read = page_read c.args.first_sector c.in_ok-bytes.bytes.len content c.in_ok-bytes.bytes.items c.deref_mut.result.now c.read.new.buffer size len
    c.deref_mut.ensures.value (c.in_ok-read.ensures.bytes keeps) (c.requires.inside keeps)
    in
    sym c.in_ok-check.ensures.found.are ∙ ap entries_in read

pub returns-in_err-bytes-clause-damaged : goal.returns-in_err-bytes-clause-damaged
returns-in_err-bytes-clause-damaged g c keeps told =
    let is : ShelfFault.Page ≡ ShelfFault.Memory =
    err_is c.from_residual.result _ ShelfFault.Page c.from_residual.ensures.1 told
    in
    cc

pub returns-in_err-bytes-clause-refusal : goal.returns-in_err-bytes-clause-refusal
returns-in_err-bytes-clause-refusal g c told =
    let is : ShelfFault.Entry ≡ ShelfFault.Memory =
    err_is c.from_residual.result _ ShelfFault.Entry c.from_residual.ensures.1 told
    in
    cc

pub returns-in_err-bytes-clause-cause : goal.returns-in_err-bytes-clause-cause
returns-in_err-bytes-clause-cause g c told =
    let is : ShelfFault.Device ≡ ShelfFault.Memory =
    err_is c.from_residual.result _ ShelfFault.Device c.from_residual.ensures.1 told
    in
    cc

pub returns-in_err-read-clause-damaged : goal.returns-in_err-read-clause-damaged
returns-in_err-read-clause-damaged g c keeps told =
    let is : ShelfFault.Page ≡ ShelfFault.Device =
    err_is c.from_residual-in_err-read.result _ ShelfFault.Page c.from_residual-in_err-read.ensures.1 told
    in
    cc

pub returns-in_err-read-clause-refusal : goal.returns-in_err-read-clause-refusal
returns-in_err-read-clause-refusal g c told =
    let is : ShelfFault.Entry ≡ ShelfFault.Device =
    err_is c.from_residual-in_err-read.result _ ShelfFault.Entry c.from_residual-in_err-read.ensures.1 told
    in
    cc

pub returns-in_err-check-clause-refusal : goal.returns-in_err-check-clause-refusal
returns-in_err-check-clause-refusal g c told =
    let is : ShelfFault.Entry ≡ ShelfFault.Page =
    err_is c.from_residual-in_err-check.result _ ShelfFault.Entry c.from_residual-in_err-check.ensures.1 told
    in
    cc

pub returns-in_err-check-clause-cause : goal.returns-in_err-check-clause-cause
returns-in_err-check-clause-cause g c told =
    let is : ShelfFault.Device ≡ ShelfFault.Page =
    err_is c.from_residual-in_err-check.result _ ShelfFault.Device c.from_residual-in_err-check.ensures.1 told
    in
    cc

pub returns-in_err-bytes-clause-page : goal.returns-in_err-bytes-clause-page
returns-in_err-bytes-clause-page g c keeps = IfOk-from_err c.from_residual.result _ c.from_residual.ensures.0

pub returns-in_err-read-clause-page : goal.returns-in_err-read-clause-page
returns-in_err-read-clause-page g c keeps = IfOk-from_err c.from_residual-in_err-read.result _ c.from_residual-in_err-read.ensures.0

pub returns-in_err-check-clause-page : goal.returns-in_err-check-clause-page
returns-in_err-check-clause-page g c keeps = IfOk-from_err c.from_residual-in_err-check.result _ c.from_residual-in_err-check.ensures.0

pub returns-in_err-bytes-clause-ran : goal.returns-in_err-bytes-clause-ran
returns-in_err-bytes-clause-ran g c = not_yet g.D.Device.disk c.args.device.now Same (λ c. refl) (λ keeps content since. g.met.D.Device.only_now c.args.device.now content keeps since)

pub returns-in_err-read-clause-ran : goal.returns-in_err-read-clause-ran
returns-in_err-read-clause-ran g c = c.read.ensures.ran

pub returns-in_err-read-clause-cause : goal.returns-in_err-read-clause-cause
returns-in_err-read-clause-cause g c told = c.in_err-read.ensures.cause.failed refl

pub returns-in_err-check-clause-ran : goal.returns-in_err-check-clause-ran
returns-in_err-check-clause-ran g c = c.read.ensures.ran

pub returns-clause-damaged : goal.returns-clause-damaged
returns-clause-damaged g c keeps told = absurd (no_fault told)

pub returns-clause-refusal : goal.returns-clause-refusal
returns-clause-refusal g c told = no_fault told

pub returns-clause-ran : goal.returns-clause-ran
returns-clause-ran g c = c.read.ensures.ran

pub returns-clause-cause : goal.returns-clause-cause
returns-clause-cause g c told = absurd (no_fault told)

pub returns-in_err-bytes-clause-steady : goal.returns-in_err-bytes-clause-steady
returns-in_err-bytes-clause-steady g c = IfOk-from_err c.from_residual.result _ c.from_residual.ensures.0

pub returns-in_err-read-clause-steady : goal.returns-in_err-read-clause-steady
returns-in_err-read-clause-steady g c = IfOk-from_err c.from_residual-in_err-read.result _ c.from_residual-in_err-read.ensures.0

pub returns-in_err-check-clause-steady : goal.returns-in_err-check-clause-steady
returns-in_err-check-clause-steady g c = IfOk-from_err c.from_residual-in_err-check.result _ c.from_residual-in_err-check.ensures.0

pub returns-clause-steady : goal.returns-clause-steady
returns-clause-steady g c = c.in_ok-read.ensures.cause.well refl

pub returns-in_err-bytes-clause-unfailed : goal.returns-in_err-bytes-clause-unfailed
returns-in_err-bytes-clause-unfailed g c told = refl

pub returns-in_err-read-clause-unfailed : goal.returns-in_err-read-clause-unfailed
returns-in_err-read-clause-unfailed g c told =
    let is : ShelfFault.Memory ≡ ShelfFault.Device =
    err_is c.from_residual-in_err-read.result _ ShelfFault.Memory c.from_residual-in_err-read.ensures.1 told
    in
    absurd cc

pub returns-in_err-check-clause-unfailed : goal.returns-in_err-check-clause-unfailed
returns-in_err-check-clause-unfailed g c told = c.in_ok-read.ensures.cause.well refl

pub returns-clause-unfailed : goal.returns-clause-unfailed
returns-clause-unfailed g c told = c.in_ok-read.ensures.cause.well refl
