use Rattle.std.proofs.Common.{rules, arith, refl, ⊎_elim, ◌≡◌, ◌∙◌, sym, ap, subst, ◌+◌, ◌*◌, ℕ, List, [], ◌∷◌, ◌++◌, length, IsTrue}
use Rattle.std.proofs.lemmas.Result.{IfOk-from_err}
use Rattle.std.specs.Prelude.{IsErrOf}
use Rattle.std.specs.FinMap.{is_sorted}
use Rattle.gatelog.specs.Record.{part}
use Rattle.gatelog.proofs.Walking.{same_then}
use Rattle.pages.specs.Page.{Entry, bytes_cmp, entries_in, IsSound}
use Rattle.checkpoint.specs.Index.{IsIndexed}
use Rattle.checkpoint.specs.Pages.{pages_at, joined}
use Rattle.checkpoint.specs.Reader.{Heard}
use Rattle.checkpoint.specs.declared.scanning.ScanFault.TheVariants as ScanFault
use Rattle.checkpoint.proofs.Faults.{err_is, no_fault, one_of_two}
use Rattle.checkpoint.proofs.Hearing.{heard_then}
use Rattle.checkpoint.proofs.Joining.{page_at, pages_at-more, sound_more, sound_at, sorted_to, joined-push}
use Rattle.checkpoint.proofs.Taking.{page_read}
use Rattle.checkpoint.proofs.scanning.take_pages.Given.{Over}
use Rattle.checkpoint.proofs.scanning.take_pages.Goals.{After-take_page}
use Rattle.checkpoint.proofs.scanning.take_pages.Goals as goal

-- the buffer holds the page
read_page : (g : Over) (c : After-take_page g) → g.D.Device.disk.keeps c.args.device.now
    → c.read.new.buffer ≡ page_at c.args.root.now.first_sector c.loop-i.i (g.D.Device.disk.content c.args.device.now)
read_page g c keeps =
    let inv = c.loop-i.invariant in
    let size : length c.loop-i.buffer ≡ 32768 = omega arith in
    let place : c.args.root.now.first_sector + 64 * c.from.result ≡ c.args.root.now.first_sector + 64 * c.loop-i.i = omega (arith, c.from.ensures) in
    page_read (c.args.root.now.first_sector + 64 * c.from.result) c.loop-i.buffer c.read.new.buffer (g.D.Device.disk.content c.loop-i.device)
    (g.D.Device.disk.content c.args.device.now) size (c.in_ok-read.ensures.bytes (inv.ran.kept keeps)) (inv.ran.seen keeps)
    ∙ ap (λ at. part (512 * at) 32768 (g.D.Device.disk.content c.args.device.now)) place

pub returns-in_err-refused-clause-page : goal.returns-in_err-refused-clause-page
returns-in_err-refused-clause-page g c keeps is holds =
    let content : List ℕ = g.D.Device.disk.content c.args.device.now in
    let root = c.args.root.now in
    let pages : List (List Entry) = pages_at root.first_sector c.loop-i.i content in
    let read = read_page g (goal.at.returns-in_err-refused-clause-page g c).After-take_page keeps in
    let told : IsErrOf c.take_page.result ScanFault.Page = search rules in
    let Sorted : List ℕ → Type 0 = λ x. IsTrue (is_sorted bytes_cmp (joined pages ++ entries_in x)) in
    c.take_page.ensures.page pages (c.loop-i.invariant.indexed keeps) told
    (subst (λ (x : List ℕ). IsSound x) (sym read) (sound_at root.first_sector root.pages c.loop-i.i content holds.sound c.loop-i-test.true))
    (subst Sorted (sym read) (sorted_to root.first_sector root.pages c.loop-i.i content c.loop-i-test.true holds.ascending))

pub loop-i-preserved : goal.loop-i-preserved
loop-i-preserved g c =
    let inv = c.loop-i.invariant in
    let disk = g.D.Device.disk in
    let content : List ℕ = disk.content c.args.device.now in
    let root = c.args.root.now in
    let i : ℕ = c.loop-i.i in
    let pages : List (List Entry) = pages_at root.first_sector i content in
    let read = read_page g (goal.at.loop-i-preserved g c).After-take_page in
    let page : List Entry = entries_in (page_at root.first_sector i content) in
    record {
      ran = same_then disk c.args.device.now c.loop-i.device c.read.new.self inv.ran c.read.ensures.ran;
      steady = c.in_ok-read.ensures.cause.well refl ∙ inv.steady;
      sound = λ keeps.
          sound_more root.first_sector i content (inv.sound keeps) (subst (λ (x : List ℕ). IsSound x) (read keeps) c.in_ok-refused.ensures.sound);
      indexed = λ keeps.
          let Indexed : List (List Entry) → Type 0 = λ ps. IsIndexed c.take_page.new.index ps in
          subst Indexed (ap (λ (x : List ℕ). pages ++ entries_in x ∷ []) (read keeps) ∙ sym (pages_at-more root.first_sector i content))
          (c.in_ok-refused.ensures.added pages (inv.indexed keeps));
      heard = λ keeps.
          let told = g.R.Reader.told in
          let refuses = g.R.Reader.refuses in
          let Heard_page : List ℕ → Type 0 = λ x. Heard told refuses c.loop-i.reader c.take_page.new.reader (entries_in x) c.in_ok-refused.refused in
          let Heard_all : List Entry → Type 0 = λ es. Heard told refuses c.args.reader.now c.take_page.new.reader es c.in_ok-refused.refused in
          subst Heard_all (sym (ap joined (pages_at-more root.first_sector i content) ∙ joined-push pages page))
          (heard_then told refuses g.met.R.Reader.told_then c.args.reader.now c.loop-i.reader c.take_page.new.reader c.loop-i.refused c.in_ok-refused.refused
          (joined pages) page (inv.heard keeps)
          (λ none. subst Heard_page (read keeps) (c.in_ok-refused.ensures.heard none))
          c.in_ok-refused.ensures.refused);
    }

pub returns-in_err-read-clause-whole : goal.returns-in_err-read-clause-whole
returns-in_err-read-clause-whole g c keeps = IfOk-from_err c.from_residual.result _ c.from_residual.ensures.0

pub returns-in_err-read-clause-indexed : goal.returns-in_err-read-clause-indexed
returns-in_err-read-clause-indexed g c keeps = IfOk-from_err c.from_residual.result _ c.from_residual.ensures.0

pub returns-in_err-read-clause-heard : goal.returns-in_err-read-clause-heard
returns-in_err-read-clause-heard g c keeps = IfOk-from_err c.from_residual.result _ c.from_residual.ensures.0

pub returns-in_err-read-clause-ran : goal.returns-in_err-read-clause-ran
returns-in_err-read-clause-ran g c =
    same_then g.D.Device.disk c.args.device.now c.loop-i.device c.read.new.self c.loop-i.invariant.ran c.read.ensures.ran

pub returns-in_err-refused-clause-whole : goal.returns-in_err-refused-clause-whole
returns-in_err-refused-clause-whole g c keeps = IfOk-from_err c.from_residual-in_err-refused.result _ c.from_residual-in_err-refused.ensures.0

pub returns-in_err-refused-clause-indexed : goal.returns-in_err-refused-clause-indexed
returns-in_err-refused-clause-indexed g c keeps = IfOk-from_err c.from_residual-in_err-refused.result _ c.from_residual-in_err-refused.ensures.0

pub returns-in_err-refused-clause-heard : goal.returns-in_err-refused-clause-heard
returns-in_err-refused-clause-heard g c keeps = IfOk-from_err c.from_residual-in_err-refused.result _ c.from_residual-in_err-refused.ensures.0

pub returns-in_err-refused-clause-ran : goal.returns-in_err-refused-clause-ran
returns-in_err-refused-clause-ran g c =
    same_then g.D.Device.disk c.args.device.now c.loop-i.device c.read.new.self c.loop-i.invariant.ran c.read.ensures.ran

pub returns-in_err-read-clause-page : goal.returns-in_err-read-clause-page
returns-in_err-read-clause-page g c keeps told holds =
    let is : ScanFault.Page ≡ ScanFault.Device = err_is c.from_residual.result _ ScanFault.Page c.from_residual.ensures.1 told in
    absurd cc

pub returns-in_err-read-clause-refusal : goal.returns-in_err-read-clause-refusal
returns-in_err-read-clause-refusal g c told =
    let is : ScanFault.Entry ≡ ScanFault.Device = err_is c.from_residual.result _ ScanFault.Entry c.from_residual.ensures.1 told in
    absurd cc

pub returns-in_err-refused-clause-refusal : goal.returns-in_err-refused-clause-refusal
returns-in_err-refused-clause-refusal g c told =
    absurd (⊎_elim (λ is. cc) (λ is. cc)
    (one_of_two c.from_residual-in_err-refused.result c.take_page.result ScanFault.Page ScanFault.Memory ScanFault.Entry
    c.from_residual-in_err-refused.ensures.1 c.in_err-refused.was c.take_page.ensures.refusal told))

pub returns-in_err-refused-clause-cause : goal.returns-in_err-refused-clause-cause
returns-in_err-refused-clause-cause g c told =
    absurd (⊎_elim (λ is. cc) (λ is. cc)
    (one_of_two c.from_residual-in_err-refused.result c.take_page.result ScanFault.Page ScanFault.Memory ScanFault.Device
    c.from_residual-in_err-refused.ensures.1 c.in_err-refused.was c.take_page.ensures.refusal told))

pub returns-clause-page : goal.returns-clause-page
returns-clause-page g c keeps told holds = no_fault told

pub returns-clause-refusal : goal.returns-clause-refusal
returns-clause-refusal g c told = no_fault told

pub returns-clause-cause : goal.returns-clause-cause
returns-clause-cause g c told = absurd (no_fault told)

pub returns-clause-ran : goal.returns-clause-ran
returns-clause-ran g c = c.loop-i.invariant.ran

pub returns-in_err-read-clause-steady : goal.returns-in_err-read-clause-steady
returns-in_err-read-clause-steady g c = IfOk-from_err c.from_residual.result _ c.from_residual.ensures.0

pub returns-in_err-refused-clause-steady : goal.returns-in_err-refused-clause-steady
returns-in_err-refused-clause-steady g c = IfOk-from_err c.from_residual-in_err-refused.result _ c.from_residual-in_err-refused.ensures.0

pub returns-clause-steady : goal.returns-clause-steady
returns-clause-steady g c = c.loop-i.invariant.steady

pub returns-in_err-read-clause-unfailed : goal.returns-in_err-read-clause-unfailed
returns-in_err-read-clause-unfailed g c told =
    let is : ScanFault.Memory ≡ ScanFault.Device = err_is c.from_residual.result _ ScanFault.Memory c.from_residual.ensures.1 told in
    absurd cc

pub returns-in_err-refused-clause-unfailed : goal.returns-in_err-refused-clause-unfailed
returns-in_err-refused-clause-unfailed g c told = c.in_ok-read.ensures.cause.well refl ∙ c.loop-i.invariant.steady

pub returns-clause-unfailed : goal.returns-clause-unfailed
returns-clause-unfailed g c told = c.loop-i.invariant.steady
